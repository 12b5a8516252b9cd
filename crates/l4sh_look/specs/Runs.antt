-- Times as they are held: each once or a few times, with how often it came.
use Rattle.std.specs.Prelude.{◌≡◌, ℕ, ◌^◌, ◌≤◌, List, [], ◌∷◌, ◌++◌, length, replicate}
use Rattle.std.specs.List.Sorted.{IsPermutation}
use Rattle.l4sh_look.specs.declared.times.Run.{Run}
use Rattle.l4sh_look.specs.declared.times.Times.{Times}

-- the times of runs
unfoldable pub times_of : List Run → List ℕ
times_of [] = []
times_of (run ∷ runs) = replicate run.count run.time ++ times_of runs

-- so many times at most are held  -- limit
abbrev pub max_times : ℕ
max_times = 2 ^ 62

-- these times are held, in another order
pub record AreHeld (times : List ℕ) (held : Times) : Type 0 where
  pub same : IsPermutation times (times_of held.runs.items)
  pub counted : held.count ≡ length times
  pub few : held.count ≤ max_times

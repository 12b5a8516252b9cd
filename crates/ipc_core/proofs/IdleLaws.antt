-- A thread that is not busy has nothing to take.
use Rattle.std.proofs.lemmas.Bool.{true≢false}
use Rattle.std.proofs.Common.{◌≡◌, refl, ℕ, Bool, true, false, not, ◌&&◌, if◌then◌else◌, Option, Some, None, option_and_then}
use Rattle.std.specs.Option.{option_map_or}
use Rattle.ipc_history.specs.Outcomes.{outcome_of}
use Rattle.ipc_history.specs.Threads.{is_live}
use Rattle.ipc_laws.proofs.Tests.{neither_right}
use Rattle.ipc_desks.specs.CallsOf.{is_busy as waits, last_call, outcome_to_take as waiting, untaken_outcome}
use Rattle.ipc_core.specs.Laws.{IdleHasNothing}
use Rattle.ipc_core.specs.Outcomes.{has_untaken, is_among, is_busy, outcome_to_take}

pub idle_has_nothing : IdleHasNothing
unfolding is_busy has_untaken outcome_to_take waits waiting
idle_has_nothing kernel thread idle = go (is_live kernel.history thread) (last_call kernel.history thread) (neither_right _ _ idle)
  where
    one : (n : ℕ) (a : Bool) → not a ≡ false → (if a then None else outcome_of kernel.history n) ≡ None
    one n true h = refl
    one n false h = absurd (true≢false h)

    go : (b : Bool) (o : Option ℕ) → (b && option_map_or (λ n. not (is_among n kernel.taken)) o false) ≡ false → (if b then option_and_then (untaken_outcome kernel.history kernel.taken) o else None) ≡ None
    go false o h = refl
    go true None h = refl
    go true (Some n) h = one n (is_among n kernel.taken) h

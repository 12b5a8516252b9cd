-- The places under whose calls the next output is found.
use Rattle.std.specs.Prelude.{◌≡◌, ℕ, List, [], ◌∷◌, ◌++◌, ◌==◌, ◌<◌, All, Bool, if◌then◌else◌}
use Rattle.std.specs.List.{IsDistinct}
use Rattle.ipc_words.specs.Limits.{table_slots}
use Rattle.ipc_waits.specs.Finding.{is_among}

-- places of a table, each once
pub record ArePlaces (places : List ℕ) : Type 0 where
  pub once : IsDistinct (λ a b. a == b) places
  pub within : All (λ k. k < table_slots) places

-- one more, where it is not yet there
abbrev pub with_place : List ℕ → ℕ → List ℕ
with_place places place = (if is_among places place then places else places ++ place ∷ [])

-- where the slot of a place has changed: the place is one of them while the slot holds a call, and
-- the others are as they were
abbrev pub FollowsPlace : List ℕ → List ℕ → ℕ → Bool → Type 0
FollowsPlace old new place is_open = (k : ℕ) → is_among new k ≡ (if place == k then is_open else is_among old k)

-- How far a compaction has come that goes through the front of a list from its end.
use Rattle.std.specs.Prelude.{◌≡◌, ℕ, ◌<◌, ◌≤◌, List, length, take, drop, ◌++◌, Bool, slice_index_or}
use Rattle.ipc_history.specs.Keeping.{keeps_at, kept_ahead, places_ahead}
use Rattle.ipc_history.specs.declared.entry.Entry.{Entry}

-- of the entries from a place on, and before another one, those that are kept were moved to the end
-- of the front, and those before it are as they were
pub record IsGathered (test : Entry → Bool) (old now : List Entry) (behind place first : ℕ) (wanted : Bool) : Type 0 where
  pub size : length now ≡ length old
  pub within : first ≤ behind
  pub order : place ≤ first
  pub kept : drop first now ≡ kept_ahead test (drop place (take behind old)) (drop behind old) ++ drop behind old
  pub front : (k : ℕ) → k < place → (d : Entry) → slice_index_or now k d ≡ slice_index_or old k d
  pub wanted_is : wanted ≡ keeps_at test (drop place (take behind old) ++ drop behind old)

-- and so were their places
pub record ArePlacesGathered (test : Entry → Bool) (old : List Entry) (places now : List ℕ) (behind place first : ℕ) : Type 0 where
  pub size : length now ≡ length places
  pub kept : drop first now ≡ places_ahead test (drop place (take behind old)) (drop place places) (drop behind old)
  pub front : (k : ℕ) → k < place → (d : ℕ) → slice_index_or now k d ≡ slice_index_or places k d

-- Which slots an entry changed.
use Rattle.std.specs.Prelude.{◌≡◌, ℕ, ◌<◌, ◌==◌, ◌||◌, Bool, false, List, [], ◌∷◌, ◌++◌, Option, Some, None, IfSome, IsTrue}
use Rattle.std.specs.Option.{option_map_or}
use Rattle.ipc_words.specs.Limits.{table_slots}
use Rattle.ipc_words.specs.ThreadId.{number_of}
use Rattle.ipc_history.specs.Calls.{caller_of}
use Rattle.ipc_history.specs.Entries.{names}
use Rattle.ipc_history.specs.declared.entry.Entry.{Entry}
use Rattle.ipc_threads.specs.Slots.{slot_at}
use Rattle.ipc_threads.specs.Steps.{standing_in}
use Rattle.ipc_threads.specs.declared.changes.Change.{Change}
use Rattle.ipc_threads.specs.declared.changes.Changes.{Changes}
use Rattle.ipc_threads.specs.Slot.{Slot}

-- a place, and the open call that its slot holds
abbrev pub change_at : List Slot → ℕ → Change
change_at table place = record { place = place; before = standing_in (slot_at table place) }

-- it says what a slot of the old table held
abbrev pub IsChange : List Slot → Change → Type 0
IsChange old change = (change.place < table_slots) × (change.before ≡ standing_in (slot_at old change.place))

-- whether the changes name a place
abbrev pub names_place : ℕ → Option Change → Bool
names_place k change = option_map_or (λ c. c.place == k) change false

abbrev pub changes_at : Changes → ℕ → Bool
changes_at changes k = names_place k changes.first || names_place k changes.second

-- they name each slot that differs, with the call that it held in the old table
pub record HaveChanged (old new : List Slot) (changes : Changes) : Type 0 where
  pub first : IfSome changes.first (IsChange old)
  pub second : IfSome changes.second (IsChange old)
  pub apart : (a b : Change) → changes.first ≡ Some a → changes.second ≡ Some b → (a.place == b.place) ≡ false
  pub elsewhere : (k : ℕ) → changes_at changes k ≡ false → slot_at new k ≡ slot_at old k

-- a call of the slot at a place, which held none, has sent its message to the call of the slot at
-- another place, which holds none now; the others are as they were
pub record HaveExchanged (old new : List Slot) (place there : ℕ) : Type 0 where
  pub within : place < table_slots
  pub apart : (place == there) ≡ false
  pub free : standing_in (slot_at old place) ≡ None
  pub over : standing_in (slot_at new there) ≡ None
  pub elsewhere : (k : ℕ) → (k == place) ≡ false → (k == there) ≡ false → slot_at new k ≡ slot_at old k

-- and the place of each call that the entry names
abbrev pub HasNamed : List Entry → Entry → Changes → Type 0
HasNamed P e changes = (n : ℕ) → IsTrue (names n e) → IsTrue (changes_at changes (number_of (caller_of (P ++ e ∷ []) n)))

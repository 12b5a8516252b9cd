-- A message that passes at once: its transfer begins and ends.
use Rattle.std.specs.Prelude.{ℕ, List, Option, Some, None, IsTrue, ◌==◌, if◌then◌else◌, option_and_then, slice_set}
use Rattle.ipc_words.specs.ThreadId.{nilthread}
use Rattle.ipc_threads.specs.Slot.{Slot}
use Rattle.ipc_threads.specs.Slots.{slot_at}
use Rattle.ipc_threads.specs.Steps.{calling, holds, standing_in}
use Rattle.ipc_threads.specs.declared.pair.Pair.{Pair}
use Rattle.ipc_threads.specs.declared.slot.Phase.TheVariants.{Receiving}
use Rattle.ipc_threads.specs.declared.slot.Standing.{Standing}

-- the slots at the places of a pair hold its calls
pub record AreHeld (table : List Slot) (pair : Pair) : Type 0 where
  pub sending : IsTrue (holds (slot_at table pair.from) pair.sending)
  pub receiving : IsTrue (holds (slot_at table pair.to) pair.receiving)

-- what is left of a call whose message has passed at this moment: it waits to receive, or is over
abbrev pub passed : ℕ → Standing → Option Standing
passed moment s = (if s.from == nilthread then None else Some (record s { since = moment; phase = Receiving }))

-- of the call that a slot holds
abbrev pub passed_in : ℕ → Slot → Option Standing
passed_in moment slot = option_and_then (passed moment) (standing_in slot)

-- the sending call of one place has passed its message to the receiving call of another one, which
-- is over with it
abbrev pub passed_table : ℕ → List Slot → ℕ → ℕ → List Slot
passed_table moment table i j =
    slice_set (slice_set table i (calling (passed_in moment (slot_at table i)) (slot_at table i))) j
    (calling None
    (slot_at (slice_set table i (calling (passed_in moment (slot_at table i)) (slot_at table i))) j))

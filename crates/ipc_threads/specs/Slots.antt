-- What a history says of each thread number.
use Rattle.std.specs.Prelude.{◌≡◌, ◌≤◌, ◌+◌, nat_lt, ℕ, List, length, Option, Some, None, option_map, option_and_then}
use Rattle.std.specs.Prelude.{if◌then◌else◌, slice_set}
use Rattle.ipc_words.specs.Limits.{table_slots}
use Rattle.ipc_history.specs.Words.{last_some}
use Rattle.ipc_history.specs.Entries.{thread_in}
use Rattle.ipc_history.specs.Calls.{calls_made}
use Rattle.ipc_history.specs.Threads.{now, is_live, space_of, next_version}
use Rattle.ipc_history.specs.Phases.{open_call}
use Rattle.ipc_history.specs.declared.entry.Entry.{Entry}
use Rattle.ipc_laws.specs.Counting.{live_threads}
use Rattle.ipc_threads.specs.Last.{IsLast}
use Rattle.ipc_threads.specs.Standings.{standing_of}
use Rattle.ipc_history.specs.declared.entry.Entry.TheVariants.{Given, Written}
use Rattle.ipc_history.specs.declared.entry.Input.TheVariants.{Moved}
use Rattle.ipc_history.specs.declared.entry.Output.{Output}
use Rattle.ipc_threads.specs.Steps.{call_after, calling, with_call, held_sender}
use Rattle.ipc_threads.specs.declared.slot.Standing.{Standing}
use Rattle.ipc_threads.specs.declared.slot.Sender.{Sender}
use Rattle.ipc_threads.specs.declared.slot.Live.{Live}
use Rattle.ipc_threads.specs.Slot.{Slot}
pub use Rattle.ipc_threads.specs.Table.{blank, slot_at, fresh, ended, if_thread, live_in, live_slots, space_in, open_call_in}
use Rattle.ipc_threads.specs.declared.kept.KeptSlots.{KeptSlots}

-- the live thread of a number: the last one that was opened, where it has not ended
unfoldable pub live_of : List Entry → ℕ → Option ℕ
live_of P k = option_and_then (λ t. if is_live P t then Some t else None) (last_some (thread_in k) P)

unfoldable pub live_at : List Entry → ℕ → Live
live_at P t =
    record { thread = t; space = space_of P t; call = option_map (standing_of P) (open_call P t) }

unfoldable pub slot_of : List Entry → ℕ → Slot
slot_of P k = record { version = next_version P k; live = option_map (live_at P) (live_of P k) }

-- the top after an open of this number
abbrev pub raised : ℕ → ℕ → ℕ
raised number top = (if nat_lt number top then top else number + 1)

-- the slots are those of the history; no thread had a number from the top on
pub record Stands (P : List Entry) (slots : KeptSlots) : Type 0 where
  pub size : length slots.table ≡ table_slots
  pub moment : slots.moment ≡ now P
  pub calls_made : slots.calls_made ≡ calls_made P
  pub live : live_slots slots.table ≡ live_threads P
  pub top : slots.top ≤ table_slots
  pub above : (k : ℕ) → slots.top ≤ k → last_some (thread_in k) P ≡ None
  pub table : (k : ℕ) → slot_at slots.table k ≡ slot_of P k
  pub last : IsLast P slots.last

-- what an output makes of a slot, where it begins the transfer of this sender, and of the slots of
-- a sending and a receiving call
abbrev pub slot_after : Output → KeptSlots → Sender → Slot → Slot
slot_after output slots sender slot =
    with_call (call_after (Written output) slots.moment sender.caller sender.moved) slot

abbrev pub one_after : Output → KeptSlots → Sender → ℕ → List Slot
one_after output slots sender i =
    slice_set slots.table i (slot_after output slots sender (slot_at slots.table i))

abbrev pub both_after : Output → KeptSlots → ℕ → ℕ → List Slot
both_after output slots i j =
    slice_set (one_after output slots (held_sender (slot_at slots.table i)) i) j
    (slot_after output slots (held_sender (slot_at slots.table i)) (slot_at slots.table j))

-- a call of one slot that has sent its message to the call of another one, which is over with it
abbrev pub exchanged_table : List Slot → ℕ → ℕ → Option Standing → List Slot
exchanged_table table i j call =
    slice_set (slice_set table i (calling call (slot_at table i))) j
    (calling None (slot_at (slice_set table i (calling call (slot_at table i))) j))

-- what a copy makes of the slots of a sending and a receiving call
abbrev pub slot_copied : ℕ → ℕ → Slot → Slot
slot_copied n count slot = with_call (call_after (Given (Moved n count)) 0 0 0) slot

abbrev pub both_copied : ℕ → ℕ → List Slot → ℕ → ℕ → List Slot
both_copied n count table i j =
    slice_set (slice_set table i (slot_copied n count (slot_at table i))) j
    (slot_copied n count (slot_at table j))

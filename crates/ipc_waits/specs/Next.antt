-- What comes next of the calls at some places.
use Rattle.std.specs.Prelude.{◌≡◌, ℕ, ◌<◌, List, Option, Some, None, IsFalse, option_map, option_and_then, map, length}
use Rattle.std.specs.Option.{option_map_or}
use Rattle.ipc_words.specs.ThreadId.{number_of}
use Rattle.ipc_history.specs.Calls.{caller_of}
use Rattle.ipc_history.specs.NextOutput.{meeting_of}
use Rattle.ipc_history.specs.Phases.{is_over}
use Rattle.ipc_history.specs.declared.entry.Entry.{Entry}
use Rattle.ipc_history.specs.declared.entry.Output.{Output}
use Rattle.ipc_waits.specs.Finding.{source_of}
use Rattle.ipc_threads.specs.PastSlots.{PastSlots}
use Rattle.ipc_waits.specs.Least.{IsFound, IsLeast, earlier}
use Rattle.ipc_threads.specs.Slots.{slot_at}
use Rattle.ipc_threads.specs.Steps.{standing_in}
use Rattle.ipc_threads.specs.Slot.{Slot}
use Rattle.ipc_threads.specs.declared.slot.Standing.{Standing}
use Rattle.ipc_waits.specs.Waiting.{IsWaiting}
use Rattle.ipc_waits.specs.declared.queue.Wait.{Wait}
use Rattle.ipc_waits.specs.declared.waiting.Waiting.{Waiting}

-- the slots at these places
abbrev pub slots_at : List Slot → List ℕ → List Slot
slots_at table places = map (λ k. slot_at table k) places

-- the best of what f gives for the calls at these places: that of the least number
abbrev pub IsBest : (ℕ → Option Output) → List Slot → List ℕ → Option (ℕ × Output) → Type 0
IsBest f table places best = IsLeast f (slots_at table places) (length places) best

-- a call and what comes of its meeting
abbrev pub meeting_by : List Entry → ℕ → Option (ℕ × Output)
meeting_by P n = option_map (λ output. (n, output)) (meeting_of P n)

-- the meeting under a call: where it receives, that of the least call that it meets
abbrev pub meeting_under : List Entry → ℕ → Option (ℕ × Output)
meeting_under P n = option_and_then (meeting_by P) (source_of P n)

-- the better of the best so far and of the meeting under the call of a slot
abbrev pub better_meeting : List Entry → Option Standing → Option (ℕ × Output) → Option (ℕ × Output)
better_meeting P None best = best
better_meeting P (Some s) best = option_map_or (λ m. earlier best m.0 m.1) (meeting_under P s.number) best

-- the best of the meetings under the calls of the first i slots
pub record IsLeastMeeting (P : List Entry) (table : List Slot) (i : ℕ) (best : Option (ℕ × Output)) : Type 0 where
  pub seen : (k : ℕ) → k < i → (s : Standing) → standing_in (slot_at table k) ≡ Some s
      → (m : ℕ × Output) → meeting_under P s.number ≡ Some m → IsFound best m.0
  pub is : (b : ℕ × Output) → best ≡ Some b → meeting_of P b.0 ≡ Some b.1

-- a wait is that of an open call, at its place
pub record IsOpenAt (P : List Entry) (w : Wait) : Type 0 where
  pub opened : IsFalse (is_over P w.number)
  pub place : number_of (caller_of P w.number) ≡ w.place

-- slots that are read are those of this one, of which its invariant holds
pub record IsReadAs (slots : PastSlots) (waiting : Waiting) : Type 0 where
  pub same : slots ≡ waiting.slots
  pub holds : IsWaiting waiting

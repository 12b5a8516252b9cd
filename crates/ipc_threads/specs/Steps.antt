-- What an entry makes of what is kept of a call that it does not close.
use Rattle.std.specs.Prelude.{◌≡◌, ℕ, ◌+◌, ◌<◌, ◌^◌, Bool, true, false, ◌&&◌, ◌||◌, ◌==◌, Option, Some, None, unwrap_or}
use Rattle.std.specs.Prelude.{option_map, option_and_then, if◌then◌else◌}
use Rattle.std.specs.Option.{option_map_or}
use Rattle.ipc_words.specs.ThreadId.{nilthread}
use Rattle.ipc_history.specs.Entries.{receiver_in, sender_in, ends_send, turned_in, count_in, closes}
use Rattle.ipc_history.specs.declared.entry.Entry.{Entry}
use Rattle.ipc_threads.specs.declared.slot.Phase.{Phase}
use Rattle.ipc_threads.specs.declared.slot.Phase.TheVariants.{Sending, Passing, Receiving, Taking}
use Rattle.ipc_threads.specs.declared.slot.Standing.{Standing}
use Rattle.ipc_threads.specs.declared.slot.Live.{Live}
use Rattle.ipc_threads.specs.Slot.{Slot}
use Rattle.ipc_threads.specs.declared.slot.Sender.{Sender}
use Rattle.ipc_history.specs.declared.entry.Output.{Output}
use Rattle.ipc_history.specs.declared.entry.Output.TheVariants.{Began, Turned, Ended, Overflowed, Aborted, Failed}

-- the phase after an entry that begins or ends its send, begins its receive, or copies bytes: of a
-- Began the sending call's caller and the bytes that it has copied
abbrev pub next_phase : Option ℕ → Bool → Option ℕ → (ℕ → ℕ) → ℕ → ℕ → Phase → Phase
next_phase receiver ended sender count caller moved Sending = option_map_or (λ m. Passing m) receiver Sending
next_phase receiver ended sender count caller moved (Passing m) = (if ended then Receiving else Passing m)
next_phase receiver ended sender count caller moved Receiving = option_map_or (λ k. Taking k caller moved) sender Receiving
next_phase receiver ended sender count caller moved (Taking k by bytes) = Taking k by (bytes + count k)

-- after Began(sending, receiving), and after the end of its send
abbrev pub begun_phase : ℕ → ℕ → ℕ → ℕ → ℕ → Phase → Phase
begun_phase n sending receiving caller moved Sending = (if sending == n then Passing receiving else Sending)
begun_phase n sending receiving caller moved Receiving = (if receiving == n then Taking sending caller moved else Receiving)
begun_phase n sending receiving caller moved phase = phase

abbrev pub sent_phase : Phase → Phase
sent_phase (Passing m) = Receiving
sent_phase phase = phase

abbrev pub standing_after : Entry → ℕ → ℕ → ℕ → Standing → Standing
standing_after e moment caller moved s = record s {
  awaited = unwrap_or (turned_in s.number e) s.awaited;
  since = if ends_send s.number e then moment else s.since;
  moved = s.moved + count_in s.number e;
  phase = next_phase (receiver_in s.number e) (ends_send s.number e) (sender_in s.number e) (λ k. count_in k e)
      caller moved s.phase;
}

-- an entry that breaks no thread closes a call: by naming it, or by ending its send where it has no
-- receive phase
abbrev pub is_closed_by : Entry → Standing → Bool
is_closed_by e s = closes s.number e || ((s.from == nilthread) && ends_send s.number e)

abbrev pub call_after : Entry → ℕ → ℕ → ℕ → Standing → Option Standing
call_after e moment caller moved s = (if is_closed_by e s then None else Some (standing_after e moment caller moved s))

-- a thread, and a slot, whose call is changed
abbrev pub live_with : (Standing → Option Standing) → Live → Live
live_with change l = record l { call = option_and_then change l.call }

abbrev pub with_call : (Standing → Option Standing) → Slot → Slot
with_call change slot = record slot { live = option_map (live_with change) slot.live }

-- the open call of a slot, and whether it is that of this number
abbrev pub standing_in : Slot → Option Standing
standing_in slot = option_and_then (λ l. l.call) slot.live

abbrev pub holds : Slot → ℕ → Bool
holds slot n = option_map_or (λ s. s.number == n) (standing_in slot) false

-- the caller of the call of a slot, and the bytes that it has copied
abbrev pub no_sender : Sender
no_sender = record { caller = 0; moved = 0 }

abbrev pub live_sender : Live → Sender
live_sender l = option_map_or (λ s. record { caller = l.thread; moved = s.moved }) l.call no_sender

abbrev pub held_sender : Slot → Sender
held_sender slot = option_map_or live_sender slot.live no_sender

-- the calls that an output names
abbrev pub Names : Output → ℕ → ℕ → Type 0
Names (Began k j) n m = (n ≡ k) × (m ≡ j)
Names (Turned k thread) n m = (n ≡ k) × (m ≡ k)
Names (Ended k j) n m = (n ≡ k) × (m ≡ j)
Names (Overflowed k j offset) n m = (n ≡ k) × (m ≡ j)
Names (Aborted k j count) n m = (n ≡ k) × (m ≡ j)
Names (Failed k code) n m = (n ≡ k) × (m ≡ k)

-- whether it names two
abbrev pub names_two : Output → Bool
names_two (Turned i thread) = false
names_two (Failed i code) = false
names_two output = true

-- a slot whose thread gets a call
abbrev pub called_live : Option Standing → Live → Live
called_live call l = record l { call = call }

abbrev pub calling : Option Standing → Slot → Slot
calling call slot = record slot { live = option_map (called_live call) slot.live }

-- after a copy of bytes of n; the counts stay small
abbrev pub copied_phase : ℕ → ℕ → Phase → Phase
copied_phase n count (Taking k by bytes) = Taking k by (bytes + (if n == k then count else 0))
copied_phase n count phase = phase

abbrev pub copied : ℕ → ℕ → Standing → Standing
copied n count s = record s { moved = s.moved + (if n == s.number then count else 0); phase = copied_phase n count s.phase }

abbrev pub taken : Phase → ℕ
taken (Taking k by bytes) = bytes
taken phase = 0

pub record HasRoom (count : ℕ) (s : Standing) : Type 0 where
  pub moved : s.moved + count < 2 ^ 64
  pub taken : taken s.phase + count < 2 ^ 64

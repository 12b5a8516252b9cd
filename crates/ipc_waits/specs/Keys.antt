-- Under which keys an open call waits, by what is kept of it.
use Rattle.std.specs.Prelude.{◌≡◌, ℕ, ◌+◌, ◌-◌, ◌^◌, min, List, Bool, false, ◌&&◌, ◌||◌, ◌==◌}
use Rattle.std.specs.Prelude.{Option, Some, None, option_map, if◌then◌else◌}
use Rattle.std.specs.Option.{option_map_or}
use Rattle.ipc_words.specs.ThreadId.{anythread, anylocalthread}
use Rattle.ipc_words.specs.Time.{span}
use Rattle.ipc_waits.specs.Rules.{waits_to_receive, waits_to_send}
use Rattle.ipc_threads.specs.Standings.{partner_by}
use Rattle.ipc_threads.specs.Slots.{slot_at}
use Rattle.ipc_threads.specs.Steps.{standing_in}
use Rattle.ipc_threads.specs.declared.slot.Phase.{Phase}
use Rattle.ipc_threads.specs.declared.slot.Phase.TheVariants.{Sending, Receiving}
use Rattle.ipc_threads.specs.Slot.{Slot}
use Rattle.ipc_threads.specs.declared.slot.Standing.{Standing}
use Rattle.ipc_waits.specs.Queues.{is_in}
use Rattle.ipc_waits.specs.declared.queue.Wait.{Wait}
use Rattle.ipc_waits.specs.declared.queues.Waits.{Waits}

-- a waiting send phase: the receiver that it sends to
abbrev pub sends_under : Standing → Option ℕ
sends_under s = (if waits_to_send s.phase then Some s.to else None)

-- the thread whose end fails the call: that which it sends to, waits for or is in transfer with;
-- none for a receive from any thread
abbrev pub watches_under : Standing → Option ℕ
watches_under s =
    (if waits_to_receive s.phase && ((s.awaited == anythread) || (s.awaited == anylocalthread)) then None
    else Some (partner_by s))

-- the moment at which a period is over that begins at another moment, in microseconds, or the
-- greatest number where that is past it; none for never
abbrev pub due_after : ℕ → ℕ → Option ℕ
due_after since period = option_map (λ micros. min (since + micros) (2 ^ 64 - 1)) (span period)

-- the moment from which its waiting phase is due
abbrev pub due_under : Standing → Option ℕ
due_under s = of s.phase
  where
    of : Phase → Option ℕ
    of Sending = due_after s.since s.send_period
    of Receiving = due_after s.since s.receive_period
    of phase = None

-- whether this wait is that of a call
abbrev pub is_of : (Standing → Option ℕ) → Option Standing → Wait → Bool
is_of key_of call w =
    option_map_or (λ s. (s.number == w.number) && option_map_or (λ key. key == w.key) (key_of s) false) call false

-- at this place a queue has the waits of this call, and no other
abbrev pub HasAt : (Standing → Option ℕ) → List Wait → ℕ → Option Standing → Type 0
HasAt key_of waits place call = (w : Wait) → w.place ≡ place → is_in waits w ≡ is_of key_of call w

-- a queue has the waits of the calls that the slots hold, and no other
abbrev pub Mirrors : (Standing → Option ℕ) → List Slot → List Wait → Type 0
Mirrors key_of table waits = (w : Wait) → is_in waits w ≡ is_of key_of (standing_in (slot_at table w.place)) w

-- so have the three
pub record AreWaits (table : List Slot) (waits : Waits) : Type 0 where
  pub senders : Mirrors sends_under table waits.senders
  pub watchers : Mirrors watches_under table waits.watchers
  pub deadlines : Mirrors due_under table waits.deadlines

-- at one place
pub record HaveAt (waits : Waits) (place : ℕ) (call : Option Standing) : Type 0 where
  pub senders : HasAt sends_under waits.senders place call
  pub watchers : HasAt watches_under waits.watchers place call
  pub deadlines : HasAt due_under waits.deadlines place call

-- elsewhere they are as they were
abbrev pub IsSameElsewhere : List Wait → List Wait → ℕ → Type 0
IsSameElsewhere old new place = (w : Wait) → (w.place == place) ≡ false → is_in new w ≡ is_in old w

pub record SameElsewhere (old new : Waits) (place : ℕ) : Type 0 where
  pub senders : IsSameElsewhere old.senders new.senders place
  pub watchers : IsSameElsewhere old.watchers new.watchers place
  pub deadlines : IsSameElsewhere old.deadlines new.deadlines place

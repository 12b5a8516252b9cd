-- The waits of the calls that the slots of a table hold.
use Rattle.std.proofs.Common.{◌≡◌, sym, ap, ◌∙◌, ℕ, Option, None, List, []}
use Rattle.ipc_threads.specs.Slots.{slot_at}
use Rattle.ipc_threads.specs.Steps.{standing_in}
use Rattle.ipc_threads.specs.Slot.{Slot}
use Rattle.ipc_threads.specs.declared.slot.Standing.{Standing}
use Rattle.ipc_waits.specs.Keys.{AreWaits, Mirrors, is_of, due_under, sends_under, watches_under}
use Rattle.ipc_waits.specs.Queues.{is_in}
use Rattle.ipc_waits.specs.declared.queue.Wait.{Wait}
use Rattle.ipc_waits.specs.declared.queues.Waits.{Waits}

-- of a table without a call, none
none_held : (key_of : Standing → Option ℕ) (table : List Slot) (waits : List Wait) → ((k : ℕ) → standing_in (slot_at table k) ≡ None) → waits ≡ [] → Mirrors key_of table waits
none_held key_of table waits none empty w = ap (λ l. is_in l w) empty ∙ sym (ap (λ o. is_of key_of o w) (none w.place))

pub no_calls : (table : List Slot) (waits : Waits) → ((k : ℕ) → standing_in (slot_at table k) ≡ None) → waits.senders ≡ [] → waits.watchers ≡ [] → waits.deadlines ≡ [] → AreWaits table waits
no_calls table waits none senders watchers deadlines = record {
  senders = none_held sends_under table waits.senders none senders;
  watchers = none_held watches_under table waits.watchers none watchers;
  deadlines = none_held due_under table waits.deadlines none deadlines;
}

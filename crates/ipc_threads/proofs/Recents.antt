-- Where a call is looked for first changes nothing of what stands.
use Rattle.std.proofs.Common.{ℕ, List}
use Rattle.ipc_history.specs.declared.entry.Entry.{Entry}
use Rattle.ipc_threads.specs.Slots.{Stands}
use Rattle.ipc_threads.specs.declared.kept.KeptSlots.{KeptSlots}

pub looks : (P : List Entry) (slots : KeptSlots) (place : ℕ) → Stands P slots → Stands P (record slots { recent = place })
looks P slots place stands = record {
  size = stands.size;
  moment = stands.moment;
  calls_made = stands.calls_made;
  live = stands.live;
  top = stands.top;
  above = stands.above;
  table = stands.table;
  last = stands.last;
}

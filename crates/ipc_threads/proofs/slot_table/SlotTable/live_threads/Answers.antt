use Rattle.std.proofs.Common.{sym, ap, ◌∙◌}
use Rattle.ipc_threads.specs.Table.{live_slots}
use Rattle.ipc_threads.proofs.SlotTables.{live_from_threads}
use Rattle.ipc_threads.proofs.slot_table.SlotTable.live_threads.Goals as goal

pub returns : goal.returns
returns c = c.live.ensures ∙ sym (live_from_threads 0 c.self.inside.threads c.self.inside.calls (c.self.invariant.0 ∙ sym c.self.invariant.1)) ∙ ap live_slots c.self.view_is

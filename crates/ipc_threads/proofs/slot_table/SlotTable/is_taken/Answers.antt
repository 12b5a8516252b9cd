use Rattle.std.proofs.Common.{sym, ◌∙◌}
use Rattle.ipc_threads.proofs.SlotTables.{taken_is}
use Rattle.ipc_threads.proofs.slot_table.SlotTable.is_taken.Goals as goal

pub returns : goal.returns
returns c = c.is_taken.ensures ∙ sym (taken_is c.self.inside.threads c.self.inside.calls c.args.self.now (c.self.invariant.0 ∙ sym c.self.invariant.1) c.self.view_is c.args.number)

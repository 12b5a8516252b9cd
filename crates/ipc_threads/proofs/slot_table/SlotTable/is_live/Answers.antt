use Rattle.std.proofs.Common.{sym, ap, ◌∙◌, is_some}
use Rattle.ipc_threads.proofs.SlotTables.{some_live}
use Rattle.ipc_threads.proofs.slot_table.SlotTable.is_live.Goals as goal

pub returns : goal.returns
returns c = c.is_some.ensures ∙ (ap is_some c.space_of.ensures.space ∙ sym (some_live c.self.inside.threads c.self.inside.calls c.args.self.now (c.self.invariant.0 ∙ sym c.self.invariant.1) c.self.view_is c.args.thread))

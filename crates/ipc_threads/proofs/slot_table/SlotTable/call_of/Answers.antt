use Rattle.std.proofs.Common.{sym, ◌∙◌}
use Rattle.ipc_threads.proofs.SlotTables.{call_live, call_missed}
use Rattle.ipc_threads.proofs.slot_table.SlotTable.call_of.Goals as goal

pub returns-in-Some : goal.returns-in-Some
returns-in-Some c = c.as_ref.ensures.value ∙ (rw c.number.ensures (call_live c.self.inside.threads c.self.inside.calls c.args.self.now (c.self.invariant.0 ∙ sym c.self.invariant.1) c.self.view_is c.args.thread _ (sym c.space_of.ensures.space ∙ c.in-Some.is) _))

pub returns-in-None : goal.returns-in-None
returns-in-None c = sym (call_missed c.self.inside.threads c.self.inside.calls c.args.self.now (c.self.invariant.0 ∙ sym c.self.invariant.1) c.self.view_is c.args.thread (sym c.space_of.ensures.space ∙ c.in-None.is))

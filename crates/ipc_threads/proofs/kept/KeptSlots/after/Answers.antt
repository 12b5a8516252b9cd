use Rattle.std.proofs.Common.{sym, ◌∙◌}
use Rattle.ipc_history.specs.declared.entry.Entry.TheVariants.{Written}
use Rattle.ipc_threads.specs.Slots.{slot_at}
use Rattle.ipc_threads.specs.Steps.{call_after}
use Rattle.ipc_threads.proofs.SlotTables.{standing_of_none, standing_of_some}
use Rattle.ipc_threads.proofs.kept.KeptSlots.after.Goals as goal

pub returns-in-Some : goal.returns-in-Some
returns-in-Some c = c.after.ensures ∙ sym (standing_of_some (call_after (Written c.args.output.now) c.args.self.now.moment c.args.sender.now.caller c.args.sender.now.moved) (slot_at c.args.self.now.table c.args.place) c.in-Some.call (sym c.call_at.ensures ∙ c.in-Some.is))

pub returns-in-None : goal.returns-in-None
returns-in-None c = sym (standing_of_none (call_after (Written c.args.output.now) c.args.self.now.moment c.args.sender.now.caller c.args.sender.now.moved) (slot_at c.args.self.now.table c.args.place) (sym c.call_at.ensures ∙ c.in-None.is))

use Rattle.std.proofs.Common.{sym, ◌∙◌}
use Rattle.ipc_history.specs.declared.entry.Entry.TheVariants.{Given}
use Rattle.ipc_history.specs.declared.entry.Input.TheVariants.{Moved}
use Rattle.ipc_threads.specs.Slots.{slot_at}
use Rattle.ipc_threads.specs.Steps.{call_after}
use Rattle.ipc_threads.proofs.MovedSteps.{copied_is}
use Rattle.ipc_threads.proofs.SlotTables.{standing_of_none, standing_of_some}
use Rattle.ipc_threads.proofs.kept.KeptSlots.copied.Goals as goal

pub copied-requires : goal.copied-requires
copied-requires c = c.requires c.in-Some.call (sym c.call_at.ensures ∙ c.in-Some.is)

pub returns-in-Some : goal.returns-in-Some
returns-in-Some c = rw c.copied.ensures (sym (standing_of_some (call_after (Given (Moved c.args.number c.args.count)) 0 0 0) (slot_at c.args.self.now.table c.args.place) c.in-Some.call (sym c.call_at.ensures ∙ c.in-Some.is) ∙ copied_is c.args.number c.args.count 0 c.in-Some.call))

pub returns-in-None : goal.returns-in-None
returns-in-None c = sym (standing_of_none (call_after (Given (Moved c.args.number c.args.count)) 0 0 0) (slot_at c.args.self.now.table c.args.place) (sym c.call_at.ensures ∙ c.in-None.is))

use Rattle.std.proofs.Common.{None, sym, ◌∙◌, refl}
use Rattle.ipc_threads.proofs.SlotTables.{standing_is, standing_none, standing_past}
use Rattle.ipc_threads.proofs.slot_table.SlotTable.held.Goals as goal

pub returns-in_err-get : goal.returns-in_err-get
returns-in_err-get c = rw c.from_residual.ensures (sym (standing_past c.self.inside.threads c.self.inside.calls c.args.self.now (c.self.invariant.0 ∙ sym c.self.invariant.1) c.self.view_is c.args.place c.in_err-get.ensures.lookup.3))

pub returns-in_err-call : goal.returns-in_err-call
returns-in_err-call c = rw c.from_residual-in_err-call.ensures (sym (standing_none c.self.inside.threads c.self.inside.calls c.args.self.now (c.self.invariant.0 ∙ sym c.self.invariant.1) c.self.view_is c.args.place (sym (c.in_ok-get.ensures.lookup.3.1 None) ∙ sym c.in_err-call.ensures.value)))

pub returns-then-is_taken : goal.returns-then-is_taken
returns-then-is_taken c = c.in_ok-call.ensures.value ∙ (c.in_ok-get.ensures.lookup.3.1 None ∙ sym (standing_is c.self.inside.threads c.self.inside.calls c.args.self.now (c.self.invariant.0 ∙ sym c.self.invariant.1) c.self.view_is c.args.place ∙ rw (sym c.if-is_taken.ensures) refl))

pub returns-else-is_taken : goal.returns-else-is_taken
returns-else-is_taken c = sym (standing_is c.self.inside.threads c.self.inside.calls c.args.self.now (c.self.invariant.0 ∙ sym c.self.invariant.1) c.self.view_is c.args.place ∙ rw (sym c.if-is_taken.ensures) refl)

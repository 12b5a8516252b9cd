use Rattle.std.proofs.Common.{◌∙◌}
use Rattle.ipc_exchange.proofs.DueLemmas.{obeyed_due, room_due}
use Rattle.ipc_exchange.proofs.marked_kernel.MarkedKernel.obey.Goals as goal

pub invariant_of-self : goal.invariant_of-self
invariant_of-self c =
    let again = c.obey_again-answer.ensures.obeys in
    obeyed_due again.roomy c.args.command _ c.obey_again-answer.new.self c.self.inside.due.items c.mark_all.new.due.items (room_due _ c.self.inside.kernel again.roomy c.args.command c.self.inside.due.items again.makes_room c.self.invariant) c.history.ensures.sound again.obeys (c.mark_all.ensures.long ∙ (c.mark_one.ensures.long ∙ c.self.invariant.long))
    (λ t e within. c.mark_all.ensures.marked t (c.finished.ensures.names t ∙ e) (rw (c.mark_one.ensures.long, c.self.invariant.long) within))
    (λ t call within. c.mark_all.ensures.kept _ (c.mark_one.ensures.marked t (c.own_thread-own.ensures.called t call) (rw c.self.invariant.long within)))
    (λ n e. c.mark_all.ensures.kept n (c.mark_one.ensures.kept n e))
    (λ t take within. c.mark_all.ensures.kept _ (c.mark_one.ensures.marked t (c.own_thread-own.ensures.taken t take) (rw c.self.invariant.long within)))

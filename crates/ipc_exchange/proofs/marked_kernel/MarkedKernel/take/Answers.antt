use Rattle.std.proofs.Common.{◌∙◌, arith, sym}
use Rattle.ipc_exchange.proofs.DueLemmas.{cleared_due, took_due}
use Rattle.ipc_exchange.proofs.marked_kernel.MarkedKernel.take.Goals as goal

pub invariant_of-self : goal.invariant_of-self
invariant_of-self c = took_due c.self.inside.kernel c.args.thread _ c.take-taken.new.self c.take-taken.result c.self.inside.due.items c.mark_all.new.due.items c.self.invariant c.history.ensures.sound c.take-taken.ensures.obeys (c.mark_all.ensures.long ∙ c.self.invariant.long)
    (λ t e within. c.mark_all.ensures.marked t (c.finished.ensures.names t ∙ e) (rw c.self.invariant.long within))
    c.mark_all.ensures.kept c.take-taken.ensures.outcome c.take-taken.ensures.taken

pub invariant_of-self-then-number-len : goal.invariant_of-self-then-number-len
invariant_of-self-then-number-len c = took_due c.self.inside.kernel c.args.thread _ c.take-taken.new.self c.take-taken.result c.self.inside.due.items c.mark_all.new.due.items c.self.invariant c.history.ensures.sound c.take-taken.ensures.obeys (c.mark_all.ensures.long ∙ c.self.invariant.long)
    (λ t e within. c.mark_all.ensures.marked t (c.finished.ensures.names t ∙ e) (rw c.self.invariant.long within))
    c.mark_all.ensures.kept c.take-taken.ensures.outcome c.take-taken.ensures.taken

pub invariant_of-self-2 : goal.invariant_of-self-2
invariant_of-self-2 c = rw c.number-number.ensures (cleared_due c.self.inside.kernel c.args.thread _ c.take-taken.new.self c.take-taken.result c.self.inside.due.items c.mark_all.new.due.items c.self.invariant c.history.ensures.sound c.take-taken.ensures.obeys (c.mark_all.ensures.long ∙ c.self.invariant.long)
    (λ t e within. c.mark_all.ensures.marked t (c.finished.ensures.names t ∙ e) (rw c.self.invariant.long within))
    c.mark_all.ensures.kept c.take-taken.ensures.outcome c.take-taken.ensures.taken
    (sym c.is_live.ensures ∙ c.if-not-is_live.false) (omega (arith, c.if-number-len.false, c.len.ensures, c.number-number.ensures, c.mark_all.new.due.ok)))

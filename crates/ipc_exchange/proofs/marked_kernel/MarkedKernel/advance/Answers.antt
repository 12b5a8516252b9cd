use Rattle.std.proofs.Common.{◌∙◌}
use Rattle.std.proofs.lemmas.Bool.{false≢true}
use Rattle.ipc_core.specs.declared.command.Command.TheVariants as command
use Rattle.ipc_exchange.proofs.DueLemmas.{obeyed_due}
use Rattle.ipc_exchange.proofs.marked_kernel.MarkedKernel.advance.Goals as goal

pub invariant_of-self : goal.invariant_of-self
invariant_of-self c = obeyed_due c.self.inside.kernel command.Advance _ c.advance-advance.new.self c.self.inside.due.items c.mark_all.new.due.items c.self.invariant c.history.ensures.sound c.advance-advance.ensures.obeys (c.mark_all.ensures.long ∙ c.self.invariant.long)
    (λ t e within. c.mark_all.ensures.marked t (c.finished.ensures.names t ∙ e) (rw c.self.invariant.long within))
    (λ t call within. absurd (false≢true call)) c.mark_all.ensures.kept (λ t take within. absurd (false≢true take))

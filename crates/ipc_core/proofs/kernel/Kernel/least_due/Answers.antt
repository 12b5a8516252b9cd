use Rattle.std.proofs.Common.{◌<◌, IfSome, subst}
use Rattle.ipc_core.proofs.LeastLemmas.{least_later}
use Rattle.ipc_core.proofs.kernel.Kernel.least_due.Goals as goal

pub returns-clause-later : goal.returns-clause-later
returns-clause-later c =
    let stands = c.self.invariant.kernel.stands in
    subst (λ k. IfSome c.least_due.result (λ moment. k.moment < moment)) c.self.view_is (least_later c.self.inside.course.entries c.self.inside.moment _ c.least_due.ensures stands.in_range stands.undue)

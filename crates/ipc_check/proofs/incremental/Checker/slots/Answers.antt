use Rattle.std.proofs.Common.{◌∙◌, subst, sym}
use Rattle.ipc_check.specs.Faults.{HasFaultAt}
use Rattle.ipc_check.proofs.Going.{fault_at, no_rest, rest_is}
use Rattle.ipc_check.proofs.incremental.Checker.slots.Goals as goal

pub returns-in-Yes-clause-slots : goal.returns-in-Yes-clause-slots
returns-in-Yes-clause-slots c =
    let front = c.self.inside.front in
    let rest = c.self.inside.rest in
    c.slots.ensures.past ∙ (sym (no_rest front rest (rest_is front rest c.self.inside.verdict c.in-Yes.is c.self.invariant.judged)) ∙ c.self.view_is)

pub returns-in-No-clause-fault : goal.returns-in-No-clause-fault
returns-in-No-clause-fault c =
    subst (λ l. HasFaultAt l c.in-No.index) c.self.view_is
    (fault_at c.self.inside.front c.self.inside.rest c.self.inside.verdict c.in-No.index _ c.in-No.is c.self.invariant.judged)

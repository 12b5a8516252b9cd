use Rattle.std.proofs.Common.{◌≡◌, subst}
use Rattle.std.specs.Prelude.{◌↔◌}
use Rattle.ipc_history.specs.Legal.{Legal}
use Rattle.ipc_check.specs.Faults.{IfNo, IsFirstFault}
use Rattle.ipc_check.specs.declared.checker.Verdict.TheVariants.{Yes}
use Rattle.ipc_check.proofs.Going.{no_is_fault, yes_is_legal}
use Rattle.ipc_check.proofs.incremental.Checker.verdict.Goals as goal

pub returns-clause-yes : goal.returns-clause-yes
returns-clause-yes c =
    subst (λ l. (c.self.inside.verdict ≡ Yes) ↔ Legal l) c.self.view_is
    (yes_is_legal c.self.inside.front c.self.inside.rest c.self.inside.verdict c.slots.ensures.legal c.self.invariant.judged)

pub returns-clause-no : goal.returns-clause-no
returns-clause-no c =
    subst (λ l. IfNo c.self.inside.verdict (IsFirstFault l)) c.self.view_is
    (no_is_fault c.self.inside.front c.self.inside.rest c.self.inside.verdict c.self.invariant.judged)

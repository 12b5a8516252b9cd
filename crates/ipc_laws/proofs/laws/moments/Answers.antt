use Rattle.ipc_laws.proofs.Clock.{at_brings, at_due, at_fails, at_stays_quiet}
use Rattle.ipc_laws.proofs.laws.moments.Goals as goal

pub returns-clause-quiet : goal.returns-clause-quiet
returns-clause-quiet c = at_stays_quiet

pub returns-clause-fails : goal.returns-clause-fails
returns-clause-fails c = at_fails

pub returns-clause-due : goal.returns-clause-due
returns-clause-due c = at_due

pub returns-clause-brings : goal.returns-clause-brings
returns-clause-brings c = at_brings

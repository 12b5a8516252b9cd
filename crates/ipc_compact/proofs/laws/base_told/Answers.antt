use Rattle.ipc_compact.proofs.BaseLaws.{dropped_told, over_told, versions_told}
use Rattle.ipc_compact.proofs.laws.base_told.Goals as goal

pub returns-clause-versions : goal.returns-clause-versions
returns-clause-versions c = versions_told

pub returns-clause-dropped : goal.returns-clause-dropped
returns-clause-dropped c = dropped_told

pub returns-clause-over : goal.returns-clause-over
returns-clause-over c = over_told

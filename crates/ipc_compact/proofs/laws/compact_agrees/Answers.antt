use Rattle.ipc_compact.proofs.KeptTold as told
use Rattle.ipc_compact.proofs.SameBases as bases
use Rattle.ipc_compact.proofs.SameCompact as compact
use Rattle.ipc_compact.proofs.laws.compact_agrees.Goals as goal

pub returns-clause-agree : goal.returns-clause-agree
returns-clause-agree c = compact.compact_agrees

pub returns-clause-follow : goal.returns-clause-follow
returns-clause-follow c = bases.follow

pub returns-clause-outcomes : goal.returns-clause-outcomes
returns-clause-outcomes c = told.outcomes_agree

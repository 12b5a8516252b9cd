use Rattle.ipc_laws.proofs.Determined.{determined, quiet_determined}
use Rattle.ipc_laws.proofs.Settling.{legal_push, settles, settles_once}
use Rattle.ipc_laws.proofs.laws.determined.Goals as goal

pub returns-clause-begins : goal.returns-clause-begins
returns-clause-begins c = determined

pub returns-clause-quiet : goal.returns-clause-quiet
returns-clause-quiet c = quiet_determined

pub returns-clause-follow : goal.returns-clause-follow
returns-clause-follow c = legal_push

pub returns-clause-settles : goal.returns-clause-settles
returns-clause-settles c = settles

pub returns-clause-once : goal.returns-clause-once
returns-clause-once c = settles_once

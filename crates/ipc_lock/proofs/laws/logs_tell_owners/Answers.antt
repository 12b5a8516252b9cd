use Rattle.ipc_lock.proofs.Leading.{logs_tell_owners}
use Rattle.ipc_lock.proofs.laws.logs_tell_owners.Goals as goal

pub returns : goal.returns
returns g c = logs_tell_owners g.row.C.Denot g.row.P.Denot

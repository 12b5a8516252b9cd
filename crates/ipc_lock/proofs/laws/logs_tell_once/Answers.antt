use Rattle.ipc_lock.proofs.Leading.{logs_tell_once}
use Rattle.ipc_lock.proofs.laws.logs_tell_once.Goals as goal

pub returns : goal.returns
returns g c = logs_tell_once g.row.C.Denot g.row.P.Denot

use Rattle.ipc_lock.proofs.Leading.{logs_give_once}
use Rattle.ipc_lock.proofs.laws.logs_give_once.Goals as goal

pub returns : goal.returns
returns g c = logs_give_once g.row.C.Denot g.row.P.Denot

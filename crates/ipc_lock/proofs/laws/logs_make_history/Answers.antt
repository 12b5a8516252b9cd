use Rattle.ipc_lock.proofs.Leading.{logs_make_history}
use Rattle.ipc_lock.proofs.laws.logs_make_history.Goals as goal

pub returns : goal.returns
returns g c = logs_make_history g.row.C.Denot g.row.P.Denot

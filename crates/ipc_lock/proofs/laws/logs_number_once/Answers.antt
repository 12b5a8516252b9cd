use Rattle.ipc_lock.proofs.NewNumbers.{logs_number_once}
use Rattle.ipc_lock.proofs.laws.logs_number_once.Goals as goal

pub returns : goal.returns
returns g c = logs_number_once g.row.C.Denot g.row.P.Denot

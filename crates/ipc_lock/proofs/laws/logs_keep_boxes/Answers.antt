use Rattle.ipc_lock.proofs.Homes.{logs_keep_boxes}
use Rattle.ipc_lock.proofs.laws.logs_keep_boxes.Goals as goal

pub returns : goal.returns
returns g c = logs_keep_boxes g.row.C.Denot g.row.P.Denot

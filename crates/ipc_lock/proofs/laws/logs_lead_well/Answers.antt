use Rattle.ipc_lock.proofs.Leading.{logs_lead_well}
use Rattle.ipc_lock.proofs.laws.logs_lead_well.Goals as goal

pub returns : goal.returns
returns g c = logs_lead_well g.row.C.Denot g.row.P.Denot

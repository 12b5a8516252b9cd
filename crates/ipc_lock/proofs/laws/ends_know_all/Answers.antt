use Rattle.ipc_lock.proofs.Own.{ends_know_all}
use Rattle.ipc_lock.proofs.laws.ends_know_all.Goals as goal

pub returns : goal.returns
returns c = ends_know_all

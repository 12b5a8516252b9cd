use Rattle.ipc_threads.proofs.Starting.{stands_none}
use Rattle.ipc_threads.proofs.kept.KeptSlots.new.Goals as goal

pub returns : goal.returns
returns c = rw c.new.ensures stands_none

use Rattle.ipc_core.proofs.Running.{other_refusal}
use Rattle.ipc_core.proofs.kernel.Kernel.obey_enter.Goals as goal

pub returns-in-Err-clause-ample : goal.returns-in-Err-clause-ample
returns-in-Err-clause-ample g c ample = other_refusal _ (c.in-Err.ensures.ample ample)

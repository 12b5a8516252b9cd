use Rattle.ipc_lock.proofs.Working.{ends_work}
use Rattle.ipc_lock.proofs.shared_kernel.SharedKernel.wait_pen.Goals as goal

pub returns-in-Some-Over-clause-over : goal.returns-in-Some-Over-clause-over
returns-in-Some-Over-clause-over g c = ends_work _ _ _ _ _ _ _ _ c.work.ensures.turned c.work.ensures.works (cc)

use Rattle.ipc_lock.proofs.Above.{over_some}
use Rattle.ipc_lock.proofs.shared_kernel.SharedKernel.rest_at.Goals as goal

pub returns-then-is_work_over-clause-over : goal.returns-then-is_work_over-clause-over
returns-then-is_work_over-clause-over g c =
    over_some _ _ _ c.deref.result.now c.is_work_over.result c.is_work_over.ensures.runs c.is_work_over.ensures.over c.if-is_work_over.true

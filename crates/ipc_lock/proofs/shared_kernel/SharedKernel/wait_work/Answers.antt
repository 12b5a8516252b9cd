use Rattle.ipc_lock.proofs.Above.{works_begun, works_over}
use Rattle.ipc_lock.proofs.shared_kernel.SharedKernel.wait_work.Goals as goal

pub returns-then-is_work_over : goal.returns-then-is_work_over
returns-then-is_work_over g c = record {
  works = works_over _ _ _ c.deref.result.now c.is_work_over.result c.is_work_over.ensures.runs c.is_work_over.ensures.over c.if-is_work_over.true;
}

pub returns-then-has_begun : goal.returns-then-has_begun
returns-then-has_begun g c = record {
  works = works_begun _ _ _ _ c.deref.result.now c.deref-in-loop.result.now c.is_work_over.result c.has_begun.result c.deref.ensures c.deref-in-loop.ensures
      c.is_work_over.ensures.runs c.is_work_over.ensures.over c.if-is_work_over.false c.has_begun.ensures c.if-has_begun.true;
}

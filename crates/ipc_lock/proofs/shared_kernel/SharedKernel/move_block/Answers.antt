use Rattle.ipc_lock.proofs.Above.{moves_some}
use Rattle.ipc_lock.proofs.shared_kernel.SharedKernel.move_block.Goals as goal

pub returns : goal.returns
returns g c = record {
  moves = moves_some _ _ _ _ _ _ _ c.copy_and_tell-answered.ensures.turned c.copy_and_tell-answered.ensures.acts c.settle.ensures.carries
      c.copy_and_tell-answered.ensures.goes_on;
}

use Rattle.std.proofs.Common.{arith, inr}
use Rattle.ipc_lock.proofs.Above.{moves_more}
use Rattle.ipc_lock.proofs.shared_kernel.SharedKernel.move_blocks.Goals as goal

pub copies-preserved : goal.copies-preserved
copies-preserved g c = moves_more _ _ _ _ _ c.copies.invariant c.move_block.ensures.moves c.if-not-move_block.false

pub returns : goal.returns
returns g c = record {
  moves = record { count = c.copies.counter; moves = c.copies.invariant; ends = inr (omega (arith, c.copies-test.false, c.copies.auto.counter-end)) };
}

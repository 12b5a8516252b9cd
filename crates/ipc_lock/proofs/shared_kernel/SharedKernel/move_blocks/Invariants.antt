-- So many blocks were copied.
use Rattle.ipc_lock.specs.Above.{MovesEach}
use Rattle.ipc_lock.proofs.shared_kernel.SharedKernel.move_blocks.Given as goal

abbrev pub invariant-copies : goal.invariant-copies
invariant-copies g l = MovesEach g.row.C.Denot g.row.P.Denot l.now l.counter

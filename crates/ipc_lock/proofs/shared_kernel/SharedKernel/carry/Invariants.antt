-- The pens went round so far.
use Rattle.ipc_lock.proofs.Carrying.{SomeRounds}
use Rattle.ipc_lock.proofs.shared_kernel.SharedKernel.carry.Given as goal

abbrev pub invariant-rounds : goal.invariant-rounds
invariant-rounds g l = SomeRounds l.fn.errands l.errands

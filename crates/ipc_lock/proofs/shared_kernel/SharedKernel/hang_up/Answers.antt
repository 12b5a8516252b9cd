use Rattle.ipc_lock.proofs.Above.{hangs_up}
use Rattle.ipc_lock.proofs.shared_kernel.SharedKernel.hang_up.Goals as goal

pub returns-clause-ends : goal.returns-clause-ends
returns-clause-ends g c =
    hangs_up _ _ _ _ c.hang_up-ended.new.errands _ _ _ _ _ c.hang_up-ended.ensures.turned c.hang_up-ended.ensures.ends c.hang_up-ended.ensures.shut
    c.hang_up-ended.ensures.own c.settle_end.ensures.carries

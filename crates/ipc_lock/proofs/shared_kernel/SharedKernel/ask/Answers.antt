use Rattle.ipc_lock.proofs.Above.{asks_some}
use Rattle.ipc_lock.proofs.shared_kernel.SharedKernel.ask.Goals as goal

pub returns-clause-asks : goal.returns-clause-asks
returns-clause-asks g c =
    asks_some _ _ _ _ _ _ _ _ _ _ _ _ _ _ _ c.take-own_seat.ensures.value c.in-Some.ensures.same c.deref_mut.ensures.value c.in-Some.ensures.its c.in-Some.ensures.shut
    c.in-Some.ensures.empty c.ask_and_tell-told.ensures.turned c.ask_and_tell-told.ensures.asks c.ask_and_tell-told.ensures.own c.settle.ensures.carries

use Rattle.ipc_server.proofs.DoingLemmas.{breaks_on}
use Rattle.ipc_server.proofs.caller.CallerKernelPort.broke.Goals as goal

pub invariant_of-self : goal.invariant_of-self
invariant_of-self g c = breaks_on _ _ _ _ _ c.self.invariant c.hang_up.ensures.breaks c.hang_up.ensures.broke

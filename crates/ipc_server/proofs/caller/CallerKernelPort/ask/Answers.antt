use Rattle.ipc_server.proofs.DoingLemmas.{asks_on}
use Rattle.ipc_server.proofs.caller.CallerKernelPort.ask.Goals as goal

pub invariant_of-self : goal.invariant_of-self
invariant_of-self g c = asks_on _ _ _ _ _ _ _ c.self.invariant c.ask-entered.ensures.asks c.ask-entered.ensures.asked

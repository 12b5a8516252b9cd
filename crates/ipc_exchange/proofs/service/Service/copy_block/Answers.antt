use Rattle.std.proofs.Common.{refl}
use Rattle.ipc_exchange.proofs.ReadyLemmas.{command_ready}
use Rattle.ipc_exchange.proofs.service.Service.copy_block.Goals as goal

pub returns-clause-ready : goal.returns-clause-ready
returns-clause-ready c = command_ready _ _ _ _ (rw (← c.self.view_is) at c.requires) (λ t. refl) (λ t. refl) c.history.ensures.sound c.advance-advance.ensures.obeys

use Rattle.std.proofs.Common.{ap}
use Rattle.ipc_exchange.specs.Service.{ConnectionParts}
use Rattle.ipc_exchange.proofs.TellingLemmas.{connect_ready}
use Rattle.ipc_exchange.proofs.service.Service.connect.Goals as goal

pub returns-clause-ready : goal.returns-clause-ready
returns-clause-ready g c = connect_ready _ _ _ (rw (← c.self.view_is) at c.requires) c.in_ok-push.ensures.ok.1 (ap (λ (l : ConnectionParts). l.stage) c.in_ok-push.ensures.ok.2) c.in_ok-push.ensures.ok.3

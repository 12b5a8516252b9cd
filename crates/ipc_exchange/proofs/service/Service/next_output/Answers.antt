use Rattle.std.proofs.Common.{◌∙◌, ap}
use Rattle.ipc_exchange.specs.Service.{ConnectionParts}
use Rattle.ipc_exchange.proofs.ConnectionsLemmas.{first_connection}
use Rattle.ipc_exchange.proofs.TellingLemmas.{connection_there}
use Rattle.ipc_exchange.proofs.service.Service.next_output.Goals as goal

pub returns-clause-first : goal.returns-clause-first
returns-clause-first c = rw (← c.self.view_is) (first_connection c.self.inside.connections c.args.from c.next_output.result c.next_output.ensures.first)

pub returns-clause-none : goal.returns-clause-none
returns-clause-none c = rw (← c.self.view_is) (λ none other most. ap (λ (l : ConnectionParts). l.out) (connection_there c.self.inside.connections other) ∙ c.next_output.ensures.none none other most)

use Rattle.std.proofs.Common.{ap}
use Rattle.ipc_exchange.specs.Service.{ConnectionParts}
use Rattle.ipc_exchange.proofs.TellingLemmas.{less_bytes, more_room, roomy_self}
use Rattle.ipc_exchange.proofs.service.Service.output.Goals as goal

pub returns-clause-left : goal.returns-clause-left
returns-clause-left c = rw (← c.self.view_is, c.output.ensures.left.1) (less_bytes (record { kernel = c.self.inside.kernel; connections = c.self.inside.connections; table = c.self.inside.table.items }) _ _ _ (rw (← c.self.view_is) at c.requires.within) (roomy_self c.self.inside.connections c.args.place (rw (← c.self.view_is) at c.requires.within)) _ c.output.ensures.left.2)

pub returns-clause-ready : goal.returns-clause-ready
returns-clause-ready c = rw (← c.self.view_is, c.output.ensures.left.1) (more_room (record { kernel = c.self.inside.kernel; connections = c.self.inside.connections; table = c.self.inside.table.items }) _ _ _ (rw (← c.self.view_is) at c.requires.within) (roomy_self c.self.inside.connections c.args.place (rw (← c.self.view_is) at c.requires.within)) (ap (λ (l : ConnectionParts). l.stage) c.output.ensures.left.2) c.output.ensures.left.3 (rw (← c.self.view_is) at c.requires.ready))

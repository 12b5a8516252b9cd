use Rattle.std.proofs.Common.{ap}
use Rattle.ipc_exchange.specs.Service.{ConnectionParts}
use Rattle.ipc_exchange.proofs.TellingLemmas.{more_room, roomy_self, same_connections}
use Rattle.ipc_exchange.proofs.service.Service.reserve.Goals as goal

pub returns-clause-same : goal.returns-clause-same
returns-clause-same c = rw (← c.self.view_is, c.reserve.ensures.same.1) (same_connections (record { kernel = c.self.inside.kernel; connections = c.self.inside.connections; table = c.self.inside.table.items }) _ _ _ (rw (← c.self.view_is) at c.requires.within) (roomy_self c.self.inside.connections c.args.place (rw (← c.self.view_is) at c.requires.within)) c.reserve.ensures.same.2)

pub returns-clause-ready : goal.returns-clause-ready
returns-clause-ready c = rw (← c.self.view_is, c.reserve.ensures.same.1) (more_room (record { kernel = c.self.inside.kernel; connections = c.self.inside.connections; table = c.self.inside.table.items }) _ _ _ (rw (← c.self.view_is) at c.requires.within) (roomy_self c.self.inside.connections c.args.place (rw (← c.self.view_is) at c.requires.within)) (ap (λ (l : ConnectionParts). l.stage) c.reserve.ensures.same.2) c.reserve.ensures.same.3 (rw (← c.self.view_is) at c.requires.ready))

use Rattle.ipc_exchange.proofs.ConnectionsLemmas.{told_listed}
use Rattle.ipc_exchange.proofs.connections.Connections.push_outcome.Goals as goal

pub invariant_of-self : goal.invariant_of-self
invariant_of-self c = told_listed c.self.inside.connections.items c.args.place c.push_outcome.new.self (rw (← c.self.view_is) at c.requires.within) c.self.inside.pending c.insert.new.self c.self.invariant c.insert.ensures.count c.insert.ensures.here c.insert.ensures.kept

use Rattle.ipc_exchange.proofs.ConnectionsLemmas.{empty_listed}
use Rattle.ipc_exchange.proofs.connections.Connections.output.Goals as goal

pub invariant_of-self : goal.invariant_of-self
invariant_of-self c = empty_listed c.self.inside.connections.items c.args.place c.output-count.new.self (rw (← c.self.view_is) at c.requires) c.self.inside.pending c.remove.new.self c.self.invariant c.remove.ensures.count (c.is_empty.ensures c.if-is_empty.true) c.remove.ensures.kept

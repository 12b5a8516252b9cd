use Rattle.ipc_exchange.proofs.ConnectionsLemmas.{first_unlisted, none_unlisted}
use Rattle.ipc_exchange.proofs.connections.Connections.next_output.Goals as goal

pub returns-clause-first : goal.returns-clause-first
returns-clause-first c = rw (← c.self.view_is) (first_unlisted c.self.inside.connections.items c.self.inside.pending c.args.from c.next.result c.self.invariant c.next.ensures.first)

pub returns-clause-none : goal.returns-clause-none
returns-clause-none c = rw (← c.self.view_is) (λ none. none_unlisted c.self.inside.connections.items c.self.inside.pending c.args.from c.self.invariant (c.next.ensures.none none))

use Rattle.ipc_exchange.proofs.DeliverLemmas.{skip_told}
use Rattle.ipc_exchange.proofs.service.Service.deliver_number.Goals as goal

pub returns-then-not-is_due-clause-told : goal.returns-then-not-is_due-clause-told
returns-then-not-is_due-clause-told c = rw (← c.self.view_is) (skip_told (record { kernel = c.self.inside.kernel; connections = c.self.inside.connections; table = c.self.inside.table.items }) c.args.number (rw (← c.self.view_is) at c.requires.ready) (c.is_due.ensures c.if-not-is_due.true))

use Rattle.std.proofs.Common.{sym, ◌∙◌, arith}
use Rattle.ipc_exchange.proofs.DeliverLemmas.{found_by, missing_none, missing_other, missing_past, table_read}
use Rattle.ipc_exchange.proofs.TellingLemmas.{roomy_self}
use Rattle.ipc_exchange.proofs.service.Service.place_of.Goals as goal

pub returns-then-connection-eq0 : goal.returns-then-connection-eq0
returns-then-connection-eq0 c = rw (← c.self.view_is) (omega (arith, c.len-none.ensures, missing_none (record { kernel = c.self.inside.kernel; connections = c.self.inside.connections; table = c.self.inside.table.items }) _ _ (rw (← c.self.view_is) at c.requires.ready) (table_read (record { kernel = c.self.inside.kernel; connections = c.self.inside.connections; table = c.self.inside.table.items }) _ _ (rw (← c.self.view_is) at c.requires.ready) c.requires.within c.index-connection.ensures) c.if-connection-eq0.true))

pub returns-then-place-none : goal.returns-then-place-none
returns-then-place-none c = rw (← c.self.view_is) (omega (arith, c.len-none.ensures, missing_past (record { kernel = c.self.inside.kernel; connections = c.self.inside.connections; table = c.self.inside.table.items }) _ _ (rw (← c.self.view_is) at c.requires.ready) (table_read (record { kernel = c.self.inside.kernel; connections = c.self.inside.connections; table = c.self.inside.table.items }) _ _ (rw (← c.self.view_is) at c.requires.ready) c.requires.within c.index-connection.ensures) (omega (arith, c.if-place-none.true, c.if-connection-eq0.false, c.len-none.ensures))))

pub returns-then-serves : goal.returns-then-serves
returns-then-serves c = rw (← c.self.view_is) (found_by (record { kernel = c.self.inside.kernel; connections = c.self.inside.connections; table = c.self.inside.table.items }) _ _ _ (rw (← c.self.view_is) at c.requires.ready) (omega (arith, c.if-place-none.false, c.len-none.ensures)) (roomy_self c.self.inside.connections _ (omega (arith, c.if-place-none.false, c.len-none.ensures))) (sym c.serves.ensures ∙ c.if-serves.true))

pub returns-else-serves : goal.returns-else-serves
returns-else-serves c = rw (← c.self.view_is) (omega (arith, c.len-none.ensures, missing_other (record { kernel = c.self.inside.kernel; connections = c.self.inside.connections; table = c.self.inside.table.items }) _ _ _ _ (rw (← c.self.view_is) at c.requires.ready) (table_read (record { kernel = c.self.inside.kernel; connections = c.self.inside.connections; table = c.self.inside.table.items }) _ _ (rw (← c.self.view_is) at c.requires.ready) c.requires.within c.index-connection.ensures) (omega (arith, c.if-connection-eq0.false)) (omega (arith, c.if-place-none.false, c.len-none.ensures)) (roomy_self c.self.inside.connections _ (omega (arith, c.if-place-none.false, c.len-none.ensures))) (sym c.serves.ensures ∙ c.if-serves.false)))

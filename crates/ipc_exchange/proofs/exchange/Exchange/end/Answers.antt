use Rattle.std.proofs.Common.{sym, ◌∙◌, arith}
use Rattle.ipc_exchange.proofs.ExchangeLemmas.{ended_there, end_happens, end_keeps, not_closed, skipped_stage}
use Rattle.ipc_exchange.proofs.exchange.Exchange.end.Goals as goal
use Rattle.ipc_exchange.proofs.exchange.Exchange.end.Goals.{then-connection-eq0-via-then-connection-eq0, then-connection-eq0-via-else-connection-eq0+then-connection-len}

pub returns-then-connection-eq0-clause-happened : goal.returns-then-connection-eq0-clause-happened
returns-then-connection-eq0-clause-happened c = rw (← c.self.view_is) (λ place at. not_closed (record { service = c.self.inside.service; decoders = c.self.inside.decoders.items }) place (elim c.then-connection-eq0.branch [
  | then-connection-eq0-via-then-connection-eq0 w ↦ absurd (omega (arith, at, w.if-connection-eq0.true))
  | then-connection-eq0-via-else-connection-eq0+then-connection-len w ↦ skipped_stage (record { service = c.self.inside.service; decoders = c.self.inside.decoders.items }) c.args.connection place at (omega (arith, w.if-connection-len.true, w.len.ensures))
]))

pub returns-then-has_finished-clause-happened : goal.returns-then-has_finished-clause-happened
returns-then-has_finished-clause-happened c = rw (← c.self.view_is) (λ place at. not_closed (record { service = c.self.inside.service; decoders = c.self.inside.decoders.items }) place (ended_there c.self.inside.service.connections c.args.connection place at (sym c.has_finished.ensures ∙ c.if-has_finished.true)))

pub invariant_of-self : goal.invariant_of-self
invariant_of-self c = end_keeps (record { service = c.self.inside.service; decoders = c.self.inside.decoders.items }) c.args.connection c.close_connection.new.service c.close_connection.new.decoder c.index_mut.result.now c.self.invariant c.if-connection-eq0.false (omega (arith, c.if-connection-len.false, c.len.ensures)) (sym c.has_finished.ensures ∙ c.if-has_finished.false) c.index_mut.ensures.value c.close_connection.ensures.closed c.close_connection.ensures.ready

pub returns-clause-happened : goal.returns-clause-happened
returns-clause-happened c = λ place at. end_happens (record { service = c.self.inside.service; decoders = c.self.inside.decoders.items }) c.args.connection c.close_connection.new.service c.close_connection.new.decoder c.index_mut.result.now c.self.invariant c.if-connection-eq0.false (omega (arith, c.if-connection-len.false, c.len.ensures)) (sym c.has_finished.ensures ∙ c.if-has_finished.false) c.index_mut.ensures.value c.close_connection.ensures.closed c.args.self.now place c.self.view_is at

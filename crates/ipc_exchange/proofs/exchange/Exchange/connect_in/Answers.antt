use Rattle.std.proofs.Common.{◌∙◌, ap, ◌∷◌, ◌++◌, []}
use Rattle.ipc_exchange.proofs.ExchangeLemmas.{connected_keeps, connects_by}
use Rattle.ipc_exchange.proofs.exchange.Exchange.connect_in.Goals as goal

pub invariant_of-self-2 : goal.invariant_of-self-2
invariant_of-self-2 g c = connected_keeps (record { service = c.self.inside.service; decoders = c.self.inside.decoders.items }) c.args.space c.connect.new.self c.new.result c.push_reserved.new.self.items c.self.invariant c.in-Ok-connect.ensures.ok c.new.ensures (c.push_reserved.ensures.items ∙ ap (λ l. l ++ c.new.result ∷ []) c.reserve.ensures.items) c.connect.ensures.ready c.in-Ok-connect.ensures.count

pub returns-clause-happened : goal.returns-clause-happened
returns-clause-happened g c = rw (← c.self.view_is) (connects_by (record { service = c.self.inside.service; decoders = c.self.inside.decoders.items }) c.args.space c.connect.new.self c.new.result c.push_reserved.new.self.items c.self.invariant c.in-Ok-connect.ensures.ok c.new.ensures (c.push_reserved.ensures.items ∙ ap (λ l. l ++ c.new.result ∷ []) c.reserve.ensures.items))

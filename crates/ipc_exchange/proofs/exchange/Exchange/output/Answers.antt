use Rattle.std.proofs.Common.{◌-◌}
use Rattle.ipc_exchange.proofs.ExchangeLemmas.{output_shows, outputs_keep}
use Rattle.ipc_exchange.proofs.exchange.Exchange.output.Goals as goal

pub invariant_of-self : goal.invariant_of-self
invariant_of-self c = outputs_keep (record { service = c.self.inside.service; decoders = c.self.inside.decoders.items }) c.output.new.self (c.args.connection - 1) c.output.result c.self.invariant c.output.ensures.ready c.output.ensures.left

pub returns-clause-left : goal.returns-clause-left
returns-clause-left c = λ place parts at shows. output_shows (record { service = c.self.inside.service; decoders = c.self.inside.decoders.items }) c.args.self.now c.args.connection c.output.new.self c.output.result c.self.view_is c.output.ensures.left place parts at shows

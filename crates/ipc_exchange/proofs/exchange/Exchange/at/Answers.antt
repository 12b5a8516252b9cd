use Rattle.ipc_core.specs.declared.command.Command.TheVariants as command
use Rattle.ipc_exchange.specs.Events.{Reading}
use Rattle.ipc_exchange.proofs.ExchangeLemmas.{commanded, commands_keep}
use Rattle.ipc_exchange.proofs.exchange.Exchange.at.Goals as goal

pub invariant_of-self : goal.invariant_of-self
invariant_of-self c = commands_keep (record { service = c.self.inside.service; decoders = c.self.inside.decoders.items }) c.at.new.self (Reading c.args.now) c.self.invariant c.at.ensures.ready (commanded (record { service = c.self.inside.service; decoders = c.self.inside.decoders.items }) (command.At c.args.now) c.at.new.self c.at.ensures.done)

pub returns : goal.returns
returns c = rw (← c.self.view_is) (commanded (record { service = c.self.inside.service; decoders = c.self.inside.decoders.items }) (command.At c.args.now) c.at.new.self c.at.ensures.done)

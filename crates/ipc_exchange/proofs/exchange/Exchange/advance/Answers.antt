use Rattle.ipc_core.specs.declared.command.Command.TheVariants as command
use Rattle.ipc_exchange.specs.Events.{Copy}
use Rattle.ipc_exchange.proofs.ExchangeLemmas.{commanded, commands_keep}
use Rattle.ipc_exchange.proofs.exchange.Exchange.advance.Goals as goal

pub invariant_of-self : goal.invariant_of-self
invariant_of-self c = commands_keep (record { service = c.self.inside.service; decoders = c.self.inside.decoders.items }) c.advance.new.self Copy c.self.invariant c.advance.ensures.ready (commanded (record { service = c.self.inside.service; decoders = c.self.inside.decoders.items }) command.Advance c.advance.new.self c.advance.ensures.done)

pub returns : goal.returns
returns c = rw (← c.self.view_is) (commanded (record { service = c.self.inside.service; decoders = c.self.inside.decoders.items }) command.Advance c.advance.new.self c.advance.ensures.done)

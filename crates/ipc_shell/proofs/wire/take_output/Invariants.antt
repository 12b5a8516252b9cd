-- The bytes so far are those that went out.
use Rattle.std.proofs.Common.{◌≡◌, ℕ, ◌+◌, ◌<◌, length}
use Rattle.ipc_exchange.specs.Events.{ExchangeParts}
use Rattle.ipc_exchange.specs.Exchange.{Shows}
use Rattle.ipc_shell.proofs.WireLemmas.{TakenOut}
use Rattle.ipc_shell.proofs.wire.take_output.Given as goal

abbrev pub invariant-loop-turn : goal.invariant-loop-turn
invariant-loop-turn l = (place : ℕ) (parts : ExchangeParts) → l.fn.connection ≡ place + 1
    → place < length parts.service.connections → Shows l.fn.exchange parts
    → TakenOut parts place l.bytes.items l.exchange

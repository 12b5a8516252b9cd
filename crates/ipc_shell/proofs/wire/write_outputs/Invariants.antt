-- The connections up to one were written.
use Rattle.std.proofs.Common.{◌≤◌, length}
use Rattle.ipc_exchange.specs.Events.{ExchangeParts}
use Rattle.ipc_exchange.specs.Exchange.{Shows}
use Rattle.std.specs.String.{string_bytes}
use Rattle.ipc_shell.proofs.WireLemmas.{WrittenTo}
use Rattle.ipc_shell.proofs.wire.write_outputs.Given as goal

abbrev pub invariant-loop-turn : goal.invariant-loop-turn
invariant-loop-turn l = (parts : ExchangeParts) → Shows l.fn.exchange parts
    → (l._turn ≤ l.behind) × (l.behind ≤ length parts.service.connections)
    × WrittenTo parts l.behind (string_bytes l.fn.text) (string_bytes l.text) l.exchange

use Rattle.std.proofs.Common.{min}
use Rattle.ipc_words.specs.Limits.{max_calls, max_entries}
use Rattle.ipc_exchange.specs.Events.{empty_exchange}
use Rattle.ipc_exchange.specs.Running.{Ran}
use Rattle.ipc_exchange.proofs.exchange.Exchange.run.Given as goal

abbrev pub invariant-loop-event : goal.invariant-loop-event
invariant-loop-event l = Ran (empty_exchange (min l.fn.limits.entries max_entries) (min l.fn.limits.calls max_calls)) l.yielded l.replies.items l.exchange

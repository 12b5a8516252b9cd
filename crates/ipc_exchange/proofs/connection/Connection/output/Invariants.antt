use Rattle.std.proofs.Common.{length, ◌-◌, ◌≡◌, ◌≤◌, ◌+◌}
use Rattle.ipc_exchange.proofs.OutputLemmas.{HasPut}
use Rattle.ipc_exchange.proofs.connection.Connection.output.Given as goal

abbrev pub invariant-loop-filled : goal.invariant-loop-filled
invariant-loop-filled l = record {
  put : HasPut l.fn.self.connection.out l.initial.out l.self-inside.queue.items l.out l.filled;
  space : l.self-inside.space ≡ l.fn.self.connection.space;
  stage : l.self-inside.stage ≡ l.fn.self.connection.stage;
  version : l.self-inside.version ≡ l.fn.self.connection.version;
  free : l.fn.self.free ≤ l.self-inside.queue.cap - l.self-inside.queue.len;
}

abbrev pub decreases-loop-filled : goal.decreases-loop-filled
decreases-loop-filled l = l.self-inside.queue.len + (length l.initial.out - l.filled)

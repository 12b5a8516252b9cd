use Rattle.std.proofs.Common.{◌≡◌, ◌+◌, ◌*◌, ◌≤◌, ◌++◌, drop, length, vec_len, vec_capacity}
use Rattle.ipc_items.specs.Pieces.{simple_items}
use Rattle.ipc_desks.proofs.message.Message.into_received.Given as goal

abbrev pub invariant-loop-k : goal.invariant-loop-k
invariant-loop-k l = record {
  appended : l.words.items ++ simple_items (drop l.k l.buffers) (drop l.k l.strings) ≡ l.initial.words.items ++ simple_items l.buffers l.strings;
  room : vec_len l.words + 2 * length l.strings ≤ vec_capacity l.words + 2 * l.k;
}

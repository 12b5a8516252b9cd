-- The bytes so far, and those of the pieces that are left.
use Rattle.std.proofs.Common.{◌≡◌, ◌++◌, drop}
use Rattle.ipc_items.specs.Pieces.{joined}
use Rattle.ipc_client.proofs.received.join.Given as goal

abbrev pub invariant-loop-piece : goal.invariant-loop-piece
invariant-loop-piece l = l.bytes.items ++ joined (drop l.piece-index l.pieces) ≡ joined l.pieces

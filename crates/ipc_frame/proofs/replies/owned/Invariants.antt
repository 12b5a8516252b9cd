use Rattle.std.proofs.Common.{◌≡◌, map, take}
use Rattle.ipc_items.specs.Placed.{placed}
use Rattle.ipc_frame.proofs.replies.owned.Given as goal

abbrev pub invariant-loop-piece : goal.invariant-loop-piece
invariant-loop-piece l = l.copies.items ≡ map placed (take l.piece-index l.pieces)

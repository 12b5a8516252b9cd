use Rattle.std.proofs.Common.{◌≡◌, ◌+◌, ◌≤◌, length, drop, take}
use Rattle.std.specs.List.{AllByRecursion}
use Rattle.ipc_frame.specs.Parts.{IsPiece, pieces_text}
use Rattle.ipc_frame.proofs.ipcr.pieces_within.Given as goal

abbrev pub invariant-loop-piece : goal.invariant-loop-piece
invariant-loop-piece l = record {
  left : l.left + length (pieces_text l.pieces) ≡ l.most + length (pieces_text (drop l.piece-index l.pieces));
  within : l.left ≤ l.most;
  each : AllByRecursion IsPiece (take l.piece-index l.pieces);
}

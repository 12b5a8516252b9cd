use Rattle.std.proofs.Common.{◌≡◌, ◌+◌, length}
use Rattle.ipc_frame.specs.Parts.{pieces_text}
use Rattle.ipc_frame.specs.Replies.{pieces_told}
use Rattle.ipc_frame.proofs.telling.measure_pieces.Given as goal

abbrev pub invariant-loop-piece : goal.invariant-loop-piece
invariant-loop-piece l = record {
  pieces : l.measure.pieces + length l.piece-iterator ≡ length (pieces_told l.outcome);
  bytes : l.measure.bytes + length (pieces_text l.piece-iterator) ≡ length (pieces_text (pieces_told l.outcome));
}

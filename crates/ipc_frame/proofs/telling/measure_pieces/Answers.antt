use Rattle.std.proofs.Common.{length, ap, arith}
use Rattle.ipc_items.specs.Placed.{placed}
use Rattle.ipc_frame.specs.Parts.{pieces_text}
use Rattle.ipc_frame.proofs.WindowLemmas.{piece_size}
use Rattle.ipc_frame.proofs.telling.measure_pieces.Goals as goal

pub loop-piece-preserved : goal.loop-piece-preserved
loop-piece-preserved c =
    let piece = c.in-Some.piece in
    let first = c.in-Some.ensures.steps in
    record {
      pieces = omega (arith, c.loop-piece.invariant.pieces, ap length first);
      bytes = omega (arith, c.loop-piece.invariant.bytes, ap (λ ps. length (pieces_text ps)) first, piece_size (placed piece) c.next.new.self);
    }

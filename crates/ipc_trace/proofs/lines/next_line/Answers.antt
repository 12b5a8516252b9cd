use Rattle.std.proofs.Common.{◌≡◌, None, refl, subst, ◌∙◌, arith}
use Rattle.std.specs.Io.KnownBytes.{prepend_known}
use Rattle.ipc_trace.specs.Reading.{TakesPiece}
use Rattle.ipc_trace.proofs.Pieces.{kept_short, more_so_far, line_taken, none_is_no_failure}
use Rattle.ipc_trace.proofs.lines.next_line.Goals as goal

pub next_piece-requires : goal.next_piece-requires
next_piece-requires g c =
    let so_far = c.pieces.invariant.so_far in
    record { short = kept_short c.pieces.line.items so_far.text so_far.is }

pub returns-in-Some-clause-line : goal.returns-in-Some-clause-line
returns-in-Some-clause-line g c =
    line_taken (prepend_known c.args.buffer.now (g.P.PortRead.remaining c.args.port.now)) (prepend_known c.pieces.buffer (g.P.PortRead.remaining c.pieces.port))
    (prepend_known c.next_piece.new.buffer (g.P.PortRead.remaining c.next_piece.new.port)) c.pieces.line.items c.next_piece.new.line.items c.in-Some.end
    c.pieces.invariant.so_far c.in-Some.ensures.piece

pub pieces-preserved : goal.pieces-preserved
pieces-preserved g c =
    let a = prepend_known c.args.buffer.now (g.P.PortRead.remaining c.args.port.now) in
    let b = prepend_known c.pieces.buffer (g.P.PortRead.remaining c.pieces.port) in
    let d = prepend_known c.next_piece.new.buffer (g.P.PortRead.remaining c.next_piece.new.port) in
    let before = c.pieces.line.items in
    let line = c.next_piece.new.line.items in
    let piece = subst (TakesPiece b d before line) c.in_default.is c.next_piece.ensures.piece in
    let less = c.in_default.ensures.fewer refl in
    record {
      so_far = more_so_far a b d before line c.pieces.invariant.so_far piece;
      failures = c.in_default.ensures.kept none_is_no_failure ∙ c.pieces.invariant.failures;
      fewer = omega (arith, less, c.pieces.invariant.fewer);
    }

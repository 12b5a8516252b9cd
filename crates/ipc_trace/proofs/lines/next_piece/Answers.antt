use Rattle.std.proofs.Common.{◌≤◌, length, ap, length-drop, sym, subst, arith}
use Rattle.std.specs.Io.KnownBytes.{prepend_known}
use Rattle.ipc_trace.specs.Reading.{Adds, TakesPiece}
use Rattle.ipc_trace.proofs.Pieces.{piece_taken}
use Rattle.ipc_trace.proofs.lines.next_piece.Goals as goal

pub returns-in-Ok-clause-piece : goal.returns-in-Ok-clause-piece
returns-in-Ok-clause-piece g c =
    let known = prepend_known c.args.buffer.now (g.P.PortRead.remaining c.args.port.now) in
    let rest = g.P.PortRead.remaining c.fill.new.port in
    let before = c.args.line.now.items in
    let line = c.add_piece-taken.new.line.items in
    let n = c.add_piece-taken.result.0 in
    let end = c.add_piece-taken.result.1 in
    let adds = subst (λ shown. Adds before line shown n end) c.bytes.ensures c.add_piece-taken.ensures.adds in
    subst (λ left. TakesPiece known (prepend_known left rest) before line end) (sym c.consume.ensures)
    (piece_taken known rest c.fill.new.self before line n end c.in-Ok.ensures.bytes c.in-Ok.ensures.end adds)

pub returns-in-Ok-clause-used : goal.returns-in-Ok-clause-used
returns-in-Ok-clause-used g c input =
    let none = c.add_piece-taken.ensures.used input in
    omega (arith, none, ap length c.bytes.ensures, ap length c.consume.ensures, length-drop c.add_piece-taken.result.0 c.fill.new.self)

pub returns-in-Ok-clause-failed : goal.returns-in-Ok-clause-failed
returns-in-Ok-clause-failed g c failed =
    absurd (subst (Adds c.args.line.now.items c.add_piece-taken.new.line.items c.bytes.result.now c.add_piece-taken.result.0) failed c.add_piece-taken.ensures.adds)

pub returns-in-Ok-clause-unfilled : goal.returns-in-Ok-clause-unfilled
returns-in-Ok-clause-unfilled g c failed =
    absurd (subst (Adds c.args.line.now.items c.add_piece-taken.new.line.items c.bytes.result.now c.add_piece-taken.result.0) failed c.add_piece-taken.ensures.adds)

pub returns-in-Ok-clause-kept : goal.returns-in-Ok-clause-kept
returns-in-Ok-clause-kept g c kept = c.in-Ok.ensures.kept

pub returns-in-Ok-clause-fewer : goal.returns-in-Ok-clause-fewer
returns-in-Ok-clause-fewer g c none =
    let some = c.add_piece-taken.ensures.some none in
    let within : c.add_piece-taken.result.0 ≤ length c.fill.new.self = omega (arith, c.add_piece-taken.ensures.within, ap length c.bytes.ensures) in
    let less = c.in-Ok.ensures.fewer (omega (arith, some, within)) in
    omega (arith, some, within, less, ap length c.consume.ensures, length-drop c.add_piece-taken.result.0 c.fill.new.self)

pub returns-in-Ok-clause-newline : goal.returns-in-Ok-clause-newline
returns-in-Ok-clause-newline g c newline =
    let some = c.add_piece-taken.ensures.newline newline in
    let within : c.add_piece-taken.result.0 ≤ length c.fill.new.self = omega (arith, c.add_piece-taken.ensures.within, ap length c.bytes.ensures) in
    let less = c.in-Ok.ensures.fewer (omega (arith, some, within)) in
    omega (arith, some, within, less, ap length c.consume.ensures, length-drop c.add_piece-taken.result.0 c.fill.new.self)

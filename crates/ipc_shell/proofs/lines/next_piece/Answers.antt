use Rattle.std.proofs.Common.{sym, subst}
use Rattle.std.specs.Io.KnownBytes.{prepend_known}
use Rattle.ipc_shell.specs.Reading.{Adds, ReadsPiece}
use Rattle.ipc_shell.proofs.PieceLemmas.{piece_read}
use Rattle.ipc_shell.proofs.lines.next_piece.Goals as goal

pub returns-in-Ok-clause-piece : goal.returns-in-Ok-clause-piece
returns-in-Ok-clause-piece g c =
    let known = prepend_known c.args.buffer.now (g.P.PortRead.remaining c.args.port.now) in
    let rest = g.P.PortRead.remaining c.fill.new.port in
    let before = c.args.line.now.items in
    let line = c.append-taken.new.line.items in
    let n = c.append-taken.result.0 in
    let piece = c.append-taken.result.1 in
    let adds = subst (λ shown. Adds before line shown n piece) c.bytes.ensures c.append-taken.ensures.adds in
    subst (λ left. ReadsPiece known (prepend_known left rest) before line piece) (sym c.consume.ensures)
    (piece_read known rest c.fill.new.self before line n piece c.in-Ok.ensures.bytes c.in-Ok.ensures.end adds)

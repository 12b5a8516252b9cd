use Rattle.std.proofs.Common.{arith}
use Rattle.std.proofs.lemmas.Grind.{common_steps}
use Rattle.std.specs.Io.KnownBytes.{prepend_known}
use Rattle.ipc_shell.proofs.PieceLemmas.{line_ends, line_too_long, line_last}
use Rattle.ipc_shell.proofs.lines.next_line.Goals as goal

pub returns-in-LineEnd-clause-line : goal.returns-in-LineEnd-clause-line
returns-in-LineEnd-clause-line g c = line_ends _ _ _ _ _ c.reads.invariant.one c.reads.invariant.short c.reads.invariant.read c.in-LineEnd.ensures.piece

pub returns-in-TooLong-clause-line : goal.returns-in-TooLong-clause-line
returns-in-TooLong-clause-line g c = line_too_long _ _ (prepend_known c.next_piece.new.buffer (g.P.PortRead.remaining c.next_piece.new.port)) _ c.next_piece.new.line.items c.reads.invariant.one c.reads.invariant.read c.in-TooLong.ensures.piece

pub returns-in-InputEnd-2-clause-line : goal.returns-in-InputEnd-2-clause-line
returns-in-InputEnd-2-clause-line g c = line_last _ _ _ _ _ c.reads.invariant.one c.reads.invariant.short c.reads.invariant.read c.in-InputEnd-2.ensures.piece (grind (arith, common_steps))

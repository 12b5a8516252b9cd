use Rattle.std.proofs.Common.{length, ap, arith}
use Rattle.ipc_trace.proofs.Texts.{line_length}
use Rattle.ipc_trace.proofs.line.read_line.Goals as goal

pub returns-then-line-gt-MAX_LINE_BYTES-clause-only : goal.returns-then-line-gt-MAX_LINE_BYTES-clause-only
returns-then-line-gt-MAX_LINE_BYTES-clause-only c read readable spells =
    absurd (omega (arith, c.if-line-gt-MAX_LINE_BYTES.true, ap length spells.1, line_length read readable))

use Rattle.std.proofs.Common.{length, ap, arith}
use Rattle.ipc_lines.proofs.Longest.{lines_are_within_the_limit}
use Rattle.ipc_lines.proofs.reading.read_entry.Goals as goal

-- a line past the limit is no entry's
pub returns-then-line-gt-MAX_LINE_BYTES-clause-only : goal.returns-then-line-gt-MAX_LINE_BYTES-clause-only
returns-then-line-gt-MAX_LINE_BYTES-clause-only c entry is e = absurd (omega (arith, c.if-line-gt-MAX_LINE_BYTES.true, ap length e, lines_are_within_the_limit entry is))

use Rattle.std.proofs.Common.{length, ap, arith}
use Rattle.ipc_lines.proofs.Numerals.{length-digits}
use Rattle.ipc_lines.proofs.numbers.read_decimal.Goals as goal

pub returns-then-bytes-gt-MAX_DIGITS-clause-only : goal.returns-then-bytes-gt-MAX_DIGITS-clause-only
returns-then-bytes-gt-MAX_DIGITS-clause-only c v small e =
    absurd (omega (arith, ap length e, length-digits 10 (omega arith) (omega arith) v))

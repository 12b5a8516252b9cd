use Rattle.std.proofs.Common.{length, ap, arith}
use Rattle.ipc_lines.proofs.Numerals.{length-digits}
use Rattle.ipc_lines.proofs.numbers.read_hex.Goals as goal

pub returns-then-digits-gt-MAX_DIGITS-clause-only : goal.returns-then-digits-gt-MAX_DIGITS-clause-only
returns-then-digits-gt-MAX_DIGITS-clause-only c v small e =
    absurd (omega (arith, ap length e, length-digits 16 (omega arith) (omega arith) v))

use Rattle.std.proofs.Common.{arith}
use Rattle.ipc_lines.proofs.Numerals.{digits_one}
use Rattle.ipc_lines.proofs.scalars.write_decimal.Goals as goal

pub returns-then-number-lt10 : goal.returns-then-number-lt10
returns-then-number-lt10 c = rw (digits_one 10 (omega arith) (omega arith) c.args.number (omega arith)) c.write_digit.ensures

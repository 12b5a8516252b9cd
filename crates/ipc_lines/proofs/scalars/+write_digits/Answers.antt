use Rattle.std.proofs.Common.{append_assoc, arith}
use Rattle.ipc_lines.proofs.Numerals.{digits_one, digits_step}
use Rattle.ipc_lines.proofs.scalars.+write_digits.Goals as goal

pub returns-then-word-lt16 : goal.returns-then-word-lt16
returns-then-word-lt16 t c = rw (digits_one 16 (omega arith) (omega arith) c.args.word (omega arith)) c.write_digit.ensures

pub returns : goal.returns
returns t c =
    let step = digits_step 16 (omega arith) (omega arith) c.args.word (omega arith) (omega arith) in
    rw (step, ← append_assoc, ← c.in_ok-write_digits.ensures) c.write_digit-2.ensures

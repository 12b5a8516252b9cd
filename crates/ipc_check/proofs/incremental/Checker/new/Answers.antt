use Rattle.std.proofs.Common.{refl, arith}
use Rattle.ipc_check.proofs.incremental.Checker.new.Goals as goal

pub invariant_of-result : goal.invariant_of-result
invariant_of-result c = rw (c.new.ensures, c.new-2.ensures) (record { counted = refl; few = omega arith; judged = refl })

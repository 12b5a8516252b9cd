use Rattle.std.proofs.Common.{arith}
use Rattle.ipc_desks.proofs.Beginning.{kept_none}
use Rattle.ipc_desks.proofs.kept.KeptDesks.new.Goals as goal

pub returns-clause-desks : goal.returns-clause-desks
returns-clause-desks g c = kept_none c.loop.desks.items c.loop.counter c.loop.invariant.items (omega (arith, c.loop-test.false))

use Rattle.std.proofs.Common.{arith}
use Rattle.ipc_compact.proofs.PartnerLemmas.{knows_none}
use Rattle.ipc_compact.proofs.kept.KeptPartners.new.Goals as goal

pub returns-clause-empty : goal.returns-clause-empty
returns-clause-empty g c = knows_none _ (omega (arith, c.loop.invariant.size, c.loop-test.false))

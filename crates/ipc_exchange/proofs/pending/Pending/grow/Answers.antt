use Rattle.std.proofs.Common.{arith}
use Rattle.ipc_exchange.proofs.PendingLemmas.{falls_more}
use Rattle.ipc_exchange.proofs.pending.Pending.grow.Goals as goal

pub invariant_of-self-2 : goal.invariant_of-self-2
invariant_of-self-2 g c = (rw c.reserve.ensures.items (falls_more c.self.inside.count c.in-Some.count c.self.inside.places.items (omega (arith, c.in-Some.ensures)) c.self.invariant.0), omega (arith, c.in_ok-reserve.ensures.ok))

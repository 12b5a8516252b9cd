use Rattle.std.proofs.Common.{sym, subst, arith}
use Rattle.ipc_waits.specs.Candidates.{ArePlaces}
use Rattle.ipc_waits.proofs.CandidateLemmas.{places_none}
use Rattle.ipc_waits.proofs.candidates.Candidates.clear.Goals as goal

pub invariant_of-self : goal.invariant_of-self
invariant_of-self c = (subst ArePlaces (sym c.clear.ensures.items) places_none, omega (arith, c.self.invariant.1, c.clear.ensures.capacity))

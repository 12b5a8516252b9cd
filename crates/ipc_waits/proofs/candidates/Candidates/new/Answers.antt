use Rattle.std.proofs.Common.{sym, subst}
use Rattle.ipc_waits.specs.Candidates.{ArePlaces}
use Rattle.ipc_waits.proofs.CandidateLemmas.{places_none}
use Rattle.ipc_waits.proofs.candidates.Candidates.new.Goals as goal

pub invariant_of-result : goal.invariant_of-result
invariant_of-result g c = (subst ArePlaces (sym c.in_ok-with_capacity.ensures.items) places_none, c.in_ok-with_capacity.ensures.room)

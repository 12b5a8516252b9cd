use Rattle.l4sh_look.proofs.Told.{IsToldTo}
use Rattle.l4sh_look.proofs.walk.counts_of.Given as goal

abbrev pub invariant-loop-index : goal.invariant-loop-index
invariant-loop-index l = IsToldTo l.entries l.index l.past l.slots l.counts

use Rattle.std.proofs.Common.{refl, arith}
use Rattle.ipc_history.proofs.HoldingLemmas.{empty_holds}
use Rattle.ipc_history.proofs.PlaceLemmas.{placed_none}
use Rattle.ipc_history.proofs.history.History.new.Goals as goal

pub invariant_of-result : goal.invariant_of-result
invariant_of-result c = rw (c.new.ensures, c.new-2.ensures.items, c.new-3.ensures.items) (record {
  held = record { holds = empty_holds; within = omega arith; whole = refl; size = refl; few = omega arith };
  placed = placed_none _ _;
})

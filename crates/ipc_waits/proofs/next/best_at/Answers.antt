use Rattle.std.proofs.Common.{refl}
use Rattle.ipc_waits.specs.Rules.{rule_of}
use Rattle.ipc_waits.proofs.Bests.{best_more}
use Rattle.ipc_waits.proofs.next.best_at.Goals as goal

pub loop-place-preserved : goal.loop-place-preserved
loop-place-preserved c = rw c.better-best.ensures (best_more (rule_of c.args.rule.now c.args.slots.now.past) c.args.slots.now.kept.table c.args.places.now c.loop-place.place-index _ _ c.loop-place.best c.loop-place-test.true refl c.loop-place.invariant)

use Rattle.std.proofs.Common.{refl}
use Rattle.ipc_waits.specs.Rules.{rule_of}
use Rattle.ipc_waits.proofs.TransferLemmas.{best_next}
use Rattle.ipc_waits.proofs.waiting.copying.best_among.Goals as goal

pub loop-wait-preserved : goal.loop-wait-preserved
loop-wait-preserved c = rw c.better-best.ensures (best_next (rule_of c.args.rule.now c.args.slots.now.past) c.args.slots.now.kept.table c.args.waits.now c.loop-wait.wait-index _ _ c.loop-wait.best c.loop-wait-test.true refl c.loop-wait.invariant)

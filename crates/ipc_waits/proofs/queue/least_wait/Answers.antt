use Rattle.std.proofs.Common.{refl}
use Rattle.ipc_waits.proofs.Leasts.{least_all, least_next}
use Rattle.ipc_waits.proofs.queue.least_wait.Goals as goal

pub loop-wait-init : goal.loop-wait-init
loop-wait-init c = refl

pub loop-wait-preserved : goal.loop-wait-preserved
loop-wait-preserved c = rw c.lesser-least.ensures (least_next c.args.waits.now c.loop-wait.wait-index _ c.loop-wait.least c.loop-wait-test.true c.loop-wait.invariant)

pub returns : goal.returns
returns c = least_all c.args.waits.now c.loop-wait.wait-index c.loop-wait.least c.loop-wait-test.false c.loop-wait.invariant

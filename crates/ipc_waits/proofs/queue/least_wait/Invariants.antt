use Rattle.std.proofs.Common.{take}
use Rattle.ipc_waits.specs.Queues.{IsLeastWait}
use Rattle.ipc_waits.proofs.queue.least_wait.Given as goal

abbrev pub invariant-loop-wait : goal.invariant-loop-wait
invariant-loop-wait l = IsLeastWait (take l.wait-index l.waits) l.least

use Rattle.std.proofs.Common.{subst}
use Rattle.ipc_waits.specs.Queues.{IsLeastWait}
use Rattle.ipc_waits.proofs.queue.Queue.least_until.Goals as goal

pub returns : goal.returns
returns c = subst (λ l. IsLeastWait l c.least_wait.result) c.until.ensures.value c.least_wait.ensures

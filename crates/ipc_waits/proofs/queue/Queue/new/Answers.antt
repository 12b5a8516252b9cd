use Rattle.ipc_waits.proofs.Edits.{no_waits}
use Rattle.ipc_waits.proofs.queue.Queue.new.Goals as goal

pub invariant_of-result : goal.invariant_of-result
invariant_of-result g c = (no_waits c.in_ok-new.field-0.items c.in_ok-new.ensures.empty, c.in_ok-new.ensures.room)

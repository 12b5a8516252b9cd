use Rattle.ipc_threads.proofs.Starting.{nothing_legal}
use Rattle.ipc_threads.proofs.slots.Slots.new.Goals as goal

pub invariant_of-result : goal.invariant_of-result
invariant_of-result c = record { legal = rw c.new.ensures nothing_legal; stands = rw c.new.ensures c.new-2.ensures }

use Rattle.ipc_threads.proofs.Starting.{nothing_legal}
use Rattle.ipc_desks.proofs.desks.Desks.new.Goals as goal

pub invariant_of-result : goal.invariant_of-result
invariant_of-result g c = record { legal = rw c.new-2.ensures nothing_legal; keeps = rw (c.new-2.ensures, c.new-3.ensures) (rw c.in_ok-kept.was at c.new.ensures.desks) }

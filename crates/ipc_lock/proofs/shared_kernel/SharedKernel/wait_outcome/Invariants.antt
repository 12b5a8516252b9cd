-- The seat is as it was.
use Rattle.std.proofs.Common.{◌≡◌}
use Rattle.ipc_lock.proofs.shared_kernel.SharedKernel.wait_outcome.Given as goal

abbrev pub invariant-loop : goal.invariant-loop
invariant-loop g l =
    (goal.iterator-loop g).can_next l.iterator' × (goal.iterator-loop g).is_finite l.iterator'
    × (l.seat.thread ≡ l.fn.seat.thread)
    × (l.seat.taken ≡ l.fn.seat.taken)

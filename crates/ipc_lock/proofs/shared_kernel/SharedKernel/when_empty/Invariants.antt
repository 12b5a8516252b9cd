-- The end knows what it knew.
use Rattle.std.proofs.Common.{◌≡◌}
use Rattle.ipc_lock.proofs.shared_kernel.SharedKernel.when_empty.Given as goal

abbrev pub invariant-loop : goal.invariant-loop
invariant-loop g l = (goal.iterator-loop g).can_next l.iterator' × (goal.iterator-loop g).is_finite l.iterator' × (l.own ≡ l.fn.own)

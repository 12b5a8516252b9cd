use Rattle.std.proofs.Common.{◌≡◌, ℕ, false, subst}
use Rattle.std.specs.Prelude.{slice_get}
use Rattle.std.specs.Sync.Mutex.{mutex_guard_value}
use Rattle.ipc_seats.specs.Places.{is_out}
use Rattle.ipc_lock.proofs.Above.{hands_if, none_if}
use Rattle.ipc_lock.proofs.shared_kernel.SharedKernel.release.Goals as goal

pub returns-clause-hands : goal.returns-clause-hands
returns-clause-hands g c = hands_if _ _ _ _ _ _ _ _ _ _ c.release.ensures.turned c.release.ensures.knew c.release.ensures.frees c.release.ensures.rolls c.release.ensures.wrote

pub returns-clause-none : goal.returns-clause-none
returns-clause-none g c =
    none_if _ _ _ _ _ _ _ _ c.deref_mut.ensures.value c.release.ensures.turned c.release.ensures.knew c.release.ensures.frees
    (subst (λ (n : ℕ). is_out n (slice_get (mutex_guard_value c.when_laid-inside.result).inside.boxes c.args.end.place) ≡ false) c.number.ensures c.when_laid-inside.ensures)
    c.release.ensures.none

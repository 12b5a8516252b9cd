use Rattle.std.proofs.Common.{ap, refl}
use Rattle.std.specs.Vec.{vec_items}
use Rattle.ipc_seats.proofs.Giving.{gives_none}
use Rattle.ipc_lock.proofs.Together.{tells_on}
use Rattle.ipc_lock.proofs.Turning.{logged_as, takes_for, took_so}
use Rattle.ipc_lock.proofs.logged.Logged.take_for.Goals as goal

pub invariant_of-self : goal.invariant_of-self
invariant_of-self g c =
    tells_on _ _ _ _ _ _ _ c.self.invariant
    (logged_as _ _ _ _ c.add.ensures (took_so _ _ _ _ _ _ c.thread-thread.ensures c.taken-taken.ensures c.outcomes.ensures)) (gives_none _) refl (record {
      takes = takes_for _ _ _ _ c.take_for-outcome.result c.take_for-outcome.ensures.some c.take_for-outcome.ensures.nothing;
      boxes = ap vec_items c.take_for-outcome.ensures.boxes;
      owners = ap vec_items c.take_for-outcome.ensures.owners;
      numbers = refl;
      upkeep = c.take_for-outcome.ensures.upkeep;
    })

use Rattle.std.proofs.Common.{ap, refl}
use Rattle.std.specs.Vec.{vec_items}
use Rattle.ipc_seats.proofs.Giving.{gives_as}
use Rattle.ipc_lock.proofs.Together.{tells_on}
use Rattle.ipc_lock.proofs.Turning.{work_gives}
use Rattle.ipc_lock.proofs.logged.Logged.work.Goals as goal

pub invariant_of-self : goal.invariant_of-self
invariant_of-self g c =
    tells_on _ _ _ _ _ _ _ c.self.invariant c.add.ensures
    (gives_as _ _ _ _ (work_gives _ _ _ _ c.idle_at-idle.ensures c.gifts_of_work.ensures) c.work-next.ensures.gives) refl (record {
      next = c.work-next.result;
      gifts_are = work_gives _ _ _ _ c.idle_at-idle.ensures c.gifts_of_work.ensures;
      works = c.work-next.ensures.works;
      owners = ap vec_items c.work-next.ensures.owners;
      numbers = refl;
      upkeep = c.work-next.ensures.upkeep;
    })

use Rattle.std.proofs.Common.{ap, refl}
use Rattle.std.specs.Vec.{vec_items}
use Rattle.ipc_seats.proofs.Giving.{gives_as}
use Rattle.ipc_lock.proofs.Together.{tells_on}
use Rattle.ipc_lock.proofs.logged.Logged.take_back.Goals as goal

pub invariant_of-self : goal.invariant_of-self
invariant_of-self g c =
    tells_on _ _ _ _ _ _ _ c.self.invariant c.add.ensures
    (gives_as _ _ _ _ c.gifts.ensures c.take_back.ensures.gives) refl (record {
      errands = c.args.errands.now;
      errands_now = c.take_back.new.errands;
      gifts_are = c.gifts.ensures;
      takes = c.take_back.ensures.takes;
      owners = ap vec_items c.take_back.ensures.owners;
      numbers = refl;
      upkeep = c.take_back.ensures.upkeep;
    })

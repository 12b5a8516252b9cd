use Rattle.std.proofs.Common.{ap, refl}
use Rattle.std.specs.Vec.{vec_items}
use Rattle.ipc_lock.proofs.Handed.{hands_all}
use Rattle.ipc_lock.proofs.Together.{tells_on}
use Rattle.ipc_lock.proofs.logged.Logged.hang_up.Goals as goal

pub invariant_of-self : goal.invariant_of-self
invariant_of-self g c =
    tells_on _ _ _ _ _ _ _ c.self.invariant c.add_own.ensures.log
    (hands_all _ _ _ _ _ c.requires.none c.gifts.ensures c.end_at-ended.ensures.hands) refl (record {
      errands = c.end_at-ended.new.errands;
      gifts_are = c.gifts.ensures;
      breaks = rw (← c.requires.none) c.end_at-ended.ensures.breaks;
      owners = ap vec_items c.end_at-ended.ensures.owners;
      numbers = refl;
    })

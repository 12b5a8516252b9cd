use Rattle.std.proofs.Common.{ap, refl}
use Rattle.std.specs.Vec.{vec_items}
use Rattle.ipc_seats.proofs.Giving.{gives_none}
use Rattle.ipc_lock.proofs.Together.{tells_on}
use Rattle.ipc_lock.proofs.logged.Logged.mark.Goals as goal

pub invariant_of-self : goal.invariant_of-self
invariant_of-self g c =
    tells_on _ _ _ _ _ _ _ c.self.invariant c.add.ensures (gives_none _) refl (record {
      marks = c.mark.ensures.marks;
      boxes = ap vec_items c.mark.ensures.boxes;
      owners = ap vec_items c.mark.ensures.owners;
      numbers = refl;
      upkeep = c.mark.ensures.upkeep;
    })

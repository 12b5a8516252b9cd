use Rattle.std.proofs.Common.{ap, refl}
use Rattle.std.specs.Vec.{vec_items}
use Rattle.ipc_seats.proofs.Giving.{gives_none}
use Rattle.ipc_lock.proofs.Together.{tells_on}
use Rattle.ipc_lock.proofs.logged.Logged.post.Goals as goal

pub invariant_of-self : goal.invariant_of-self
invariant_of-self g c =
    tells_on _ _ _ _ _ _ _ c.self.invariant c.add_own.ensures.log (gives_none _) refl (record {
      is_its = c.number_at-number.ensures;
      boxes = c.post.ensures.posted;
      owners = ap vec_items c.post.ensures.owners;
      numbers = refl;
      kernel = ap (λ l. l.kernel) c.post.ensures.locked;
      upkeep = c.post.ensures.upkeep;
    })

use Rattle.std.proofs.Common.{refl}
use Rattle.ipc_seats.proofs.Giving.{gives_none}
use Rattle.ipc_lock.proofs.Together.{tells_on}
use Rattle.ipc_lock.proofs.Turning.{parted_or}
use Rattle.ipc_lock.proofs.logged.Logged.part_if_marked.Goals as goal

pub invariant_of-self : goal.invariant_of-self
invariant_of-self g c =
    tells_on _ _ _ _ _ _ _ c.self.invariant c.add.ensures (gives_none _) refl (parted_or _ _ _ c.part_if_marked-part.ensures.either
    c.part_if_marked-part.ensures.boxes c.part_if_marked-part.ensures.owners)

use Rattle.std.proofs.Common.{refl}
use Rattle.ipc_seats.proofs.Giving.{gives_none}
use Rattle.ipc_lock.proofs.Together.{tells_on}
use Rattle.ipc_lock.proofs.Turning.{parted}
use Rattle.ipc_lock.proofs.logged.Logged.part_behind.Goals as goal

pub invariant_of-self : goal.invariant_of-self
invariant_of-self g c =
    tells_on _ _ _ _ _ _ _ c.self.invariant c.add.ensures (gives_none _) refl (parted c.part_behind-behind.result _ _ _ c.part_behind-behind.ensures.lets_go
    c.part_behind-behind.ensures.err c.part_behind-behind.ensures.boxes c.part_behind-behind.ensures.owners)

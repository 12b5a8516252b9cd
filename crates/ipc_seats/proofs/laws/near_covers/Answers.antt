use Rattle.ipc_seats.proofs.Near.{near_covers}
use Rattle.ipc_seats.proofs.laws.near_covers.Goals as goal

pub returns : goal.returns
returns c = near_covers

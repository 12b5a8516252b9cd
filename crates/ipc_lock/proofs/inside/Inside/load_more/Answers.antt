use Rattle.ipc_seats.proofs.Moves.{loads_stay}
use Rattle.ipc_lock.proofs.inside.Inside.load_more.Goals as goal

pub returns-clause-stay : goal.returns-clause-stay
returns-clause-stay g c = loads_stay _ _ _ _ _ _ _ c.load.ensures.loads

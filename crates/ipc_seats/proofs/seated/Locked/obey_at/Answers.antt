use Rattle.ipc_seats.proofs.Again.{clock_does}
use Rattle.ipc_seats.proofs.seated.Locked.obey_at.Goals as goal

pub returns-clause-does : goal.returns-clause-does
returns-clause-does g c = clock_does _ _ _ _ _ _ c.new.ensures.answer c.tick.ensures.obeys

use Rattle.ipc_seats.proofs.Again.{advance_does}
use Rattle.ipc_seats.proofs.seated.Locked.obey_advance.Goals as goal

pub returns-clause-does : goal.returns-clause-does
returns-clause-does g c = advance_does _ _ _ _ _ c.new.ensures.answer c.advance.ensures.obeys

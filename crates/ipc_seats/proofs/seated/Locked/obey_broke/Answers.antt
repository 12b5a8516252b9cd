use Rattle.ipc_seats.proofs.Again.{break_does}
use Rattle.ipc_seats.proofs.seated.Locked.obey_broke.Goals as goal

pub returns-in-Ok-clause-does : goal.returns-in-Ok-clause-does
returns-in-Ok-clause-does g c = break_does _ _ _ _ _ _ c.new.ensures.answer c.in-Ok.ensures.obeys

pub returns-in-Err-clause-does : goal.returns-in-Err-clause-does
returns-in-Err-clause-does g c = break_does _ _ _ _ _ _ c.new-in-Err.ensures.answer c.in-Err.ensures.obeys

use Rattle.ipc_lock.proofs.Telling.{asks_and_tells}
use Rattle.ipc_lock.proofs.inside.Inside.ask_and_tell.Goals as goal

pub returns-clause-asks : goal.returns-clause-asks
returns-clause-asks g c =
    asks_and_tells _ _ _ _ _ _ _ _ _ _ _ _ _ _ _ _ _ _ _ _ _ c.ask-told.ensures.asks c.ask-told.ensures.legal c.ask-told.ensures.finished
    c.after-after.ensures.upkeep c.ask-told.ensures.owners c.ask-told.ensures.told c.after-after.ensures.only c.after-after.ensures.stay c.after-after.ensures.loads

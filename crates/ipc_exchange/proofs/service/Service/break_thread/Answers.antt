use Rattle.ipc_exchange.proofs.ReadyLemmas.{left_ready}
use Rattle.ipc_exchange.proofs.service.Service.break_thread.Goals as goal

pub returns-clause-ready : goal.returns-clause-ready
returns-clause-ready c = left_ready _ _ _ _ (rw (← c.self.view_is) at c.requires.ready) (rw (← c.self.view_is) at c.requires.alone) c.history.ensures.sound c.broke-done.ensures.obeys

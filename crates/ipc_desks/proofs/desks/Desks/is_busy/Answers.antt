use Rattle.ipc_desks.proofs.TakenDesks.{busy_is}
use Rattle.ipc_desks.proofs.desks.Desks.is_busy.Goals as goal

pub returns : goal.returns
returns c = rw (c.is_busy.ensures, c.desk.ensures, c.place_of_thread.ensures.place) (busy_is c.args.self.now.past c.kept.ensures.legal c.args.self.now.taken c.kept.result.now c.kept.ensures.keeps c.args.thread c.requires)

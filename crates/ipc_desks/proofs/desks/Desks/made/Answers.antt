use Rattle.ipc_desks.proofs.TakenDesks.{made_is}
use Rattle.ipc_desks.proofs.desks.Desks.made.Goals as goal

pub returns : goal.returns
returns c = rw (c.desk.ensures, c.place_of_thread.ensures.place) (made_is c.args.self.now.past c.kept.ensures.legal c.args.self.now.taken c.kept.result.now c.kept.ensures.keeps c.args.thread c.requires)

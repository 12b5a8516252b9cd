use Rattle.ipc_desks.proofs.LastCalls.{live_below}
use Rattle.ipc_desks.proofs.desks.Desks.place_of_thread.Goals as goal

pub returns-clause-within : goal.returns-clause-within
returns-clause-within c = rw c.number.ensures (live_below c.args.self.now.past c.kept.ensures.legal c.args.thread c.requires)

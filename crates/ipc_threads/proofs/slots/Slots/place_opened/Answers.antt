use Rattle.ipc_threads.proofs.ThreadSteps.{opened_within}
use Rattle.ipc_threads.proofs.slots.Slots.place_opened.Goals as goal

pub returns-clause-within : goal.returns-clause-within
returns-clause-within c = rw c.number.ensures (opened_within c.args.self.now.past c.args.thread c.args.space c.requires)

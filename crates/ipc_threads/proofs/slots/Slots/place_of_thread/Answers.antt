use Rattle.ipc_threads.proofs.ThreadSteps.{live_within}
use Rattle.ipc_threads.proofs.slots.Slots.place_of_thread.Goals as goal

pub returns-clause-within : goal.returns-clause-within
returns-clause-within c = rw c.number.ensures (live_within c.args.self.now.past c.kept.result.now c.kept.ensures.legal c.kept.ensures.stands c.args.thread c.requires)

use Rattle.ipc_waits.proofs.FirstDue.{least_due}
use Rattle.ipc_waits.proofs.waiting.Waiting.least_due.Goals as goal

pub returns : goal.returns
returns c = least_due c.args.self.now.slots.past c.args.self.now.slots.kept c.kept.ensures.legal (rw c.kept.ensures.kept at c.kept.ensures.stands) c.args.self.now.waits.deadlines c.requires.waits.deadlines _ _ c.reached.ensures.within c.reached.ensures.same (rw c.deadlines.ensures at c.least_key.ensures)

use Rattle.ipc_threads.proofs.Changed.{unchanged}
use Rattle.ipc_threads.proofs.slots.Slots.note_moment.Goals as goal

pub returns-clause-changed : goal.returns-clause-changed
returns-clause-changed c = rw c.note_at.ensures.table (unchanged c.args.self.now.kept.table)

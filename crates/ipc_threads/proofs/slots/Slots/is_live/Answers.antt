use Rattle.std.proofs.Common.{◌∙◌}
use Rattle.ipc_threads.proofs.Lookups.{is_some_live}
use Rattle.ipc_threads.proofs.slots.Slots.is_live.Goals as goal

pub returns : goal.returns
returns c = c.is_live.ensures ∙ is_some_live c.args.self.now.past c.kept.result.now c.kept.ensures.legal c.kept.ensures.stands c.args.thread

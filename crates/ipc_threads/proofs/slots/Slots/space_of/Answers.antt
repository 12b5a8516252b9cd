use Rattle.std.proofs.Common.{◌∙◌}
use Rattle.ipc_threads.proofs.Lookups.{space_found}
use Rattle.ipc_threads.proofs.slots.Slots.space_of.Goals as goal

pub returns : goal.returns
returns c = c.space_in.ensures ∙ space_found c.args.self.now.past c.kept.result.now c.kept.ensures.legal c.kept.ensures.stands c.args.thread c.requires

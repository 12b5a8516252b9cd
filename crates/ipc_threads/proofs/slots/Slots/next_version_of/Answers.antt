use Rattle.std.proofs.Common.{ap, ◌∙◌}
use Rattle.ipc_threads.proofs.Answering.{version_is}
use Rattle.ipc_threads.proofs.slots.Slots.next_version_of.Goals as goal

pub returns : goal.returns
returns c = c.next_version_of.ensures ∙ (ap (λ s. s.version) (c.kept.ensures.stands.table c.args.number) ∙ version_is c.args.self.now.past c.args.number)

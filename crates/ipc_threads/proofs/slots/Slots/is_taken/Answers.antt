use Rattle.std.proofs.Common.{ap, ◌∙◌, is_some}
use Rattle.ipc_threads.proofs.Answering.{taken_is}
use Rattle.ipc_threads.proofs.slots.Slots.is_taken.Goals as goal

pub returns : goal.returns
returns c = c.is_taken.ensures ∙ (ap (λ s. is_some s.live) (c.kept.ensures.stands.table c.args.number) ∙ taken_is c.args.self.now.past c.kept.ensures.legal c.args.number)

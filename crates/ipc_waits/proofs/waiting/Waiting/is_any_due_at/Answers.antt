use Rattle.std.proofs.Common.{◌∙◌, ap, nat_le, arith}
use Rattle.std.specs.List.{list_any}
use Rattle.ipc_waits.proofs.WaitFacts.{any_is_due}
use Rattle.ipc_waits.proofs.waiting.Waiting.is_any_due_at.Goals as goal

pub returns : goal.returns
returns c =
    let within = c.requires.in_range in
    c.is_any_until.ensures ∙ (ap (list_any (λ w. nat_le w.key c.args.moment)) c.deadlines.ensures ∙ any_is_due c.args.self.now.slots.past c.args.self.now.slots.kept c.kept.ensures.legal (rw c.kept.ensures.kept at c.kept.ensures.stands) c.args.self.now.waits.deadlines c.requires.waiting.waits.deadlines c.args.moment (omega arith))

use Rattle.std.proofs.Common.{◌≡◌, subst, arith}
use Rattle.ipc_history.specs.Outcomes.{HasItsWords}
use Rattle.ipc_desks.specs.Messages.{delivered}
use Rattle.ipc_desks.proofs.desk.delivered.Goals as goal

pub invariant_of-result : goal.invariant_of-result
invariant_of-result c =
    let told = delivered c.args.number c.args.message c.args.caller c.args.shown c.args.buffers in
    let tag : told.tag ≡ c.unwrap_or-tag.result = grind arith in
    let words : told.words ≡ c.into_received-words.result.0.items = grind arith in
    subst (λ t. HasItsWords t c.into_received-words.result.0.items) tag (subst (λ w. HasItsWords told.tag w) words c.requires.words)

use Rattle.std.proofs.Common.{sym, ap, ◌∙◌, not}
use Rattle.ipc_laws.proofs.Tests.{not_both, refuted}
use Rattle.ipc_waits.specs.Patience.{takes}
use Rattle.ipc_waits.proofs.PatienceLemmas.{waits_if, waits_unmet}
use Rattle.ipc_waits.proofs.resting.waits.Goals as goal

pub returns-then-may_wait-clause-yes : goal.returns-then-may_wait-clause-yes
returns-then-may_wait-clause-yes c = λ none.
    let taken = ap (λ t. takes c.args.slots.now.past t c.args.caller) (sym c.to.ensures) ∙ sym c.takes.ensures in
    waits_if c.args.slots.now.past c.kept.ensures.legal c.args.caller c.args.call.now (sym c.may_wait.ensures ∙ c.if-may_wait.true) (taken ∙ refuted _ none)

pub returns-then-may_wait-clause-no : goal.returns-then-may_wait-clause-no
returns-then-may_wait-clause-no c = λ some waits.
    let taken = ap (λ t. takes c.args.slots.now.past t c.args.caller) (sym c.to.ensures) ∙ sym c.takes.ensures in
    not_both (ap not (sym taken ∙ waits_unmet c.args.slots.now.past c.kept.ensures.legal c.args.caller c.args.call.now waits)) some

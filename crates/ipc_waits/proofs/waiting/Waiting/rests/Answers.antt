use Rattle.std.proofs.Common.{All, ◌≡◌, ◌∙◌, sym, ap, subst, Bool, true, false, not, arith}
use Rattle.ipc_laws.proofs.Tests.{refuted}
use Rattle.ipc_waits.specs.Next.{IsOpenAt}
use Rattle.ipc_waits.specs.Queues.{under}
use Rattle.ipc_waits.specs.Resting.{lets_any_in}
use Rattle.ipc_waits.proofs.RestLemmas.{rests_alone, rests_if, those_open}
use Rattle.ipc_waits.proofs.waiting.Waiting.rests.Goals as goal

not_false : (b : Bool) → not b ≡ false → b ≡ true
not_false b h = grind arith

pub lets_any_in-requires-clause-senders : goal.lets_any_in-requires-clause-senders
lets_any_in-requires-clause-senders c =
    let is : c.under-senders.result.now ≡ under c.args.caller c.args.self.now.waits.senders = c.under-senders.ensures.value ∙ (ap (under c.to_word.result) c.senders.ensures ∙ ap (λ t. under t c.args.self.now.waits.senders) c.to_word.ensures) in
    subst (All (IsOpenAt c.args.self.now.slots.past)) (sym is) (those_open c.args.self.now.slots.past c.args.self.now.slots.kept c.kept.ensures.legal (rw c.kept.ensures.kept at c.kept.ensures.stands) c.args.self.now.waits.senders c.requires.waiting.waits.senders c.args.caller)

pub returns-clause-yes : goal.returns-clause-yes
returns-clause-yes c = λ none.
    let is : c.under-senders.result.now ≡ under c.args.caller c.args.self.now.waits.senders = c.under-senders.ensures.value ∙ (ap (under c.to_word.result) c.senders.ensures ∙ ap (λ t. under t c.args.self.now.waits.senders) c.to_word.ensures) in
    let let_in = ap (λ l. lets_any_in c.args.self.now.slots.past c.args.call.now.from c.args.caller l) (sym is) ∙ (ap (λ f. lets_any_in c.args.self.now.slots.past f c.args.caller c.under-senders.result.now) (sym c.from.ensures) ∙ sym c.lets_any_in.ensures) in
    rests_if c.args.self.now.slots.past c.args.self.now.slots.kept c.kept.ensures.legal (rw c.kept.ensures.kept at c.kept.ensures.stands) c.args.self.now.waits.senders c.requires.waiting.waits.senders c.args.caller c.args.call.now (sym c.is_patient.ensures ∙ c.if-not-is_patient.false) (let_in ∙ refuted _ none)

pub returns-clause-no : goal.returns-clause-no
returns-clause-no c = λ some rests.
    let is : c.under-senders.result.now ≡ under c.args.caller c.args.self.now.waits.senders = c.under-senders.ensures.value ∙ (ap (under c.to_word.result) c.senders.ensures ∙ ap (λ t. under t c.args.self.now.waits.senders) c.to_word.ensures) in
    let let_in = ap (λ l. lets_any_in c.args.self.now.slots.past c.args.call.now.from c.args.caller l) (sym is) ∙ (ap (λ f. lets_any_in c.args.self.now.slots.past f c.args.caller c.under-senders.result.now) (sym c.from.ensures) ∙ sym c.lets_any_in.ensures) in
    rests_alone c.args.self.now.slots.past c.args.self.now.slots.kept c.kept.ensures.legal (rw c.kept.ensures.kept at c.kept.ensures.stands) c.args.self.now.waits.senders c.requires.waiting.waits.senders c.args.caller c.args.call.now rests (let_in ∙ not_false c.lets_any_in.result some)

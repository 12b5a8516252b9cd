use Rattle.std.proofs.Common.{sym, ap, ◌∙◌, arith, subst, ◌≤◌, ◌+◌, ◌≡◌, Some}
use Rattle.ipc_desks.specs.CallsOf.{made_by, outcome_to_take}
use Rattle.ipc_desks.specs.Desks.{desk_at}
use Rattle.ipc_desks.specs.Steps.{Changed, outcome_in_told, taken_from}
use Rattle.ipc_desks.proofs.TakenDesks.{outcome_is, ready_fewer, told_keeps, told_last}
use Rattle.ipc_desks.proofs.desks.Desks.take.Goals as goal

pub take_outcome-requires-clause-few : goal.take_outcome-requires-clause-few
take_outcome-requires-clause-few c ready =
    let live = rw (← c.self.view_is) at c.requires in
    let made = rw (← c.self.view_is) at c.made-made.ensures in
    let place = c.place_of_thread-place.ensures.place in
    let fewer : (desk_at c.self.inside.kept c.place_of_thread-place.result).taken + 1 ≤ made_by c.self.inside.past c.args.thread = rw place (ready_fewer c.self.inside.past c.self.invariant.legal c.self.inside.taken c.self.inside.kept c.self.invariant.keeps c.args.thread live (rw place at ready)) in
    omega (arith, fewer, made)

pub invariant_of-self : goal.invariant_of-self
invariant_of-self c =
    let live = rw (← c.self.view_is) at c.requires in
    let given : c.take_outcome.result ≡ outcome_to_take c.self.inside.past c.self.inside.taken c.args.thread = c.take_outcome.ensures.result ∙ (ap (λ p. outcome_in_told (desk_at c.self.inside.kept p).told) c.place_of_thread-place.ensures.place ∙ outcome_is c.self.inside.past c.self.invariant.legal c.self.inside.taken c.self.inside.kept c.self.invariant.keeps c.args.thread live) in
    let changed = subst (λ p. Changed p taken_from c.self.inside.kept c.take_outcome.new.self) c.place_of_thread-place.ensures.place c.take_outcome.ensures.desks in
    record { legal = c.self.invariant.legal; keeps = rw (c.add.ensures, ap (λ o. o.call) c.outcome.view_is) (told_keeps c.self.inside.past c.self.invariant.legal c.self.inside.taken c.self.inside.kept c.self.invariant.keeps c.args.thread live c.take_outcome.new.self changed (Some c.in-Some.outcome) (sym given ∙ c.in-Some.is)) }

pub returns-in-Some-clause-given : goal.returns-in-Some-clause-given
returns-in-Some-clause-given c =
    let live = rw (← c.self.view_is) at c.requires in
    let given : c.take_outcome.result ≡ outcome_to_take c.self.inside.past c.self.inside.taken c.args.thread = c.take_outcome.ensures.result ∙ (ap (λ p. outcome_in_told (desk_at c.self.inside.kept p).told) c.place_of_thread-place.ensures.place ∙ outcome_is c.self.inside.past c.self.invariant.legal c.self.inside.taken c.self.inside.kept c.self.invariant.keeps c.args.thread live) in
    rw (← c.self.view_is) (sym c.in-Some.is ∙ given)

pub returns-in-Some-clause-call : goal.returns-in-Some-clause-call
returns-in-Some-clause-call c =
    let live = rw (← c.self.view_is) at c.requires in
    let given : c.take_outcome.result ≡ outcome_to_take c.self.inside.past c.self.inside.taken c.args.thread = c.take_outcome.ensures.result ∙ (ap (λ p. outcome_in_told (desk_at c.self.inside.kept p).told) c.place_of_thread-place.ensures.place ∙ outcome_is c.self.inside.past c.self.invariant.legal c.self.inside.taken c.self.inside.kept c.self.invariant.keeps c.args.thread live) in
    rw (← c.self.view_is) (told_last c.self.inside.past c.self.invariant.legal c.self.inside.taken c.self.inside.kept c.self.invariant.keeps c.args.thread live (Some c.in-Some.outcome) (sym given ∙ c.in-Some.is))

pub returns-in-None-clause-given : goal.returns-in-None-clause-given
returns-in-None-clause-given c =
    let live = rw (← c.self.view_is) at c.requires in
    let given : c.take_outcome.result ≡ outcome_to_take c.self.inside.past c.self.inside.taken c.args.thread = c.take_outcome.ensures.result ∙ (ap (λ p. outcome_in_told (desk_at c.self.inside.kept p).told) c.place_of_thread-place.ensures.place ∙ outcome_is c.self.inside.past c.self.invariant.legal c.self.inside.taken c.self.inside.kept c.self.invariant.keeps c.args.thread live) in
    rw (← c.self.view_is) (sym c.in-None.is ∙ given)

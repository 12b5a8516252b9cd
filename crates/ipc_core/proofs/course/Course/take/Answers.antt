use Rattle.std.proofs.Common.{◌++◌, ◌∷◌, [], refl, ap, sym, subst, ◌∙◌, length, length-append, arith}
use Rattle.ipc_history.specs.Legal.{Legal}
use Rattle.ipc_compact.specs.Places.{WasPlaced}
use Rattle.ipc_core.proofs.CompactLemmas.{among_more, kept_taken}
use Rattle.ipc_core.proofs.CourseLemmas.{took_now}
use Rattle.ipc_core.proofs.course.Course.take.Goals as goal

pub returns-clause-done : goal.returns-clause-done
returns-clause-done c = (took_now c.self.inside.desks.past c.args.self.now.entries c.self.inside.desks.taken c.args.self.now.taken c.args.thread c.in_ok-outcome.outcome (c.self.invariant.course.desks_of ∙ ap (λ v. v.entries) c.self.view_is) (ap (λ v. v.taken) c.self.view_is) (subst Legal (sym c.self.invariant.course.desks_of) c.self.invariant.course.legal) (sym c.take.ensures.given ∙ c.in_ok-outcome.was) c.in_ok-outcome.ensures.call).0

pub returns-clause-fresh : goal.returns-clause-fresh
returns-clause-fresh c = (took_now c.self.inside.desks.past c.args.self.now.entries c.self.inside.desks.taken c.args.self.now.taken c.args.thread c.in_ok-outcome.outcome (c.self.invariant.course.desks_of ∙ ap (λ v. v.entries) c.self.view_is) (ap (λ v. v.taken) c.self.view_is) (subst Legal (sym c.self.invariant.course.desks_of) c.self.invariant.course.legal) (sym c.take.ensures.given ∙ c.in_ok-outcome.was) c.in_ok-outcome.ensures.call).1

pub invariant_of-self : goal.invariant_of-self
invariant_of-self c =
    let was = c.self.invariant in
    let course = was.course in
    let same = c.in_err-outcome.ensures.none refl in
    record {
      course = record {
        legal = course.legal;
        waits_in = course.waits_in;
        waiting_is = course.waiting_is;
        desks_of = c.take.ensures.past ∙ course.desks_of;
        names = course.names;
        once = course.once;
        begun = course.begun;
        wide = course.wide;
      };
      front = was.front;
      partners_of = was.partners_of;
      counted = was.counted ∙ sym (ap length same);
      kept = subst (λ t. WasPlaced c.self.inside.history.entries t c.self.inside.history.held.front c.self.inside.history.held.places c.self.inside.history.held.whole_from) (sym same) was.kept;
    }

pub invariant_of-self-2 : goal.invariant_of-self-2
invariant_of-self-2 c =
    let was = c.self.invariant in
    let course = was.course in
    let call = c.in_ok-outcome.outcome.call in
    let counted = was.counted in
    let added = c.in_ok-outcome.ensures.some in
    let longer = ap length added ∙ length-append c.self.inside.desks.taken (call ∷ []) in
    record {
      course = record {
        legal = course.legal;
        waits_in = course.waits_in;
        waiting_is = course.waiting_is;
        desks_of = c.take.ensures.past ∙ course.desks_of;
        names = course.names;
        once = course.once;
        begun = course.begun;
        wide = course.wide;
      };
      front = was.front;
      partners_of = was.partners_of;
      counted = omega (arith, counted, longer);
      kept = subst (λ t. WasPlaced c.self.inside.history.entries t c.self.inside.history.held.front c.self.inside.history.held.places c.self.inside.history.held.whole_from) (sym added) (kept_taken c.self.inside.history.entries c.self.inside.desks.taken (c.self.inside.desks.taken ++ call ∷ []) c.self.inside.history.held.front c.self.inside.history.held.places c.self.inside.history.held.whole_from (among_more c.self.inside.desks.taken call) was.kept);
    }

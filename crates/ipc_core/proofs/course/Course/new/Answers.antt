use Rattle.std.proofs.Common.{[], refl, sym, ap, ◌∙◌, subst, length, arith}
use Rattle.ipc_compact.specs.Places.{WasPlaced}
use Rattle.ipc_waits.specs.Waiting.{IsWaiting}
use Rattle.ipc_core.proofs.CompactLemmas.{kept_none}
use Rattle.ipc_core.proofs.CourseLemmas.{course_none}
use Rattle.ipc_core.proofs.course.Course.new.Goals as goal

pub invariant_of-result : goal.invariant_of-result
invariant_of-result g c =
    let past = ap (λ w. w.slots.past) c.in-Ok.ensures.ok ∙ c.in_ok-new.ensures.past in
    let waiting = subst IsWaiting (sym c.in-Ok.ensures.ok) c.in_ok-new.ensures.empty in
    let large = c.in_ok-with_capacity.ensures.room in
    let held = c.new-2.ensures.held in
    let none = ap (λ h. h.whole_from) held in
    record {
      course = course_none _ _ _ _ _ _ c.new-2.ensures.entries past waiting c.in_ok-new-2.ensures.past refl c.in_ok-with_capacity.ensures.items (omega (arith, large));
      front = omega (arith, none);
      partners_of = c.in_ok-new-3.ensures.past ∙ sym c.new-2.ensures.entries;
      counted = sym (ap length c.in_ok-new-2.ensures.taken);
      kept = subst (λ l. WasPlaced l c.in_ok-new-2.field-0.taken c.new-2.result.held.front c.new-2.result.held.places c.new-2.result.held.whole_from) (sym c.new-2.ensures.entries) (subst (λ t. WasPlaced [] t c.new-2.result.held.front c.new-2.result.held.places c.new-2.result.held.whole_from) (sym c.in_ok-new-2.ensures.taken) (subst (λ h. WasPlaced [] [] h.front h.places h.whole_from) (sym held) kept_none));
    }

use Rattle.std.proofs.Common.{◌≡◌, ◌<◌, ◌≤◌, ◌+◌, ◌++◌, ◌∷◌, [], ap, ◌∙◌, sym, subst, length, length-append, false, vec_len, vec_capacity, arith}
use Rattle.ipc_history.specs.Legal.{Follows}
use Rattle.ipc_history.specs.declared.entry.Entry.TheVariants.{Given, Written}
use Rattle.ipc_history.specs.declared.entry.Input.TheVariants.{Called}
use Rattle.ipc_history.specs.declared.entry.Output.TheVariants.{Began, Ended}
use Rattle.ipc_compact.specs.Places.{WasPlaced}
use Rattle.ipc_laws.specs.Exchange.{Reaches, exchanged}
use Rattle.ipc_waits.specs.Waiting.{IsWaiting}
use Rattle.ipc_core.specs.CourseParts.{ComesIdle}
use Rattle.ipc_core.specs.Finished.{IsFresh, with_name}
use Rattle.ipc_core.specs.Outcomes.{is_among}
use Rattle.ipc_core.proofs.CompactLemmas.{kept_more}
use Rattle.ipc_core.proofs.CourseLemmas.{each_some}
use Rattle.ipc_core.proofs.ExchangeLemmas.{course_exchanged, first_place, second_place}
use Rattle.ipc_core.proofs.course.Course.exchange.Goals as goal

pub note_exchange-ended-requires-clause-desks : goal.note_exchange-ended-requires-clause-desks
note_exchange-ended-requires-clause-desks c = ap (λ w. w.slots.past) c.deref_mut.ensures.value ∙ (c.self.invariant.course.waits_in ∙ sym c.self.invariant.course.desks_of)

pub note_exchange-ended-requires-clause-partners : goal.note_exchange-ended-requires-clause-partners
note_exchange-ended-requires-clause-partners c = ap (λ w. w.slots.past) c.deref_mut.ensures.value ∙ (c.self.invariant.course.waits_in ∙ sym c.self.invariant.partners_of)

pub note_exchange-ended-requires-clause-waiting : goal.note_exchange-ended-requires-clause-waiting
note_exchange-ended-requires-clause-waiting c = subst IsWaiting (sym c.deref_mut.ensures.value) c.self.invariant.course.waiting_is

pub note_exchange-ended-requires-clause-follows : goal.note_exchange-ended-requires-clause-follows
note_exchange-ended-requires-clause-follows c = subst (λ l. Follows l (Given (Called c.args.number c.args.caller c.args.call))) (sym (ap (λ w. w.slots.past) c.deref_mut.ensures.value ∙ (c.self.invariant.course.waits_in ∙ ap (λ v. v.entries) c.self.view_is))) c.requires.follows

pub note_exchange-ended-requires-clause-reaches : goal.note_exchange-ended-requires-clause-reaches
note_exchange-ended-requires-clause-reaches c = subst (λ l. Reaches l c.args.caller c.args.call c.args.receiving) (sym (ap (λ w. w.slots.past) c.deref_mut.ensures.value ∙ (c.self.invariant.course.waits_in ∙ ap (λ v. v.entries) c.self.view_is))) c.requires.reaches

pub note_exchange-ended-requires-clause-idle : goal.note_exchange-ended-requires-clause-idle
note_exchange-ended-requires-clause-idle c =
    subst (λ l. ComesIdle l c.self.inside.desks.taken (Given (Called c.args.number c.args.caller c.args.call))) (sym c.self.invariant.course.desks_of)
    (subst (λ v. ComesIdle v.entries v.taken (Given (Called c.args.number c.args.caller c.args.call))) (sym c.self.view_is) c.requires.idle)

pub add-requires : goal.add-requires
add-requires c = each_some c.note_exchange-ended.result.first (λ t. is_among t c.self.inside.finished.items ≡ false → vec_len c.self.inside.finished < vec_capacity c.self.inside.finished) (λ t is absent. (
    let follows = subst (λ v. Follows v.entries (Given (Called c.args.number c.args.caller c.args.call))) (sym c.self.view_is) c.requires.follows in
    let reaches = subst (λ v. Reaches v.entries c.args.caller c.args.call c.args.receiving) (sym c.self.view_is) c.requires.reaches in
    let few = first_place c.self.inside.history.entries c.args.number c.args.caller c.args.receiving c.args.call c.self.inside.waiting.value c.self.inside.desks c.self.inside.since c.self.inside.finished.items (vec_capacity c.self.inside.finished) c.self.invariant.course follows reaches (subst (λ v. IsFresh v (Given (Called c.args.number c.args.caller c.args.call))) (sym c.self.view_is) c.requires.fresh) c.note_exchange-ended.result.first c.note_exchange-ended.result.second c.note_exchange-ended.ensures.finished t is absent in
    omega (arith, few)))

pub add-requires-2 : goal.add-requires-2
add-requires-2 c = each_some c.note_exchange-ended.result.second (λ t. is_among t c.add.new.names.items ≡ false → vec_len c.add.new.names < vec_capacity c.add.new.names) (λ t is absent. (
    let wide = c.add.ensures.capacity in
    let follows = subst (λ v. Follows v.entries (Given (Called c.args.number c.args.caller c.args.call))) (sym c.self.view_is) c.requires.follows in
    let reaches = subst (λ v. Reaches v.entries c.args.caller c.args.call c.args.receiving) (sym c.self.view_is) c.requires.reaches in
    let few = second_place c.self.inside.history.entries c.args.number c.args.caller c.args.receiving c.args.call c.self.inside.waiting.value c.self.inside.desks c.self.inside.since c.self.inside.finished.items (vec_capacity c.self.inside.finished) c.self.invariant.course follows reaches (subst (λ v. IsFresh v (Given (Called c.args.number c.args.caller c.args.call))) (sym c.self.view_is) c.requires.fresh) c.note_exchange-ended.result.first c.note_exchange-ended.result.second c.note_exchange-ended.ensures.finished t (vec_capacity c.add.new.names) (omega (arith, wide)) is (ap (is_among t) (sym c.add.ensures.items) ∙ absent) in
    omega (arith, few, ap length c.add.ensures.items)))

pub push-requires : goal.push-requires
push-requires c = let fits = subst (λ v. length v.entries + 3 ≤ v.room) (sym c.self.view_is) c.requires.room in omega (arith, fits)

pub push-requires-2 : goal.push-requires-2
push-requires-2 c =
    let fits = subst (λ v. length v.entries + 3 ≤ v.room) (sym c.self.view_is) c.requires.room in
    let one = length-append c.self.inside.history.entries (Given (Called c.args.number c.args.caller c.args.call) ∷ []) in
    rw (c.push.ensures.entries, c.push.ensures.room) (omega (arith, fits, one))

pub push-requires-3 : goal.push-requires-3
push-requires-3 c =
    let fits = subst (λ v. length v.entries + 3 ≤ v.room) (sym c.self.view_is) c.requires.room in
    let one = length-append c.self.inside.history.entries (Given (Called c.args.number c.args.caller c.args.call) ∷ []) in
    let two = length-append (c.self.inside.history.entries ++ Given (Called c.args.number c.args.caller c.args.call) ∷ []) (Written (Began c.args.number c.args.receiving) ∷ []) in
    rw (c.push-2.ensures.entries, c.push-2.ensures.room, c.push.ensures.entries, c.push.ensures.room) (omega (arith, fits, one, two))

pub invariant_of-self : goal.invariant_of-self
invariant_of-self c =
    let wide = c.add.ensures.capacity in
    let wider = c.add-2.ensures.capacity in
    let was = c.self.invariant in
    let follows = subst (λ v. Follows v.entries (Given (Called c.args.number c.args.caller c.args.call))) (sym c.self.view_is) c.requires.follows in
    let reaches = subst (λ v. Reaches v.entries c.args.caller c.args.call c.args.receiving) (sym c.self.view_is) c.requires.reaches in
    let longer = c.push-3.ensures.entries ∙ ap (λ l. l ++ Written (Ended c.args.number c.args.receiving) ∷ []) (c.push-2.ensures.entries ∙ ap (λ l. l ++ Written (Began c.args.number c.args.receiving) ∷ []) c.push.ensures.entries) in
    let held = c.push-3.ensures.held ∙ (c.push-2.ensures.held ∙ c.push.ensures.held) in
    record {
      course = course_exchanged c.self.inside.history.entries c.args.number c.args.caller c.args.receiving c.args.call c.self.inside.waiting.value c.self.inside.desks c.self.inside.since c.self.inside.finished.items (vec_capacity c.self.inside.finished) was.course follows reaches (subst (λ v. IsFresh v (Given (Called c.args.number c.args.caller c.args.call))) (sym c.self.view_is) c.requires.fresh) c.note_exchange-ended.result.first c.note_exchange-ended.result.second c.note_exchange-ended.ensures.finished
          c.push-3.new.self.entries c.note_exchange-ended.new.waiting c.note_exchange-ended.new.desks c.add-2.new.names.items (vec_capacity c.add-2.new.names) longer (c.note_exchange-ended.ensures.waits ∙ ap (λ w. exchanged w.slots.past c.args.number c.args.caller c.args.call c.args.receiving) c.deref_mut.ensures.value) c.note_exchange-ended.ensures.waiting c.note_exchange-ended.ensures.desks
          (c.add-2.ensures.items ∙ ap (λ l. with_name l c.note_exchange-ended.result.second) c.add.ensures.items)
          (omega (arith, wide, wider));
      front = (let front = was.front in omega (arith, front, ap (λ h. h.whole_from) held));
      partners_of = c.note_exchange-ended.ensures.partners ∙ ap (λ l. exchanged l c.args.number c.args.caller c.args.call c.args.receiving) was.partners_of ∙ sym longer;
      counted = was.counted ∙ sym (ap length c.note_exchange-ended.ensures.taken);
      kept = subst (λ t. WasPlaced c.push-3.new.self.entries t c.push-3.new.self.held.front c.push-3.new.self.held.places c.push-3.new.self.held.whole_from) (sym c.note_exchange-ended.ensures.taken) (subst (λ h. WasPlaced c.push-3.new.self.entries c.self.inside.desks.taken h.front h.places h.whole_from) (sym held)
          (kept_more c.push-2.new.self.entries c.push-3.new.self.entries c.self.inside.desks.taken c.self.inside.history.held.front c.self.inside.history.held.places c.self.inside.history.held.whole_from (Written (Ended c.args.number c.args.receiving)) c.push-3.ensures.entries
          (kept_more c.push.new.self.entries c.push-2.new.self.entries c.self.inside.desks.taken c.self.inside.history.held.front c.self.inside.history.held.places c.self.inside.history.held.whole_from (Written (Began c.args.number c.args.receiving)) c.push-2.ensures.entries
          (kept_more c.self.inside.history.entries c.push.new.self.entries c.self.inside.desks.taken c.self.inside.history.held.front c.self.inside.history.held.places c.self.inside.history.held.whole_from (Given (Called c.args.number c.args.caller c.args.call)) c.push.ensures.entries was.kept))));
    }

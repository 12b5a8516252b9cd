use Rattle.std.proofs.Common.{◌≡◌, ◌<◌, ◌++◌, ◌∷◌, [], ap, ◌∙◌, sym, subst, length, false, vec_len, vec_capacity, arith}
use Rattle.ipc_history.specs.Legal.{Follows}
use Rattle.ipc_compact.specs.Places.{WasPlaced}
use Rattle.ipc_core.specs.CourseParts.{ComesIdle}
use Rattle.ipc_core.specs.Finished.{IsFresh, with_name}
use Rattle.ipc_core.specs.Outcomes.{is_among}
use Rattle.ipc_core.proofs.CompactLemmas.{kept_more}
use Rattle.ipc_core.proofs.CourseLemmas.{course_more, each_some, first_place, second_place}
use Rattle.ipc_core.proofs.course.Course.append.Goals as goal

pub note-ended-requires-clause-follows : goal.note-ended-requires-clause-follows
note-ended-requires-clause-follows c = subst (λ l. Follows l c.args.entry) (sym (c.self.invariant.course.desks_of ∙ ap (λ v. v.entries) c.self.view_is)) c.requires.follows

pub note-ended-requires-clause-idle : goal.note-ended-requires-clause-idle
note-ended-requires-clause-idle c =
    subst (λ l. ComesIdle l c.self.inside.desks.taken c.args.entry) (sym c.self.invariant.course.desks_of)
    (subst (λ v. ComesIdle v.entries v.taken c.args.entry) (sym c.self.view_is) c.requires.idle)

pub note-requires-clause-follows : goal.note-requires-clause-follows
note-requires-clause-follows c = subst (λ l. Follows l c.args.entry) (sym (c.self.invariant.partners_of ∙ ap (λ v. v.entries) c.self.view_is)) c.requires.follows

pub add-requires : goal.add-requires
add-requires c = each_some c.note-ended.result.first (λ t. is_among t c.self.inside.finished.items ≡ false → vec_len c.self.inside.finished < vec_capacity c.self.inside.finished) (λ t is absent. (let few = first_place _ _ c.args.entry _ _ _ _ _ c.self.invariant.course (rw (ap (λ h. h.entries) c.self.view_is) c.requires.follows) (λ i. c.self.inside.history.entries ++ c.args.entry ∷ []) (subst (λ v. IsFresh v c.args.entry) (sym c.self.view_is) c.requires.fresh) c.note-ended.result.first c.note-ended.result.second c.note-ended.ensures.finished t is absent in omega (arith, few)))

pub add-requires-2 : goal.add-requires-2
add-requires-2 c = each_some c.note-ended.result.second (λ t. is_among t c.add.new.names.items ≡ false → vec_len c.add.new.names < vec_capacity c.add.new.names) (λ t is absent. (
    let wide = c.add.ensures.capacity in
    let few = second_place _ _ c.args.entry _ _ _ _ _ c.self.invariant.course (rw (ap (λ h. h.entries) c.self.view_is) c.requires.follows) (λ i. c.self.inside.history.entries ++ c.args.entry ∷ []) (subst (λ v. IsFresh v c.args.entry) (sym c.self.view_is) c.requires.fresh) c.note-ended.result.first c.note-ended.result.second c.note-ended.ensures.finished t (vec_capacity c.add.new.names) (omega (arith, wide)) is (ap (is_among t) (sym c.add.ensures.items) ∙ absent) in
    omega (arith, few, ap length c.add.ensures.items)))

pub invariant_of-self : goal.invariant_of-self
invariant_of-self c =
    let wide = c.add.ensures.capacity in
    let wider = c.add-2.ensures.capacity in
    let was = c.self.invariant in
    record {
      course = course_more _ _ c.args.entry _ _ _ _ _ was.course (rw (ap (λ h. h.entries) c.self.view_is) c.requires.follows) c.push.ensures.entries (subst (λ v. IsFresh v c.args.entry) (sym c.self.view_is) c.requires.fresh) c.note-ended.result.first c.note-ended.result.second c.note-ended.ensures.finished
          c.note-2.new.self c.note-ended.new.desks c.add-2.new.names.items (vec_capacity c.add-2.new.names) (c.note-2.ensures.past ∙ ap (λ w. w.slots.past ++ c.args.entry ∷ []) c.deref_mut.ensures.value) c.note-2.ensures.waiting c.note-ended.ensures.past
          (c.add-2.ensures.items ∙ ap (λ l. with_name l c.note-ended.result.second) c.add.ensures.items)
          (omega (arith, wide, wider));
      front = (let front = was.front in omega (arith, front, ap (λ h. h.whole_from) c.push.ensures.held));
      partners_of = c.note.ensures ∙ ap (λ l. l ++ c.args.entry ∷ []) was.partners_of ∙ sym c.push.ensures.entries;
      counted = was.counted ∙ sym (ap length c.note-ended.ensures.taken);
      kept = subst (λ t. WasPlaced c.push.new.self.entries t c.push.new.self.held.front c.push.new.self.held.places c.push.new.self.held.whole_from) (sym c.note-ended.ensures.taken) (subst (λ h. WasPlaced c.push.new.self.entries c.self.inside.desks.taken h.front h.places h.whole_from) (sym c.push.ensures.held) (kept_more c.self.inside.history.entries c.push.new.self.entries c.self.inside.desks.taken c.self.inside.history.held.front c.self.inside.history.held.places c.self.inside.history.held.whole_from c.args.entry c.push.ensures.entries was.kept));
    }

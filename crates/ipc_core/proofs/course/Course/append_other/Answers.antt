use Rattle.std.proofs.Common.{◌≡◌, ◌<◌, ◌++◌, ◌∷◌, [], ap, ◌∙◌, sym, subst, length, false, vec_len, vec_capacity, arith}
use Rattle.ipc_history.specs.Legal.{Follows}
use Rattle.ipc_compact.specs.Places.{WasPlaced}
use Rattle.ipc_core.specs.Finished.{IsFresh, with_name}
use Rattle.ipc_core.specs.Outcomes.{is_among}
use Rattle.ipc_core.proofs.CompactLemmas.{kept_more}
use Rattle.ipc_core.proofs.CourseLemmas.{course_more, each_some, first_place, second_place}
use Rattle.ipc_core.proofs.course.Course.append_other.Goals as goal

pub note-over-requires-clause-follows : goal.note-over-requires-clause-follows
note-over-requires-clause-follows c = subst (λ l. Follows l c.args.other) (sym (c.self.invariant.course.desks_of ∙ ap (λ v. v.entries) c.self.view_is)) c.requires.follows

pub note-requires-clause-follows : goal.note-requires-clause-follows
note-requires-clause-follows c = subst (λ l. Follows l c.args.other) (sym (c.self.invariant.partners_of ∙ ap (λ v. v.entries) c.self.view_is)) c.requires.follows

pub add-requires : goal.add-requires
add-requires c = each_some c.note-over.result.first (λ t. is_among t c.self.inside.finished.items ≡ false → vec_len c.self.inside.finished < vec_capacity c.self.inside.finished) (λ t is absent. (let few = first_place _ _ c.args.other _ _ _ _ _ c.self.invariant.course (rw (ap (λ h. h.entries) c.self.view_is) c.requires.follows) (λ i. c.self.inside.history.entries ++ c.args.other ∷ []) (subst (λ v. IsFresh v c.args.other) (sym c.self.view_is) c.requires.fresh) c.note-over.result.first c.note-over.result.second c.note-over.ensures.finished t is absent in omega (arith, few)))

pub add-requires-2 : goal.add-requires-2
add-requires-2 c = each_some c.note-over.result.second (λ t. is_among t c.add.new.names.items ≡ false → vec_len c.add.new.names < vec_capacity c.add.new.names) (λ t is absent. (
    let wide = c.add.ensures.capacity in
    let few = second_place _ _ c.args.other _ _ _ _ _ c.self.invariant.course (rw (ap (λ h. h.entries) c.self.view_is) c.requires.follows) (λ i. c.self.inside.history.entries ++ c.args.other ∷ []) (subst (λ v. IsFresh v c.args.other) (sym c.self.view_is) c.requires.fresh) c.note-over.result.first c.note-over.result.second c.note-over.ensures.finished t (vec_capacity c.add.new.names) (omega (arith, wide)) is (ap (is_among t) (sym c.add.ensures.items) ∙ absent) in
    omega (arith, few, ap length c.add.ensures.items)))

pub invariant_of-self : goal.invariant_of-self
invariant_of-self c =
    let wide = c.add.ensures.capacity in
    let wider = c.add-2.ensures.capacity in
    let was = c.self.invariant in
    record {
      course = course_more _ _ c.args.other _ _ _ _ _ was.course (rw (ap (λ h. h.entries) c.self.view_is) c.requires.follows) c.push.ensures.entries (subst (λ v. IsFresh v c.args.other) (sym c.self.view_is) c.requires.fresh) c.note-over.result.first c.note-over.result.second c.note-over.ensures.finished
          c.note-2.new.self c.note-over.new.self c.add-2.new.names.items (vec_capacity c.add-2.new.names) (c.note-2.ensures.past ∙ ap (λ w. w.slots.past ++ c.args.other ∷ []) c.deref_mut.ensures.value) c.note-2.ensures.waiting c.note-over.ensures.past
          (c.add-2.ensures.items ∙ ap (λ l. with_name l c.note-over.result.second) c.add.ensures.items)
          (omega (arith, wide, wider));
      front = (let front = was.front in omega (arith, front, ap (λ h. h.whole_from) c.push.ensures.held));
      partners_of = c.note.ensures ∙ ap (λ l. l ++ c.args.other ∷ []) was.partners_of ∙ sym c.push.ensures.entries;
      counted = was.counted ∙ sym (ap length c.note-over.ensures.taken);
      kept = subst (λ t. WasPlaced c.push.new.self.entries t c.push.new.self.held.front c.push.new.self.held.places c.push.new.self.held.whole_from) (sym c.note-over.ensures.taken) (subst (λ h. WasPlaced c.push.new.self.entries c.self.inside.desks.taken h.front h.places h.whole_from) (sym c.push.ensures.held) (kept_more c.self.inside.history.entries c.push.new.self.entries c.self.inside.desks.taken c.self.inside.history.held.front c.self.inside.history.held.places c.self.inside.history.held.whole_from c.args.other c.push.ensures.entries was.kept));
    }

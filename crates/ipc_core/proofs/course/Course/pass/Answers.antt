use Rattle.std.proofs.Common.{◌≡◌, ◌<◌, ◌++◌, ◌∷◌, [], refl, ap, ◌∙◌, sym, subst, length, false, is_some, vec_len, vec_capacity, arith}
use Rattle.ipc_history.specs.Legal.{Follows}
use Rattle.ipc_history.specs.declared.entry.Entry.TheVariants.{Written}
use Rattle.ipc_history.specs.declared.entry.Output.TheVariants.{Began, Ended}
use Rattle.ipc_compact.specs.Places.{WasPlaced}
use Rattle.ipc_threads.specs.Passing.{AreHeld}
use Rattle.ipc_waits.specs.Waiting.{IsWaiting}
use Rattle.ipc_core.specs.Finished.{with_name}
use Rattle.ipc_core.specs.Outcomes.{is_among}
use Rattle.ipc_core.proofs.CompactLemmas.{kept_more}
use Rattle.ipc_core.proofs.CourseLemmas.{each_some}
use Rattle.ipc_core.proofs.PassedCourse.{begins_at, both_follow, pass_course, pass_first_place, pass_places, pass_second_place, passed_is}
use Rattle.ipc_core.proofs.course.Course.pass.Goals as goal

pub passing_pair-requires-clause-waiting : goal.passing_pair-requires-clause-waiting
passing_pair-requires-clause-waiting c = subst IsWaiting (sym c.deref.ensures) c.self.invariant.course.waiting_is

pub passing_pair-requires-clause-begins : goal.passing_pair-requires-clause-begins
passing_pair-requires-clause-begins c =
    let begins = begins_at c.args.self.now.entries c.self.inside.history.entries c.args.output.now c.in-Began.sending c.in-Began.receiving (ap (λ v. v.entries) c.self.view_is) c.requires.next c.in-Began.is in
    subst (λ l. Follows l (Written (Began c.in-Began.sending c.in-Began.receiving))) (sym (ap (λ w. w.slots.past) c.deref.ensures ∙ c.self.invariant.course.waits_in)) begins

pub note_pass-over-requires-clause-desks : goal.note_pass-over-requires-clause-desks
note_pass-over-requires-clause-desks c = ap (λ w. w.slots.past) c.deref_mut.ensures.value ∙ (c.self.invariant.course.waits_in ∙ sym c.self.invariant.course.desks_of)

pub note_pass-over-requires-clause-partners : goal.note_pass-over-requires-clause-partners
note_pass-over-requires-clause-partners c = ap (λ w. w.slots.past) c.deref_mut.ensures.value ∙ (c.self.invariant.course.waits_in ∙ sym c.self.invariant.partners_of)

pub note_pass-over-requires-clause-began : goal.note_pass-over-requires-clause-began
note_pass-over-requires-clause-began c = let is = c.in-Some.ensures.pair in rw (is.sending_is, is.receiving_is) refl

pub note_pass-over-requires-clause-ended : goal.note_pass-over-requires-clause-ended
note_pass-over-requires-clause-ended c = let is = c.in-Some.ensures.pair in rw (is.sending_is, is.receiving_is) refl

pub note_pass-over-requires-clause-begins : goal.note_pass-over-requires-clause-begins
note_pass-over-requires-clause-begins c =
    let is = c.in-Some.ensures.pair in
    let both = both_follow c.args.self.now.entries c.self.inside.history.entries c.deref.result.now.slots.past c.args.output.now c.in-Began.sending c.in-Began.receiving (is_some c.passing_pair.result) (ap (λ v. v.entries) c.self.view_is) c.requires.next c.in-Began.is c.self.invariant.course.legal (ap (λ w. w.slots.past) c.deref.ensures ∙ c.self.invariant.course.waits_in) c.passing_pair.ensures.words (ap is_some c.in-Some.is) in
    rw (is.sending_is, is.receiving_is) (subst (λ l. Follows l (Written (Began c.in-Began.sending c.in-Began.receiving))) (sym (ap (λ w. w.slots.past) c.deref_mut.ensures.value ∙ c.self.invariant.course.waits_in)) both.0)

pub note_pass-over-requires-clause-ends : goal.note_pass-over-requires-clause-ends
note_pass-over-requires-clause-ends c =
    let is = c.in-Some.ensures.pair in
    let both = both_follow c.args.self.now.entries c.self.inside.history.entries c.deref.result.now.slots.past c.args.output.now c.in-Began.sending c.in-Began.receiving (is_some c.passing_pair.result) (ap (λ v. v.entries) c.self.view_is) c.requires.next c.in-Began.is c.self.invariant.course.legal (ap (λ w. w.slots.past) c.deref.ensures ∙ c.self.invariant.course.waits_in) c.passing_pair.ensures.words (ap is_some c.in-Some.is) in
    rw (is.sending_is, is.receiving_is) (subst (λ l. Follows (l ++ Written (Began c.in-Began.sending c.in-Began.receiving) ∷ []) (Written (Ended c.in-Began.sending c.in-Began.receiving))) (sym (ap (λ w. w.slots.past) c.deref_mut.ensures.value ∙ c.self.invariant.course.waits_in)) both.1)

pub note_pass-over-requires-clause-held : goal.note_pass-over-requires-clause-held
note_pass-over-requires-clause-held c = subst (λ w. AreHeld w.slots.kept.table c.in-Some.pair) (c.deref.ensures ∙ sym c.deref_mut.ensures.value) c.in-Some.ensures.pair.held

pub note_pass-over-requires-clause-waiting : goal.note_pass-over-requires-clause-waiting
note_pass-over-requires-clause-waiting c = subst IsWaiting (sym c.deref_mut.ensures.value) c.self.invariant.course.waiting_is

pub add-requires : goal.add-requires
add-requires c = each_some c.note_pass-over.result.first (λ t. is_among t c.self.inside.finished.items ≡ false → vec_len c.self.inside.finished < vec_capacity c.self.inside.finished) (λ t is absent. (
    let both = both_follow c.args.self.now.entries c.self.inside.history.entries c.deref.result.now.slots.past c.args.output.now c.in-Began.sending c.in-Began.receiving (is_some c.passing_pair.result) (ap (λ v. v.entries) c.self.view_is) c.requires.next c.in-Began.is c.self.invariant.course.legal (ap (λ w. w.slots.past) c.deref.ensures ∙ c.self.invariant.course.waits_in) c.passing_pair.ensures.words (ap is_some c.in-Some.is) in
    let few = pass_first_place c.self.inside.history.entries ((c.self.inside.history.entries ++ Written (Began c.in-Began.sending c.in-Began.receiving) ∷ []) ++ Written (Ended c.in-Began.sending c.in-Began.receiving) ∷ []) c.in-Began.sending c.in-Began.receiving c.self.inside.waiting.value c.self.inside.desks c.self.inside.since c.self.inside.finished.items (vec_capacity c.self.inside.finished) c.self.invariant.course both.0 both.1 refl c.note_pass-over.ensures.unfinished c.note_pass-over.result.first c.note_pass-over.result.second c.note_pass-over.ensures.finished t is absent in
    omega (arith, few)))

pub add-requires-2 : goal.add-requires-2
add-requires-2 c = each_some c.note_pass-over.result.second (λ t. is_among t c.add.new.names.items ≡ false → vec_len c.add.new.names < vec_capacity c.add.new.names) (λ t is absent. (
    let wide = c.add.ensures.capacity in
    let both = both_follow c.args.self.now.entries c.self.inside.history.entries c.deref.result.now.slots.past c.args.output.now c.in-Began.sending c.in-Began.receiving (is_some c.passing_pair.result) (ap (λ v. v.entries) c.self.view_is) c.requires.next c.in-Began.is c.self.invariant.course.legal (ap (λ w. w.slots.past) c.deref.ensures ∙ c.self.invariant.course.waits_in) c.passing_pair.ensures.words (ap is_some c.in-Some.is) in
    let few = pass_second_place c.self.inside.history.entries ((c.self.inside.history.entries ++ Written (Began c.in-Began.sending c.in-Began.receiving) ∷ []) ++ Written (Ended c.in-Began.sending c.in-Began.receiving) ∷ []) c.in-Began.sending c.in-Began.receiving c.self.inside.waiting.value c.self.inside.desks c.self.inside.since c.self.inside.finished.items (vec_capacity c.self.inside.finished) c.self.invariant.course both.0 both.1 refl c.note_pass-over.ensures.unfinished c.note_pass-over.result.first c.note_pass-over.result.second c.note_pass-over.ensures.finished t (vec_capacity c.add.new.names) (omega (arith, wide)) is (ap (is_among t) (sym c.add.ensures.items) ∙ absent) in
    omega (arith, few, ap length c.add.ensures.items)))

pub push-requires : goal.push-requires
push-requires c =
    let both = both_follow c.args.self.now.entries c.self.inside.history.entries c.deref.result.now.slots.past c.args.output.now c.in-Began.sending c.in-Began.receiving (is_some c.passing_pair.result) (ap (λ v. v.entries) c.self.view_is) c.requires.next c.in-Began.is c.self.invariant.course.legal (ap (λ w. w.slots.past) c.deref.ensures ∙ c.self.invariant.course.waits_in) c.passing_pair.ensures.words (ap is_some c.in-Some.is) in
    let places = pass_places c.args.self.now.entries c.self.inside.history.entries c.in-Began.sending c.in-Began.receiving c.args.self.now.room (ap (λ v. v.entries) c.self.view_is) c.self.invariant.course.legal both.0 both.1 c.requires.room in
    rw (ap (λ v. v.room) c.self.view_is) places.0

pub push-requires-2 : goal.push-requires-2
push-requires-2 c =
    let both = both_follow c.args.self.now.entries c.self.inside.history.entries c.deref.result.now.slots.past c.args.output.now c.in-Began.sending c.in-Began.receiving (is_some c.passing_pair.result) (ap (λ v. v.entries) c.self.view_is) c.requires.next c.in-Began.is c.self.invariant.course.legal (ap (λ w. w.slots.past) c.deref.ensures ∙ c.self.invariant.course.waits_in) c.passing_pair.ensures.words (ap is_some c.in-Some.is) in
    let places = pass_places c.args.self.now.entries c.self.inside.history.entries c.in-Began.sending c.in-Began.receiving c.args.self.now.room (ap (λ v. v.entries) c.self.view_is) c.self.invariant.course.legal both.0 both.1 c.requires.room in
    rw (c.push.ensures.entries, c.push.ensures.room, ap (λ v. v.room) c.self.view_is) places.1

pub invariant_of-self : goal.invariant_of-self
invariant_of-self c =
    let wide = c.add.ensures.capacity in
    let wider = c.add-2.ensures.capacity in
    let was = c.self.invariant in
    let both = both_follow c.args.self.now.entries c.self.inside.history.entries c.deref.result.now.slots.past c.args.output.now c.in-Began.sending c.in-Began.receiving (is_some c.passing_pair.result) (ap (λ v. v.entries) c.self.view_is) c.requires.next c.in-Began.is c.self.invariant.course.legal (ap (λ w. w.slots.past) c.deref.ensures ∙ c.self.invariant.course.waits_in) c.passing_pair.ensures.words (ap is_some c.in-Some.is) in
    let longer = c.push-2.ensures.entries ∙ ap (λ l. l ++ Written (Ended c.in-Began.sending c.in-Began.receiving) ∷ []) c.push.ensures.entries in
    record {
      course = pass_course c.self.inside.history.entries c.push-2.new.self.entries c.in-Began.sending c.in-Began.receiving c.self.inside.waiting.value c.self.inside.desks c.self.inside.since c.self.inside.finished.items (vec_capacity c.self.inside.finished) was.course both.0 both.1 longer c.note_pass-over.ensures.unfinished c.note_pass-over.result.first c.note_pass-over.result.second c.note_pass-over.ensures.finished
          c.note_pass-over.new.waiting c.note_pass-over.new.desks c.add-2.new.names.items (vec_capacity c.add-2.new.names) (c.note_pass-over.ensures.waits ∙ ap (λ w. (w.slots.past ++ Written (Began c.in-Began.sending c.in-Began.receiving) ∷ []) ++ Written (Ended c.in-Began.sending c.in-Began.receiving) ∷ []) c.deref_mut.ensures.value) c.note_pass-over.ensures.waiting c.note_pass-over.ensures.desks
          (c.add-2.ensures.items ∙ ap (λ l. with_name l c.note_pass-over.result.second) c.add.ensures.items)
          (omega (arith, wide, wider));
      front = (let front = was.front in omega (arith, front, ap (λ h. h.whole_from) c.push.ensures.held, ap (λ h. h.whole_from) c.push-2.ensures.held));
      partners_of = c.note_pass-over.ensures.partners ∙ ap (λ l. (l ++ Written (Began c.in-Began.sending c.in-Began.receiving) ∷ []) ++ Written (Ended c.in-Began.sending c.in-Began.receiving) ∷ []) was.partners_of ∙ sym longer;
      counted = was.counted ∙ sym (ap length c.note_pass-over.ensures.taken);
      kept = subst (λ t. WasPlaced c.push-2.new.self.entries t c.push-2.new.self.held.front c.push-2.new.self.held.places c.push-2.new.self.held.whole_from) (sym c.note_pass-over.ensures.taken) (subst (λ h. WasPlaced c.push-2.new.self.entries c.self.inside.desks.taken h.front h.places h.whole_from) (sym (c.push-2.ensures.held ∙ c.push.ensures.held)) (kept_more c.push.new.self.entries c.push-2.new.self.entries c.self.inside.desks.taken c.self.inside.history.held.front c.self.inside.history.held.places c.self.inside.history.held.whole_from (Written (Ended c.in-Began.sending c.in-Began.receiving)) c.push-2.ensures.entries (kept_more c.self.inside.history.entries c.push.new.self.entries c.self.inside.desks.taken c.self.inside.history.held.front c.self.inside.history.held.places c.self.inside.history.held.whole_from (Written (Began c.in-Began.sending c.in-Began.receiving)) c.push.ensures.entries was.kept)));
    }

pub returns-clause-passed : goal.returns-clause-passed
returns-clause-passed c = λ yes.
    let both = both_follow c.args.self.now.entries c.self.inside.history.entries c.deref.result.now.slots.past c.args.output.now c.in-Began.sending c.in-Began.receiving (is_some c.passing_pair.result) (ap (λ v. v.entries) c.self.view_is) c.requires.next c.in-Began.is c.self.invariant.course.legal (ap (λ w. w.slots.past) c.deref.ensures ∙ c.self.invariant.course.waits_in) c.passing_pair.ensures.words (ap is_some c.in-Some.is) in
    passed_is c.args.self.now.entries c.self.inside.history.entries c.push-2.new.self.entries c.args.output.now c.in-Began.sending c.in-Began.receiving (ap (λ v. v.entries) c.self.view_is) c.in-Began.is both.1 (c.push-2.ensures.entries ∙ ap (λ l. l ++ Written (Ended c.in-Began.sending c.in-Began.receiving) ∷ []) c.push.ensures.entries)

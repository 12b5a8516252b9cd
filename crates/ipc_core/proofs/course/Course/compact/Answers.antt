use Rattle.std.proofs.Common.{◌≡◌, ◌≤◌, ◌+◌, ◌∙◌, refl, sym, ap, subst, length, vec_capacity, arith}
use Rattle.ipc_history.specs.Holding.{held_of, reached}
use Rattle.ipc_history.specs.declared.entry.Entry.{Entry}
use Rattle.ipc_history.proofs.HoldingLemmas.{reached_most}
use Rattle.ipc_compact.specs.Compact.{is_kept}
use Rattle.ipc_compact.specs.Places.{WasPlaced}
use Rattle.ipc_compact.specs.Kept.{passes}
use Rattle.ipc_core.specs.Books.{TookOthers}
use Rattle.ipc_core.specs.Compacting.{kept_to}
use Rattle.ipc_core.specs.CourseParts.{history_of}
use Rattle.ipc_core.specs.Invariants.{IsCourse}
use Rattle.ipc_core.proofs.CompactLemmas.{held_few, kept_now, kept_of_all, open_kept, passes_is}
use Rattle.ipc_core.proofs.course.Course.compact.Goals as goal

-- what was found passes what is kept
same : (c : goal.After-compact) (e : Entry) → passes c.fill.new.self e ≡ is_kept c.self.inside.history.entries c.self.inside.desks.taken e
same c e = passes_is _ _ _ c.kept.result.now c.self.invariant.course.desks_of c.self.invariant.course.legal c.kept.ensures.keeps (subst (λ v. TookOthers v.entries v.taken) (sym c.self.view_is) c.requires.others) c.fill.new.self c.fill.ensures e

short : (c : goal.After-compact) → c.self.inside.history.held.whole_from ≤ length c.self.inside.history.entries
short c = let front = c.self.invariant.front in let begun = c.self.invariant.course.begun in omega (arith, front, begun)

held : (c : goal.After-compact) → c.compact.new.self.held ≡ kept_to c.self.inside.desks.taken c.args.upto c.self.inside.history
held c = c.compact.ensures.held ∙ kept_of_all c.self.inside.desks.taken (passes c.fill.new.self) c.args.upto c.self.inside.history c.self.invariant.course.legal (same c) c.self.invariant.kept (short c)

pub compact-requires-clause-called : goal.compact-requires-clause-called
compact-requires-clause-called c = λ n e opened inside is.
    passes_is _ _ _ c.kept.result.now c.self.invariant.course.desks_of c.self.invariant.course.legal c.kept.ensures.keeps (subst (λ v. TookOthers v.entries v.taken) (sym c.self.view_is) c.requires.others) c.fill.new.self c.fill.ensures e
    ∙ open_kept c.self.inside.history.entries c.self.inside.desks.taken c.self.invariant.course.legal n e opened is

pub invariant_of-self : goal.invariant_of-self
invariant_of-self c =
    let H = c.self.inside.history.entries in
    let most = reached_most c.self.inside.history c.args.upto (short c) in
    let begun = c.requires.begun in
    record {
      course = subst (λ l. IsCourse l c.self.inside.waiting.value c.self.inside.desks c.self.inside.since c.self.inside.finished.items (vec_capacity c.self.inside.finished)) (sym c.compact.ensures.entries) c.self.invariant.course;
      front = omega (arith, most, begun, ap (λ h. h.whole_from) (held c), ap (λ v. length v.entries) c.self.view_is, ap (λ v. v.since) c.self.view_is);
      partners_of = c.self.invariant.partners_of ∙ sym c.compact.ensures.entries;
      counted = c.self.invariant.counted;
      kept = subst (λ l. WasPlaced l c.self.inside.desks.taken c.compact.new.self.held.front c.compact.new.self.held.places c.compact.new.self.held.whole_from) (sym c.compact.ensures.entries)
          (subst (λ h. WasPlaced H c.self.inside.desks.taken h.front h.places h.whole_from) (sym (held c)) (kept_now H c.self.inside.desks.taken _ _ (reached c.args.upto c.self.inside.history) most refl refl));
    }

pub returns-clause-held : goal.returns-clause-held
returns-clause-held c = subst (λ v. c.compact.new.self.held ≡ kept_to v.taken c.args.upto (history_of v)) c.self.view_is (held c)

pub returns-clause-less : goal.returns-clause-less
returns-clause-less c =
    let few = held_few (passes c.fill.new.self) c.args.upto c.self.inside.history c.compact.new.self.held c.compact.new.self.room c.compact.ensures.held (short c) in
    subst (λ v. length (held_of c.compact.new.self) ≤ length (held_of (history_of v))) c.self.view_is (subst (λ l. length (held_of (record { entries = l; held = c.compact.new.self.held; room = c.compact.new.self.room })) ≤ length (held_of c.self.inside.history)) (sym c.compact.ensures.entries) few)

pub returns-clause-room : goal.returns-clause-room
returns-clause-room c = subst (λ v. c.compact.new.self.room + length (held_of c.compact.new.self) ≡ v.room + length (held_of (history_of v))) c.self.view_is c.compact.ensures.room

-- A writer has the pen of its own connection, and gives it back.
use Rattle.std.proofs.Common.{◌≡◌, ◌⊎◌, ℕ, inl, inr, List, [], Option, Some, None, Bool, true, false, MatchBool, refl, subst, sym}
use Rattle.std.specs.Prelude.{slice_get, slice_set, ⊤}
use Rattle.ipc_core.specs.KernelParts.{KernelParts}
use Rattle.ipc_seats.specs.Boxes.{Begins, BoxParts, EndsWork, Loads, Works, WritesOn, has_failed, is_idle, is_of}
use Rattle.ipc_seats.specs.Gifts.{gifts, work_gifts}
use Rattle.ipc_seats.specs.Places.{StaysAll, TakesBack, WorksFor}
use Rattle.ipc_seats.specs.declared.errands.Errands.{Errands}
use Rattle.ipc_seats.specs.declared.events.Event.TheVariants as event
use Rattle.ipc_seats.specs.declared.events.Gift.{Gift}
use Rattle.ipc_seats.specs.declared.post_box.Work.{Work}
use Rattle.ipc_seats.specs.declared.post_box.Work.TheVariants as work
use Rattle.ipc_lock.specs.Above.{EndsWorkSome, LaysSome, TakesOutSome}
use Rattle.ipc_lock.specs.InsideParts.{LoggedParts}
use Rattle.ipc_lock.specs.Rounds.{Carries}
use Rattle.ipc_lock.specs.Turns.{Turned}
use Rattle.ipc_connection.specs.Pens.{Page}

-- a writer goes on
abbrev GoesOn : {C P : Type 0} → Option (Work C P) → Type 0
GoesOn (Some work.Over) = ⊥
GoesOn next = ⊤

abbrev IsOver : {C P : Type 0} → Option (Work C P) → Type 0
IsOver next = next ≡ Some work.Over

-- what a writer that goes on has from a box
comes_out : (C P : Type 0) (old new : KernelParts) (box left : BoxParts) (pen : Page) → Works {C = C} {P = P} old new box left (Some (work.Write pen))
    → Loads old new box left pen ⊎ ((box.pen ≡ Some pen) × (left ≡ record box { pen = None }))
comes_out C P old new box left pen h = by_failed (has_failed box.pen) h
  where
    by_idle : (b : Bool) → MatchBool b (Begins {C = C} {P = P} old new box left (Some (work.Write pen))) ((new ≡ old) × WritesOn {C = C} {P = P} box left (Some (work.Write pen)))
        → Loads old new box left pen ⊎ ((box.pen ≡ Some pen) × (left ≡ record box { pen = None }))
    by_idle true h = inl h
    by_idle false h = inr h.1

    by_failed : (b : Bool) → MatchBool b ((new ≡ old) × EndsWork {C = C} {P = P} box left (Some (work.Write pen)))
        (MatchBool (is_idle box.pen) (Begins {C = C} {P = P} old new box left (Some (work.Write pen))) ((new ≡ old) × WritesOn {C = C} {P = P} box left (Some (work.Write pen))))
        → Loads old new box left pen ⊎ ((box.pen ≡ Some pen) × (left ≡ record box { pen = None }))
    by_failed true h = absurd (subst (λ (next : Option (Work C P)). GoesOn next) h.1.0 tt)
    by_failed false h = by_idle (is_idle box.pen) h

pub takes_out : (C P : Type 0) (before after : LoggedParts) (place number : ℕ) (pen : Page)
    → Turned C P before after (event.Worked place number (work_gifts {C = C} {P = P} (slice_get before.inside.boxes place) (Some (work.Write pen))))
    → WorksFor {C = C} {P = P} before.inside.kernel after.inside.kernel before.inside.boxes after.inside.boxes place number (slice_get before.inside.boxes place)
    (Some (work.Write pen)) → TakesOutSome C P place number pen
takes_out C P before after place number pen turned works = go (slice_get before.inside.boxes place) refl works
  where
    by_number : (box : BoxParts) → slice_get before.inside.boxes place ≡ Some box → (b : Bool) → is_of number box.number ≡ b
        → MatchBool b ((left : BoxParts) × Works {C = C} {P = P} before.inside.kernel after.inside.kernel box left (Some (work.Write pen))
        × (after.inside.boxes ≡ slice_set before.inside.boxes place left))
        (StaysAll before.inside.kernel after.inside.kernel before.inside.boxes after.inside.boxes × IsOver {C = C} {P = P} (Some (work.Write pen)))
        → TakesOutSome C P place number pen
    by_number box is false its h = absurd (subst (λ (n : Option (Work C P)). GoesOn n) h.1 tt)
    by_number box is true its h = record {
      before = before;
      after = after;
      box = box;
      left = h.0;
      turned = turned;
      there = is;
      is_its = its;
      comes = comes_out C P before.inside.kernel after.inside.kernel box h.0 pen h.1;
    }

    go : (o : Option BoxParts) → slice_get before.inside.boxes place ≡ o
        → WorksFor {C = C} {P = P} before.inside.kernel after.inside.kernel before.inside.boxes after.inside.boxes place number o (Some (work.Write pen))
        → TakesOutSome C P place number pen
    go None is h = absurd (subst (λ (n : Option (Work C P)). GoesOn n) h.1 tt)
    go (Some box) is h = by_number box is (is_of number box.number) refl h

-- a writer that ends is given nothing
gives_none : {C P : Type 0} (box : Option BoxParts) (next : Option (Work C P)) → next ≡ Some work.Over → work_gifts box next ≡ []
gives_none {C} {P} box next is = subst (λ (n : Option (Work C P)). work_gifts box n ≡ []) (sym is) (go box)
  where
    go : (box : Option BoxParts) → work_gifts {C = C} {P = P} box (Some work.Over) ≡ []
    go None = refl
    go (Some box) = refl

pub ends_work : (C T P : Type 0) (before after : LoggedParts) (place number : ℕ) (next : Option (Work C P))
    → Turned C P before after (event.Worked place number (work_gifts (slice_get before.inside.boxes place) next))
    → WorksFor {C = C} {P = P} before.inside.kernel after.inside.kernel before.inside.boxes after.inside.boxes place number (slice_get before.inside.boxes place) next
    → next ≡ Some work.Over → EndsWorkSome C T P place number
ends_work C T P before after place number next turned works is = record {
  before = before;
  after = after;
  turned = subst (λ (gave : List Gift). Turned C P before after (event.Worked place number gave)) (gives_none (slice_get before.inside.boxes place) next is) turned;
  over = subst (λ (n : Option (Work C P)). WorksFor {C = C} {P = P} before.inside.kernel after.inside.kernel before.inside.boxes after.inside.boxes place number
      (slice_get before.inside.boxes place) n) is works;
}

pub lays_some : (C P : Type 0) (before after : LoggedParts) (errands again left : Errands C P) (pen : Page)
    → Turned C P before after (event.Laid (gifts again))
    → TakesBack before.inside.kernel after.inside.kernel before.inside.boxes after.inside.boxes errands again
    → errands.first ≡ Some pen → errands.second ≡ None → errands.third ≡ None → Carries again left → LaysSome C P pen
lays_some C P before after errands again left pen turned lays first second third carries = record {
  before = before;
  after = after;
  errands = errands;
  again = again;
  left = left;
  first = first;
  second = second;
  third = third;
  turned = turned;
  lays = lays;
  carries = carries;
}

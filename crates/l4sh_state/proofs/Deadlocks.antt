-- A circle of waits is among the courses.
use Rattle.std.proofs.Common.{◌≡◌, ◌≢◌, refl, sym, ap, subst, ◌∙◌, ℕ, zero, suc, ◌+◌, ◌-◌, ◌<◌, ◌≤◌, List, ◌++◌, length, get_or, slice_index_or, Option, Some, None, arith, below_more, codes}
use Rattle.std.specs.Prelude.{option_and_then}
use Rattle.std.proofs.Math.ListN.{set}
use Rattle.std.proofs.lemmas.List.{append_assoc, ext_get_or, get_or-set_same, get_or-set_other}
use Rattle.ipc_words.specs.Limits.{table_slots}
use Rattle.ipc_threads.specs.declared.slot.Live.{Live}
use Rattle.l4sh_state.specs.declared.courses.Course.{Course}
use Rattle.l4sh_state.specs.declared.courses.Course.TheVariants.{Ends, Returns, Enters}
use Rattle.l4sh_state.specs.Waits.{awaited_at, follow, places, ComesBack, GoesRound, IsCourse, HasCircle, HasCourses}
use Rattle.l4sh_state.specs.States.{TellsDeadlock}
use Rattle.l4sh_state.specs.WaitsFor.{HasDeadlock, HasWaits}

-- what holds of each place before one and of that one
pub set_holds : {X : Type 0} (P : ℕ → X → Type 0) (xs : List X) (place : ℕ) (x d : X) → place < length xs
    → ((k : ℕ) → k < place → P k (get_or xs k d)) → P place x → (k : ℕ) → k < place + 1 → P k (get_or (set xs place x) k d)
set_holds P xs place x d within before is =
    below_more (λ k. P k (get_or (set xs place x) k d)) place
    (λ k below. let other : k ≢ place = omega arith in subst (P k) (sym (get_or-set_other xs place k x d other)) (before k below))
    (subst (P place) (sym (get_or-set_same xs place x d within)) is)

-- a walk that is back goes the same way again
again : (waits : List (Option ℕ)) (k n : ℕ) → follow waits k n ≡ Some k → (m : ℕ) → follow waits k (m + n) ≡ follow waits k m
unfolding follow
again waits k n back zero = let e : 0 + n ≡ n = omega arith in rw e back
again waits k n back (suc m) =
    let e : suc m + n ≡ suc (m + n) = omega arith in
    rw e (ap (option_and_then (awaited_at waits)) (again waits k n back m))

back_later : (waits : List (Option ℕ)) (k n : ℕ) → 0 < n → follow waits k n ≡ Some k → (m : ℕ) → (t : ℕ) × (m ≤ t) × (follow waits k t ≡ Some k)
unfolding follow
back_later waits k n some back zero = (0, omega arith, refl)
back_later waits k n some back (suc m) =
    let r = back_later waits k n some back m in
    (r.0 + n, omega (arith, some, r.1), again waits k n back r.0 ∙ r.2)

-- and one that has ended stays so
ended : (waits : List (Option ℕ)) (k m : ℕ) → follow waits k m ≡ None → (j : ℕ) → follow waits k (j + m) ≡ None
unfolding follow
ended waits k m none zero = let e : 0 + m ≡ m = omega arith in rw e none
ended waits k m none (suc j) =
    let e : suc j + m ≡ suc (j + m) = omega arith in
    rw e (ap (option_and_then (awaited_at waits)) (ended waits k m none j))

not_both : (waits : List (Option ℕ)) (k n m : ℕ) → ComesBack waits k n → follow waits k m ≡ None → ⊥
not_both waits k n m circle none =
    let r = back_later waits k n circle.some circle.back m in
    let e : (r.0 - m) + m ≡ r.0 = omega (arith, r.1) in
    let last : follow waits k r.0 ≡ None = subst (λ t. follow waits k t ≡ None) e (ended waits k m none (r.0 - m)) in
    let here = r.2 in
    absurd (cc)

-- so the course of a place in a circle comes back
pub circle_of : (threads : List (Option Live)) (waits : List (Option ℕ)) (courses : List Course) → length waits ≡ table_slots
    → HasWaits threads waits → HasCourses waits courses → HasDeadlock threads → HasCircle courses
circle_of threads waits courses size are each d =
    let same : d.waits ≡ waits = ext_get_or None d.waits waits (d.size ∙ sym size) (λ i below. let within : i < table_slots = omega (arith, below, d.size) in d.are i within ∙ sym (are i within)) in
    let circle : ComesBack waits d.place d.steps = subst (λ w. ComesBack w d.place d.steps) same d.circle in
    by_course (slice_index_or courses d.place Ends) refl (each d.place d.within) circle
  where
    by_course : (course : Course) → slice_index_or courses d.place Ends ≡ course → IsCourse waits d.place course → ComesBack waits d.place d.steps → HasCircle courses
    by_course Ends e h circle = absurd (not_both waits d.place d.steps h.0 circle h.1)
    by_course (Returns n) e h circle = record { place = d.place; within = d.within; steps = n; is = e }
    by_course Enters e h circle = absurd (h.never_back d.steps circle.some circle.back)

-- it stands in a text where it stands in front of a part
pub deadlock_stands : (before between whole circles rest stuck part : List ℕ) → between ≡ before ++ part → part ≡ circles
    → circles ≡ codes "deadlock: " ++ rest → whole ≡ between ++ stuck → TellsDeadlock whole
deadlock_stands before between whole circles rest stuck part e1 e2 e3 e4 =
    (before, rest ++ stuck, e4 ∙ (ap (λ (xs : List ℕ). xs ++ stuck) (e1 ∙ ap (λ (xs : List ℕ). before ++ xs) (e2 ∙ e3)) ∙ (append_assoc before (codes "deadlock: " ++ rest) stuck ∙ ap (λ (xs : List ℕ). before ++ xs) (append_assoc (codes "deadlock: ") rest stuck))))

-- When a call was over: the moment of the first entries after which it is.
use Rattle.std.proofs.lemmas.Bool.{cases_Bool, false≢true, false_from_ne_true}
use Rattle.std.proofs.lemmas.Option.{none-some, same_Some}
use Rattle.std.proofs.Common.{◌≡◌, refl, sym, ap, ap₂, ◌∙◌, subst, ℕ, Bool, true, false, not, ◌||◌, ◌&&◌, ◌==◌, if◌then◌else◌, List, [], ◌∷◌, ◌++◌, append-nil, append_assoc, Some, None, inl, inr, arith}
use Rattle.std.specs.List.{list_any}
use Rattle.std.specs.Option.{option_or}
use Rattle.std.specs.Prelude.{unwrap_or}
use Rattle.ipc_words.specs.ThreadId.{nilthread}
use Rattle.ipc_history.specs.Words.{before, first_some, last_some}
use Rattle.ipc_history.specs.Entries.{calls, closes, ends_send, moment_in, names}
use Rattle.ipc_history.specs.Calls.{is_called, caller_of, to_of, from_of}
use Rattle.ipc_history.specs.Threads.{has_broken, now}
use Rattle.ipc_history.specs.Phases.{is_over, is_sent}
use Rattle.ipc_history.specs.Legal.{Legal}
use Rattle.ipc_history.specs.Outcomes.{OutcomeParts, end_moment, is_last_of, nothing, outcome_in, outcome_of, timed}
use Rattle.ipc_history.specs.declared.entry.Entry.{Entry}
use Rattle.ipc_history.specs.declared.entry.Entry.TheVariants.{Given, Written}
use Rattle.ipc_history.specs.declared.entry.Input.TheVariants.{Called}
use Rattle.ipc_history.specs.declared.entry.Output.TheVariants.{Ended, Overflowed, Aborted, Failed}
use Rattle.ipc_laws.specs.Laws.{IsTimed}
use Rattle.ipc_laws.proofs.Befores.{before_kept, called_any}
use Rattle.ipc_laws.proofs.Changing.{any_push}
use Rattle.ipc_laws.proofs.Growth.{caller_of_kept, from_of_kept, has_broken_append, is_called_kept, open_is_called, open_lives, to_of_kept}
use Rattle.ipc_laws.proofs.Histories.{follows_at, named_open}
use Rattle.ipc_laws.proofs.Numbering.{calls_called}
use Rattle.ipc_laws.proofs.Places.{Place, any_at, any_place}
use Rattle.ipc_laws.proofs.Tests.{neither_left, not_both}
use Rattle.ipc_laws.proofs.WordLemmas.{last_some_push}

-- The last entry of a call

any_last : (to from n : ℕ) (P : List Entry) → list_any (is_last_of to from n) P ≡ (list_any (closes n) P || ((from == nilthread) && (list_any (ends_send n) P || ((to == nilthread) && list_any (calls n) P))))
any_last to from n [] = none (from == nilthread) (to == nilthread)
  where
    none : (f t : Bool) → false ≡ (false || (f && (false || (t && false))))
    none f t = grind arith
any_last to from n (e ∷ P) = rw (any_last to from n P) (join (closes n e) (ends_send n e) (calls n e) (list_any (closes n) P) (list_any (ends_send n) P) (list_any (calls n) P) (from == nilthread) (to == nilthread))
  where
    join : (a b c d x y f t : Bool) → ((a || (f && (b || (t && c)))) || (d || (f && (x || (t && y))))) ≡ ((a || d) || (f && ((b || x) || (t && (c || y)))))
    join a b c d x y f t = grind arith

-- it stands where the call is over, while its caller lives
pub last_stands : (P : List Entry) (n : ℕ) → is_called P n ≡ true → has_broken P (caller_of P n) ≡ false → list_any (is_last_of (to_of P n) (from_of P n) n) P ≡ is_over P n
unfolding is_over is_sent
last_stands P n c alive = any_last (to_of P n) (from_of P n) n P ∙ rw (alive, called_any P n c) (drop (list_any (closes n) P) (from_of P n == nilthread) (list_any (ends_send n) P) (to_of P n == nilthread))
  where
    drop : (a f s t : Bool) → (a || (f && (s || (t && true)))) ≡ (a || false || (f && (s || t)))
    drop a f s t = grind arith

pub last_named : (to from n : ℕ) (e : Entry) → is_last_of to from n e ≡ true → (names n e ≡ true) × (moment_in e ≡ None)
last_named to from n (Given (Called k thread call)) h = (only (from == nilthread) (to == nilthread) (k == n) h, refl)
  where
    only : (f t c : Bool) → (false || (f && (false || (t && c)))) ≡ true → c ≡ true
    only f t c h = grind arith
last_named to from n (Written (Ended k m)) h = (either (m == n) (k == n) (from == nilthread) (to == nilthread) h, refl)
  where
    either : (a b f t : Bool) → (a || (f && (b || (t && false)))) ≡ true → (b || a) ≡ true
    either a b f t h = grind arith
last_named to from n (Written (Failed k code)) h = (first (k == n) (from == nilthread) (to == nilthread) h, refl)
  where
    first : (a f t : Bool) → (a || (f && (false || (t && false)))) ≡ true → a ≡ true
    first a f t h = grind arith
last_named to from n (Written (Overflowed k m offset)) h = (first ((k == n) || (m == n)) (from == nilthread) (to == nilthread) h, refl)
  where
    first : (a f t : Bool) → (a || (f && (false || (t && false)))) ≡ true → a ≡ true
    first a f t h = grind arith
last_named to from n (Written (Aborted k m count)) h = (first ((k == n) || (m == n)) (from == nilthread) (to == nilthread) h, refl)
  where
    first : (a f t : Bool) → (a || (f && (false || (t && false)))) ≡ true → a ≡ true
    first a f t h = grind arith
last_named to from n _ h = absurd (false≢true (none (from == nilthread) (to == nilthread) ∙ h))
  where
    none : (f t : Bool) → false ≡ (false || (f && (false || (t && false))))
    none f t = grind arith

-- What stands before it

before_on : {X : Type 0} (test : X → Bool) (xs ys : List X) → list_any test xs ≡ false → before test (xs ++ ys) ≡ xs ++ before test ys
before_on test [] ys h = refl
before_on test (x ∷ xs) ys h = go (test x) refl (before_on test xs ys)
  where
    go : (b : Bool) → test x ≡ b → (list_any test xs ≡ false → before test (xs ++ ys) ≡ xs ++ before test ys) → (if b then [] else x ∷ before test (xs ++ ys)) ≡ x ∷ (xs ++ before test ys)
    go true is later = not_both is (neither_left (test x) (list_any test xs) h)
    go false is later = ap (λ l. x ∷ l) (later (rw is at h))

-- a list that first passes with its last element
first_at_end : (test : Entry → Bool) (P : List Entry) (e : Entry) → list_any test P ≡ false → list_any test (P ++ e ∷ []) ≡ true → before test (P ++ e ∷ []) ≡ P
first_at_end test P e none some = before_on test P (e ∷ []) none ∙ (ap (λ l. P ++ l) (go (test e) (second _ _ none (sym (any_push test P e) ∙ some))) ∙ append-nil P)
  where
    second : (a b : Bool) → a ≡ false → (a || b) ≡ true → b ≡ true
    second a b n h = grind arith

    go : (b : Bool) → b ≡ true → (if b then [] else e ∷ []) ≡ []
    go true h = refl
    go false h = absurd (false≢true h)

-- The moment

-- what more entries leave as it is
pub end_moment_kept : (P Q : List Entry) (n : ℕ) → is_called P n ≡ true → is_over P n ≡ true → has_broken P (caller_of P n) ≡ false → end_moment (P ++ Q) n ≡ end_moment P n
unfolding end_moment
end_moment_kept P Q n c over alive = rw (to_of_kept P Q n c, from_of_kept P Q n c) (ap now (before_kept (is_last_of (to_of P n) (from_of P n) n) P Q (last_stands P n c alive ∙ over)))

-- of a call that an entry ends
pub end_moment_new : (P : List Entry) (e : Entry) (n : ℕ) → is_over P n ≡ false → has_broken (P ++ e ∷ []) (caller_of (P ++ e ∷ []) n) ≡ false → is_over (P ++ e ∷ []) n ≡ true → end_moment (P ++ e ∷ []) n ≡ now P
unfolding end_moment
end_moment_new P e n waits alive over =
    let c = open_is_called P n waits in
    let none : list_any (is_last_of (to_of (P ++ e ∷ []) n) (from_of (P ++ e ∷ []) n) n) P ≡ false = rw (to_of_kept P (e ∷ []) n c, from_of_kept P (e ∷ []) n c) (last_stands P n c (open_lives P n waits) ∙ waits) in
    ap now (first_at_end (is_last_of (to_of (P ++ e ∷ []) n) (from_of (P ++ e ∷ []) n) n) P e none (last_stands (P ++ e ∷ []) n (is_called_kept P (e ∷ []) n c) alive ∙ over))

-- of a call that is over with the entry that is the first to name it
pub end_moment_at_once : (P : List Entry) (e : Entry) (n : ℕ) → list_any (names n) P ≡ false → is_called (P ++ e ∷ []) n ≡ true → has_broken (P ++ e ∷ []) (caller_of (P ++ e ∷ []) n) ≡ false → is_over (P ++ e ∷ []) n ≡ true → end_moment (P ++ e ∷ []) n ≡ now P
unfolding end_moment
end_moment_at_once P e n unnamed c alive over =
    ap now (first_at_end (is_last_of (to_of (P ++ e ∷ []) n) (from_of (P ++ e ∷ []) n) n) P e none (last_stands (P ++ e ∷ []) n c alive ∙ over))
  where
    none : list_any (is_last_of (to_of (P ++ e ∷ []) n) (from_of (P ++ e ∷ []) n) n) P ≡ false
    none = false_from_ne_true _ (λ some. let p = any_place (is_last_of (to_of (P ++ e ∷ []) n) (from_of (P ++ e ∷ []) n) n) P some in not_both (any_at (names n) P p.0 p.1 (last_named _ _ n p.0 p.2).0) unnamed)

-- The moment of an outcome

-- the first element that passes, and what stands before it
record First (test : Entry → Bool) (H : List Entry) : Type 0 where
  entry : Entry
  rest : List Entry
  whole : H ≡ before test H ++ entry ∷ rest
  passes : test entry ≡ true
  none : list_any test (before test H) ≡ false

first_of : (test : Entry → Bool) (H : List Entry) → list_any test H ≡ true → First test H
first_of test [] h = absurd (false≢true h)
first_of test (e ∷ H) h = go (test e) refl (first_of test H)
  where
    here : test e ≡ true → First test (e ∷ H)
    here is = record { entry = e; rest = H; whole = rw is refl; passes = is; none = rw is refl }

    later : test e ≡ false → First test H → First test (e ∷ H)
    later is f = record { entry = f.entry; rest = f.rest; whole = rw is (ap (λ l. e ∷ l) f.whole); passes = f.passes; none = rw is (rw is f.none) }

    go : (b : Bool) → test e ≡ b → (list_any test H ≡ true → First test H) → First test (e ∷ H)
    go true is again = here is
    go false is again = later is (again (rw is at h))

module _ (H : List Entry) (legal : Legal H) (n : ℕ) (c : is_called H n ≡ true) (over : is_over H n ≡ true) (alive : has_broken H (caller_of H n) ≡ false) where
  abbrev test : Entry → Bool
  test = is_last_of (to_of H n) (from_of H n) n

  found : First (is_last_of (to_of H n) (from_of H n) n) H
  found = first_of (is_last_of (to_of H n) (from_of H n) n) H (last_stands H n c alive ∙ over)

  abbrev front : List Entry
  front = before (is_last_of (to_of H n) (from_of H n) n) H

  abbrev upto : List Entry
  upto = front ++ found.entry ∷ []

  whole : H ≡ upto ++ found.rest
  whole = found.whole ∙ sym (append_assoc front (found.entry ∷ []) found.rest)

  at : Place H found.entry
  at = record { front = front; rest = found.rest; whole = found.whole }

  called : is_called upto n ≡ true
  unfolding at
  called = elim (cases_Bool (calls n found.entry)) [
    | inl enters ↦ calls_called upto n (any_push (calls n) front found.entry ∙ rw enters (last (list_any (calls n) front)))
    | inr other ↦ is_called_kept front (found.entry ∷ []) n (open_is_called front n (named_open front found.entry (follows_at H legal found.entry at) n (last_named _ _ n found.entry found.passes).0 other))
  ]
    where
      last : (b : Bool) → (b || true) ≡ true
      last true = refl
      last false = refl

  to_upto : to_of H n ≡ to_of upto n
  to_upto = ap (λ L. to_of L n) whole ∙ to_of_kept upto found.rest n called

  from_upto : from_of H n ≡ from_of upto n
  from_upto = ap (λ L. from_of L n) whole ∙ from_of_kept upto found.rest n called

  alive_upto : has_broken upto (caller_of upto n) ≡ false
  alive_upto = neither_left _ _ (sym (has_broken_append upto found.rest (caller_of upto n))
      ∙ (ap (has_broken (upto ++ found.rest)) (sym (caller_of_kept upto found.rest n called))
      ∙ (ap (λ L. has_broken L (caller_of L n)) (sym whole) ∙ alive)))

  over_upto : is_over upto n ≡ true
  over_upto = sym (last_stands upto n called alive_upto)
      ∙ (ap₂ (λ to from. list_any (is_last_of to from n) upto) (sym to_upto) (sym from_upto)
      ∙ (any_push (is_last_of (to_of H n) (from_of H n) n) front found.entry ∙ rw found.passes (last (list_any (is_last_of (to_of H n) (from_of H n) n) front))))
    where
      last : (b : Bool) → (b || true) ≡ true
      last true = refl
      last false = refl

  open_front : is_called front n ≡ true → is_over front n ≡ false
  open_front there = sym (last_stands front n there alive_front)
      ∙ (ap₂ (λ to from. list_any (is_last_of to from n) front) (sym to_front) (sym from_front) ∙ found.none)
    where
      to_front : to_of H n ≡ to_of front n
      to_front = ap (λ L. to_of L n) found.whole ∙ to_of_kept front (found.entry ∷ found.rest) n there

      from_front : from_of H n ≡ from_of front n
      from_front = ap (λ L. from_of L n) found.whole ∙ from_of_kept front (found.entry ∷ found.rest) n there

      alive_front : has_broken front (caller_of front n) ≡ false
      alive_front = neither_left _ _ (sym (has_broken_append front (found.entry ∷ found.rest) (caller_of front n))
          ∙ (ap (has_broken (front ++ found.entry ∷ found.rest)) (sym (caller_of_kept front (found.entry ∷ found.rest) n there))
          ∙ (ap (λ L. has_broken L (caller_of L n)) (sym found.whole) ∙ alive)))

  same_now : now front ≡ now upto
  unfolding now
  same_now = sym (ap (λ o. unwrap_or o 0) (last_some_push moment_in front found.entry ∙ ap (λ o. option_or o (last_some moment_in front)) (last_named _ _ n found.entry found.passes).1))

  end_is_timed : IsTimed H n (end_moment H n)
  unfolding end_moment
  end_is_timed = record { front = front; entry = found.entry; rest = found.rest; whole = found.whole; still_open = open_front; called = called; over = over_upto; moment_is = same_now }

-- what an outcome says
told_parts : (over broken : Bool) (o told : OutcomeParts) → (if not over || broken then None else Some o) ≡ Some told → (over ≡ true) × (broken ≡ false) × (o ≡ told)
told_parts true false o told h = (refl, refl, same_Some o told h)
told_parts true true o told h = absurd (none-some told h)
told_parts false broken o told h = absurd (none-some told h)

pub outcome_timed : (H : List Entry) → Legal H → (n : ℕ) → is_called H n ≡ true → (told : OutcomeParts) → outcome_of H n ≡ Some told → IsTimed H n told.moment
unfolding outcome_of
outcome_timed H legal n c told h =
    let p = told_parts (is_over H n) (has_broken H (caller_of H n)) (timed (end_moment H n) (unwrap_or (first_some (outcome_in H n) H) (nothing n))) told h in
    subst (λ m. IsTimed H n m) (ap (λ o. o.moment) p.2) (end_is_timed H legal n c p.0 p.1)

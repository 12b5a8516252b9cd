-- What is read of the kept entries of a list is what is read of all, where those that are read are
-- kept.
use Rattle.std.proofs.lemmas.Bool.{false≢true, true≢false}
use Rattle.std.proofs.lemmas.Option.{none-some}
use Rattle.std.proofs.lemmas.List.Sums.{sum_by-cons}
use Rattle.std.proofs.Common.{◌≡◌, refl, sym, ap, ◌∙◌, ℕ, ◌+◌, Bool, true, false, not, ◌&&◌, ◌||◌, List, [], ◌∷◌, Option, Some, None, sum_by, if◌then◌else◌, ◌⊎◌, inl, inr, arith}
use Rattle.std.specs.List.{list_any}
use Rattle.std.specs.Option.{option_or}
use Rattle.ipc_history.specs.Words.{first_some, last_some, before}
use Rattle.ipc_history.specs.Entries.{moment_in}
use Rattle.ipc_history.specs.declared.entry.Entry.{Entry}
use Rattle.ipc_history.specs.declared.entry.Entry.TheVariants.{Given, Written}
use Rattle.ipc_history.specs.declared.entry.Input.TheVariants.{At, Opened, Called, Exreg, Broke, Moved}
use Rattle.ipc_laws.proofs.Places.{Place}
use Rattle.ipc_laws.proofs.Tests.{neither_left, neither_right}
use Rattle.ipc_compact.specs.Compact.{is_at, has_moment, keeps_at, keeps, kept_list}

or_none : {X : Type 0} (o : Option X) → option_or o None ≡ o
or_none None = refl
or_none (Some x) = refl

-- an entry of which this may be said is kept, and is no At
abbrev pub IsKept : (Entry → Bool) → Entry → Type 0
IsKept test e = (is_at e ≡ false) × (test e ≡ true)

pub kept_so : (test : Entry → Bool) (e : Entry) (rest : List Entry) → IsKept test e → keeps test e rest ≡ true
kept_so test e rest is = rw is.0 is.1

not_kept : {X : Type 0} (test : Entry → Bool) (e : Entry) (rest : List Entry) → IsKept test e → keeps test e rest ≡ false → X
not_kept test e rest is loses = absurd (true≢false (sym (kept_so test e rest is) ∙ loses))

pub first_kept : {Y : Type 0} (test : Entry → Bool) (f : Entry → Option Y) → ((e : Entry) → IsKept test e ⊎ (f e ≡ None)) → (H : List Entry) → first_some f (kept_list test H) ≡ first_some f H
first_kept test f h [] = refl
first_kept test f h (e ∷ H) = go (first_kept test f h H) (keeps test e H) refl (h e)
  where
    go : first_some f (kept_list test H) ≡ first_some f H → (b : Bool) → keeps test e H ≡ b → IsKept test e ⊎ (f e ≡ None) → first_some f (if b then e ∷ kept_list test H else kept_list test H) ≡ option_or (f e) (first_some f H)
    go again true is _ = ap (option_or (f e)) again
    go again false is (inl kept) = not_kept test e H kept is
    go again false is (inr none) = rw none again

pub last_kept : {Y : Type 0} (test : Entry → Bool) (f : Entry → Option Y) → ((e : Entry) → IsKept test e ⊎ (f e ≡ None)) → (H : List Entry) → last_some f (kept_list test H) ≡ last_some f H
last_kept test f h [] = refl
last_kept test f h (e ∷ H) = go (last_kept test f h H) (keeps test e H) refl (h e)
  where
    go : last_some f (kept_list test H) ≡ last_some f H → (b : Bool) → keeps test e H ≡ b → IsKept test e ⊎ (f e ≡ None) → last_some f (if b then e ∷ kept_list test H else kept_list test H) ≡ option_or (last_some f H) (f e)
    go again true is _ = ap (λ o. option_or o (f e)) again
    go again false is (inl kept) = not_kept test e H kept is
    go again false is (inr none) = rw none (again ∙ sym (or_none (last_some f H)))

pub any_kept : (test : Entry → Bool) (p : Entry → Bool) → ((e : Entry) → IsKept test e ⊎ (p e ≡ false)) → (H : List Entry) → list_any p (kept_list test H) ≡ list_any p H
any_kept test p h [] = refl
any_kept test p h (e ∷ H) = go (any_kept test p h H) (keeps test e H) refl (h e)
  where
    go : list_any p (kept_list test H) ≡ list_any p H → (b : Bool) → keeps test e H ≡ b → IsKept test e ⊎ (p e ≡ false) → list_any p (if b then e ∷ kept_list test H else kept_list test H) ≡ (p e || list_any p H)
    go again true is _ = ap (λ b. p e || b) again
    go again false is (inl kept) = not_kept test e H kept is
    go again false is (inr none) = rw none again

pub sum_kept : (test : Entry → Bool) (f : Entry → ℕ) → ((e : Entry) → IsKept test e ⊎ (f e ≡ 0)) → (H : List Entry) → sum_by f (kept_list test H) ≡ sum_by f H
sum_kept test f h [] = refl
sum_kept test f h (e ∷ H) = go (sum_kept test f h H) (keeps test e H) refl (h e)
  where
    go : sum_by f (kept_list test H) ≡ sum_by f H → (b : Bool) → keeps test e H ≡ b → IsKept test e ⊎ (f e ≡ 0) → sum_by f (if b then e ∷ kept_list test H else kept_list test H) ≡ sum_by f (e ∷ H)
    go again true is _ = sum_by-cons f e (kept_list test H) ∙ (ap (λ k. f e + k) again ∙ sym (sum_by-cons f e H))
    go again false is (inl kept) = not_kept test e H kept is
    go again false is (inr none) = let all = sum_by-cons f e H in omega (arith, none, again, all)

-- Moments

timeless : (e : Entry) → is_at e ≡ false → moment_in e ≡ None
timeless (Given (At moment)) h = absurd (true≢false h)
timeless (Given (Opened thread space)) h = refl
timeless (Given (Called n thread call)) h = refl
timeless (Given (Exreg thread target control)) h = refl
timeless (Given (Broke thread)) h = refl
timeless (Given (Moved n count)) h = refl
timeless (Written output) h = refl

timed : (e : Entry) → is_at e ≡ true → (m : ℕ) × (moment_in e ≡ Some m)
timed (Given (At moment)) h = (moment, refl)
timed (Given (Opened thread space)) h = absurd (false≢true h)
timed (Given (Called n thread call)) h = absurd (false≢true h)
timed (Given (Exreg thread target control)) h = absurd (false≢true h)
timed (Given (Broke thread)) h = absurd (false≢true h)
timed (Given (Moved n count)) h = absurd (false≢true h)
timed (Written output) h = absurd (false≢true h)

-- something is said of these
abbrev Says : Option ℕ → Type 0
Says o = (m : ℕ) × (o ≡ Some m)

or_says : (o : Option ℕ) (m : ℕ) → Says (option_or o (Some m))
or_says None m = (m, refl)
or_says (Some k) m = (k, refl)

says_or : (o p : Option ℕ) → Says o → option_or o p ≡ o
says_or o p says = rw says.1 refl

at_says : (H : List Entry) → list_any is_at H ≡ true → Says (last_some moment_in H)
at_says [] h = absurd (false≢true h)
at_says (e ∷ H) h = go (at_says H) (is_at e) refl
  where
    go : (list_any is_at H ≡ true → Says (last_some moment_in H)) → (b : Bool) → is_at e ≡ b → Says (option_or (last_some moment_in H) (moment_in e))
    go again true is = let m = timed e is in rw m.1 (or_says (last_some moment_in H) m.0)
    go again false is = rw (timeless e is, or_none (last_some moment_in H)) (again (rw is at h))

-- the moment of all
pub moment_kept : (test : Entry → Bool) (H : List Entry) → last_some moment_in (kept_list test H) ≡ last_some moment_in H
moment_kept test [] = refl
moment_kept test (e ∷ H) = go (moment_kept test H) (is_at e) refl (keeps test e H) refl
  where
    follows : (a b : Bool) → (not a || b) ≡ false → a ≡ true
    follows a b h = grind arith

    go : last_some moment_in (kept_list test H) ≡ last_some moment_in H → (a : Bool) → is_at e ≡ a → (b : Bool) → keeps test e H ≡ b → last_some moment_in (if b then e ∷ kept_list test H else kept_list test H) ≡ option_or (last_some moment_in H) (moment_in e)
    go again a at true is = ap (λ o. option_or o (moment_in e)) again
    go again true at false is =
        let wanted : keeps_at test H ≡ false = rw at at is in
        again ∙ sym (says_or (last_some moment_in H) (moment_in e) (at_says H (follows _ _ wanted)))
    go again false at false is = rw (timeless e at) (again ∙ sym (or_none (last_some moment_in H)))

-- the moment before the first entry that passes, where such entries are kept and have a moment
abbrev pub IsMarked : (Entry → Bool) → (Entry → Bool) → Type 0
IsMarked test p = (e : Entry) → p e ≡ true → IsKept test e × (has_moment e ≡ true)

both_true : (a b : Bool) → a ≡ true → b ≡ true → (a && b) ≡ true
both_true a b h k = grind arith

or_first : {X : Type 0} (a b : Option X) → option_or a b ≡ None → a ≡ None
or_first None b h = refl
or_first (Some x) b h = h

or_second : {X : Type 0} (a b : Option X) → option_or a b ≡ None → b ≡ None
or_second None b h = h
or_second (Some x) b h = absurd (none-some x (sym h))

reached : (test p : Entry → Bool) → IsMarked test p → (H : List Entry) → list_any p H ≡ true → last_some moment_in (before p H) ≡ None → list_any (λ e. has_moment e && test e) (before is_at H) ≡ true
reached test p marked [] h none = absurd (false≢true h)
reached test p marked (e ∷ H) h none = go (reached test p marked H) (p e) refl none
  where
    here : p e ≡ true → list_any (λ e. has_moment e && test e) (before is_at (e ∷ H)) ≡ true
    here passes = let mark = marked e passes in rw mark.0.0 (rw (mark.0.1, mark.1) refl)

    no_at : (a : Bool) → is_at e ≡ a → moment_in e ≡ None → is_at e ≡ false
    no_at true at m = let said = timed e at in absurd (none-some said.0 (sym m ∙ said.1))
    no_at false at m = at

    go : (list_any p H ≡ true → last_some moment_in (before p H) ≡ None → list_any (λ e. has_moment e && test e) (before is_at H) ≡ true) → (b : Bool) → p e ≡ b → last_some moment_in (if b then [] else e ∷ before p H) ≡ None → list_any (λ e. has_moment e && test e) (before is_at (e ∷ H)) ≡ true
    go again true passes none = here passes
    go again false other none =
        let at = no_at (is_at e) refl (or_second _ _ none) in
        let later = again (rw other at h) (or_first _ _ none) in
        rw at (either (has_moment e && test e) _ later)
      where
        either : (a b : Bool) → b ≡ true → (a || b) ≡ true
        either a b h = grind arith

pub before_kept : (test p : Entry → Bool) → IsMarked test p → (H : List Entry) → list_any p H ≡ true → last_some moment_in (before p (kept_list test H)) ≡ last_some moment_in (before p H)
before_kept test p marked [] h = absurd (false≢true h)
before_kept test p marked (e ∷ H) h = go (before_kept test p marked H) (p e) refl (keeps test e H) refl
  where
    wanted_not : (a b : Bool) → (not a || b) ≡ false → b ≡ false
    wanted_not a b h = grind arith

    says : (o : Option ℕ) → (o ≡ None → ⊥) → Says o
    says None some = absurd (some refl)
    says (Some m) some = (m, refl)

    skipped : p e ≡ false → keeps test e H ≡ false → (a : Bool) → is_at e ≡ a → last_some moment_in (before p H) ≡ option_or (last_some moment_in (before p H)) (moment_in e)
    skipped other is true at =
        let unwanted : keeps_at test H ≡ false = rw at at is in
        let more : list_any p H ≡ true = rw other at h in
        sym (says_or (last_some moment_in (before p H)) (moment_in e) (says _ (λ none. true≢false (sym (reached test p marked H more none) ∙ wanted_not _ _ unwanted))))
    skipped other is false at = rw (timeless e at) (sym (or_none _))

    go : (list_any p H ≡ true → last_some moment_in (before p (kept_list test H)) ≡ last_some moment_in (before p H)) → (b : Bool) → p e ≡ b → (k : Bool) → keeps test e H ≡ k → last_some moment_in (before p (if k then e ∷ kept_list test H else kept_list test H)) ≡ last_some moment_in (if b then [] else e ∷ before p H)
    go again true passes true is = rw passes refl
    go again true passes false is = not_kept test e H (marked e passes).0 is
    go again false other true is = rw other (ap (λ o. option_or o (moment_in e)) (again (rw other at h)))
    go again false other false is = again (rw other at h) ∙ skipped other is (is_at e) refl

-- and where no more is known than of the entries that stand there
pub any_kept_at : (test p : Entry → Bool) (H : List Entry) → ((e : Entry) → Place H e → p e ≡ true → IsKept test e) → list_any p (kept_list test H) ≡ list_any p H
any_kept_at test p [] h = refl
any_kept_at test p (e ∷ H) h = go (any_kept_at test p H (λ x at. h x (record { front = e ∷ at.front; rest = at.rest; whole = ap (λ l. e ∷ l) at.whole }))) (keeps test e H) refl (p e) refl
  where
    here : p e ≡ true → IsKept test e
    here = h e (record { front = []; rest = H; whole = refl })

    go : list_any p (kept_list test H) ≡ list_any p H → (b : Bool) → keeps test e H ≡ b → (a : Bool) → p e ≡ a → list_any p (if b then e ∷ kept_list test H else kept_list test H) ≡ (p e || list_any p H)
    go again true is a passes = ap (λ b. p e || b) again
    go again false is true passes = not_kept test e H (here passes) is
    go again false is false other = rw other again

-- what is kept was there
pub kept_was_there : (test p : Entry → Bool) (H : List Entry) → list_any p H ≡ false → list_any p (kept_list test H) ≡ false
kept_was_there test p [] h = refl
kept_was_there test p (e ∷ H) h = go (kept_was_there test p H (neither_right (p e) (list_any p H) h)) (keeps test e H)
  where
    go : list_any p (kept_list test H) ≡ false → (b : Bool) → list_any p (if b then e ∷ kept_list test H else kept_list test H) ≡ false
    go again true = rw (neither_left (p e) (list_any p H) h) again
    go again false = again

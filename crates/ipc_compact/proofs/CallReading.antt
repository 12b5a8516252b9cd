-- A call is kept, or kept only for its message: what the kept entries say of it, and which threads
-- stay for it.
use Rattle.std.proofs.lemmas.Bool.{false≢true, true≢false}
use Rattle.std.proofs.Common.{◌≡◌, refl, sym, ap, ◌∙◌, ℕ, ◌==◌, eqb-true, eq-eqb, Bool, true, false, not, ◌&&◌, ◌||◌, List, [], ◌∷◌, filter, if◌then◌else◌, ◌⊎◌, inl, inr, arith}
use Rattle.std.specs.List.{list_any}
use Rattle.ipc_history.specs.Entries.{names, calls, count_in}
use Rattle.ipc_history.specs.Calls.{numbers, caller_of}
use Rattle.ipc_history.specs.Threads.{is_live}
use Rattle.ipc_history.specs.Phases.{is_over, moved_bytes}
use Rattle.ipc_history.specs.Matching.{shown_sender}
use Rattle.ipc_history.specs.declared.entry.Entry.{Entry}
use Rattle.ipc_history.specs.declared.entry.Entry.TheVariants.{Given, Written}
use Rattle.ipc_history.specs.declared.entry.Input.TheVariants.{At, Opened, Called, Exreg, Broke, Moved}
use Rattle.ipc_compact.specs.Compact.{is_among, names_one, is_kept_call, kept_calls, is_further, further_calls, is_told_of, is_kept_thread, is_kept, kept_of}
use Rattle.ipc_compact.proofs.KeepLemmas.{IsKept, sum_kept}
use Rattle.ipc_compact.proofs.Reading.{among_named, marked_call, no_at}
use Rattle.ipc_compact.proofs.ThreadReading.{stays, any_gone}

-- Of a filtered list

pub among_filter : (n : ℕ) (p : ℕ → Bool) (xs : List ℕ) → is_among n xs ≡ true → p n ≡ true → is_among n (filter p xs) ≡ true
among_filter n p [] h k = absurd (false≢true h)
among_filter n p (x ∷ xs) h k = go (among_filter n p xs) (x == n) refl (p x) refl
  where
    left_true : (a b : Bool) → a ≡ true → (a || b) ≡ true
    left_true a b h = grind arith

    right_true : (a b : Bool) → b ≡ true → (a || b) ≡ true
    right_true a b h = grind arith

    go : (is_among n xs ≡ true → p n ≡ true → is_among n (filter p xs) ≡ true) → (a : Bool) → (x == n) ≡ a → (b : Bool) → p x ≡ b → is_among n (filter p (x ∷ xs)) ≡ true
    go again true same true passes = rw passes (left_true (x == n) _ same)
    go again true same false other = absurd (true≢false (sym k ∙ (ap p (sym (eqb-true x n same)) ∙ other)))
    go again false apart true passes = rw passes (right_true (x == n) _ (again (rw apart at h) k))
    go again false apart false other = rw other (again (rw apart at h) k)

pub filter_among : (n : ℕ) (p : ℕ → Bool) (xs : List ℕ) → is_among n (filter p xs) ≡ true → p n ≡ true
filter_among n p [] h = absurd (false≢true h)
filter_among n p (x ∷ xs) h = go (filter_among n p xs) (p x) refl
  where
    go : (is_among n (filter p xs) ≡ true → p n ≡ true) → (b : Bool) → p x ≡ b → p n ≡ true
    go again true passes = at (x == n) refl
      where
        at : (a : Bool) → (x == n) ≡ a → p n ≡ true
        at true same = ap p (sym (eqb-true x n same)) ∙ passes
        at false apart = again (rw (passes, apart) at h)
    go again false other = again (rw other at h)

among_any : (n : ℕ) (f : ℕ → Bool) (ns : List ℕ) → is_among n ns ≡ true → f n ≡ true → list_any f ns ≡ true
among_any n f [] h k = absurd (false≢true h)
among_any n f (x ∷ ns) h k = go (among_any n f ns) (x == n) refl
  where
    left_true : (a b : Bool) → a ≡ true → (a || b) ≡ true
    left_true a b h = grind arith

    right_true : (a b : Bool) → b ≡ true → (a || b) ≡ true
    right_true a b h = grind arith

    go : (is_among n ns ≡ true → f n ≡ true → list_any f ns ≡ true) → (a : Bool) → (x == n) ≡ a → (f x || list_any f ns) ≡ true
    go again true same = left_true _ _ (ap f (eqb-true x n same) ∙ k)
    go again false apart = right_true _ _ (again (rw apart at h) k)

-- A kept or further call

module _ (H : List Entry) (taken : List ℕ) (n : ℕ) where
  abbrev pub IsThere : Type 0
  IsThere = (is_among n (kept_calls H taken) ≡ true) ⊎ (is_among n (further_calls H taken) ≡ true)

  one_of : (a b c : Bool) → a ≡ true → (a || b || c) ≡ true
  one_of a b c h = grind arith

  two_of : (a t b c : Bool) → t ≡ true → b ≡ true → (a || (t && b) || c) ≡ true
  two_of a t b c h k = grind arith

  pub told : IsThere → (e : Entry) → names n e ≡ true → is_told_of e ≡ true → is_kept H taken e ≡ true
  unfolding is_kept
  told (inl kept) e named tells = one_of _ _ _ (among_named n (kept_calls H taken) e kept named)
  told (inr further) e named tells = two_of _ _ _ _ tells (among_named n (further_calls H taken) e further named)

  call_told : (e : Entry) → calls n e ≡ true → is_told_of e ≡ true
  call_told (Given (Called k thread call)) h = refl
  call_told _ h = absurd (false≢true h)

  pub called_kept : IsThere → (e : Entry) → calls n e ≡ true → IsKept (is_kept H taken) e
  called_kept is e h = let m = marked_call n e h in (no_at n e m.0, told is e m.0 (call_told e h))

  -- the bytes that were copied for it
  counted : (e : Entry) → (names n e ≡ true) × (is_told_of e ≡ true) ⊎ (count_in n e ≡ 0)
  counted (Given (Moved k count)) = go (k == n) refl
    where
      go : (b : Bool) → (k == n) ≡ b → ((k == n) ≡ true) × (true ≡ true) ⊎ ((if b then count else 0) ≡ 0)
      go true is = inl (is, refl)
      go false is = inr refl
  counted (Given (At moment)) = inr refl
  counted (Given (Opened thread space)) = inr refl
  counted (Given (Called k thread call)) = inr refl
  counted (Given (Exreg thread target control)) = inr refl
  counted (Given (Broke thread)) = inr refl
  counted (Written output) = inr refl

  pub bytes_same : IsThere → moved_bytes (kept_of H taken) n ≡ moved_bytes H n
  unfolding moved_bytes kept_of
  bytes_same is = sum_kept (is_kept H taken) (count_in n) each H
    where
      each : (e : Entry) → IsKept (is_kept H taken) e ⊎ (count_in n e ≡ 0)
      each e = elim (counted e) [ inl both ↦ inl (no_at n e both.0, told is e both.0 both.1) | inr none ↦ inr none ]

  -- its caller and its shown sender stay
  either : (a b : Bool) → a ≡ true → (a || b) ≡ true
  either a b h = grind arith

  or_either : (a b : Bool) → b ≡ true → (a || b) ≡ true
  or_either a b h = grind arith

  pub caller_stays : IsThere → stays H taken (caller_of H n) ≡ true
  unfolding is_kept_thread
  caller_stays (inl kept) = either _ _ (or_either _ _ (among_any n (λ k. (caller_of H k == caller_of H n) || (shown_sender H k == caller_of H n)) (kept_calls H taken) kept (either _ _ (eq-eqb (caller_of H n) (caller_of H n) refl))))
  caller_stays (inr further) = or_either _ _ (or_either _ _ (among_any n (λ k. (caller_of H k == caller_of H n) || (shown_sender H k == caller_of H n)) (further_calls H taken) further (either _ _ (eq-eqb (caller_of H n) (caller_of H n) refl))))

  pub shown_stays : IsThere → stays H taken (shown_sender H n) ≡ true
  unfolding is_kept_thread
  shown_stays (inl kept) = either _ _ (or_either _ _ (among_any n (λ k. (caller_of H k == shown_sender H n) || (shown_sender H k == shown_sender H n)) (kept_calls H taken) kept (or_either _ _ (eq-eqb (shown_sender H n) (shown_sender H n) refl))))
  shown_stays (inr further) = or_either _ _ (or_either _ _ (among_any n (λ k. (caller_of H k == shown_sender H n) || (shown_sender H k == shown_sender H n)) (further_calls H taken) further (or_either _ _ (eq-eqb (shown_sender H n) (shown_sender H n) refl))))

  -- a call of which a Called is kept is there
  not_named : (ns : List ℕ) (e : Entry) → calls n e ≡ true → is_among n ns ≡ false → names_one ns e ≡ false
  not_named [] e h k = refl
  not_named (x ∷ ns) (Given (Called m thread call)) h k = go (not_named ns (Given (Called m thread call)) h) (x == n) refl
    where
      differs : (x == n) ≡ false → (m == x) ≡ false
      differs apart = rw (eqb-true m n h) (turned n x apart)
        where
          turned : (a b : ℕ) → (b == a) ≡ false → (a == b) ≡ false
          turned a b h = grind arith

      go : (is_among n ns ≡ false → names_one ns (Given (Called m thread call)) ≡ false) → (b : Bool) → (x == n) ≡ b → ((m == x) || names_one ns (Given (Called m thread call))) ≡ false
      go again true is = absurd (true≢false (sym (rw is refl) ∙ k))
      go again false is = rw (differs is) (again (rw is at k))
  not_named (x ∷ ns) _ h k = absurd (false≢true h)

  unkept : is_among n (kept_calls H taken) ≡ false → is_among n (further_calls H taken) ≡ false → (e : Entry) → calls n e ≡ true → is_kept H taken e ≡ false
  unfolding is_kept
  unkept k f (Given (Called m thread call)) h = rw (not_named (kept_calls H taken) (Given (Called m thread call)) h k, not_named (further_calls H taken) (Given (Called m thread call)) h f) refl
  unkept k f _ h = absurd (false≢true h)

  pub there : list_any (calls n) (kept_of H taken) ≡ true → is_among n (further_calls H taken) ≡ false → is_among n (kept_calls H taken) ≡ true
  unfolding kept_of
  there c f = go (is_among n (kept_calls H taken)) refl
    where
      go : (b : Bool) → is_among n (kept_calls H taken) ≡ b → is_among n (kept_calls H taken) ≡ true
      go true k = k
      go false k = absurd (true≢false (sym c ∙ any_gone (is_kept H taken) (calls n) (λ e h. (no_at n e (marked_call n e h).0, unkept k f e h)) H))

  -- a kept call is no further call, and its caller lives
  pub not_further : is_among n (kept_calls H taken) ≡ true → is_among n (further_calls H taken) ≡ false
  unfolding further_calls is_further
  not_further k = go (is_among n (filter (λ k. not (is_among k (kept_calls H taken)) && list_any (λ e. names k e && names_one (kept_calls H taken) e) H) (numbers H))) refl
    where
      never : (a b : Bool) → a ≡ true → (not a && b) ≡ true → ⊥
      never true b h k = false≢true k
      never false b h k = false≢true h

      go : (b : Bool) → is_among n (filter (λ k. not (is_among k (kept_calls H taken)) && list_any (λ e. names k e && names_one (kept_calls H taken) e) H) (numbers H)) ≡ b → is_among n (filter (λ k. not (is_among k (kept_calls H taken)) && list_any (λ e. names k e && names_one (kept_calls H taken) e) H) (numbers H)) ≡ false
      go true is = absurd (never _ _ k (filter_among n (λ k. not (is_among k (kept_calls H taken)) && list_any (λ e. names k e && names_one (kept_calls H taken) e) H) (numbers H) is))
      go false is = is

  pub kept_lives : is_among n (kept_calls H taken) ≡ true → is_live H (caller_of H n) ≡ true
  unfolding kept_calls is_kept_call
  kept_lives k = first _ _ (filter_among n (λ n. is_live H (caller_of H n) && not (is_over H n && is_among n taken)) (numbers H) k)
    where
      first : (a b : Bool) → (a && b) ≡ true → a ≡ true
      first a b h = grind arith

  -- an open call of a live thread is kept
  pub open_kept : is_among n (numbers H) ≡ true → is_over H n ≡ false → is_live H (caller_of H n) ≡ true → is_among n (kept_calls H taken) ≡ true
  unfolding kept_calls is_kept_call
  open_kept c o l = among_filter n (λ n. is_live H (caller_of H n) && not (is_over H n && is_among n taken)) (numbers H) c (rw (l, o) refl)

  -- a call that an entry names beside a kept call is there
  pub beside_kept : (k : ℕ) → is_among k (kept_calls H taken) ≡ true → is_among n (numbers H) ≡ true → list_any (λ e. names n e && names k e) H ≡ true → IsThere
  unfolding further_calls is_further
  beside_kept k kept c h = go (is_among n (kept_calls H taken)) refl
    where
      weaker : (P : List Entry) → list_any (λ e. names n e && names k e) P ≡ true → list_any (λ e. names n e && names_one (kept_calls H taken) e) P ≡ true
      weaker [] h = absurd (false≢true h)
      weaker (e ∷ P) h = at (weaker P) (names n e) refl (names k e) refl h
        where
          at : (list_any (λ e. names n e && names k e) P ≡ true → list_any (λ e. names n e && names_one (kept_calls H taken) e) P ≡ true) → (a : Bool) → names n e ≡ a → (b : Bool) → names k e ≡ b → ((a && b) || list_any (λ e. names n e && names k e) P) ≡ true → ((names n e && names_one (kept_calls H taken) e) || list_any (λ e. names n e && names_one (kept_calls H taken) e) P) ≡ true
          at again true is true other h = rw (is, among_named k (kept_calls H taken) e kept other) refl
          at again true is false other h = or_either _ _ (again h)
          at again false is true other h = or_either _ _ (again h)
          at again false is false other h = or_either _ _ (again h)

      go : (b : Bool) → is_among n (kept_calls H taken) ≡ b → IsThere
      go true is = inl is
      go false is = inr (among_filter n (λ k. not (is_among k (kept_calls H taken)) && list_any (λ e. names k e && names_one (kept_calls H taken) e) H) (numbers H) c (rw (is, weaker H h) refl))

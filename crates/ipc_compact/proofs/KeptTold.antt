-- Two histories with one compact tell the same of each kept call, and of the calls of what follows.
use Rattle.std.proofs.lemmas.Bool.{false≢true}
use Rattle.std.proofs.Common.{◌≡◌, refl, sym, ap, ap₂, ◌∙◌, subst, ℕ, ◌==◌, eqb-true, eq-eqb, Bool, true, false, ◌&&◌, ◌||◌, List, [], ◌∷◌, ◌++◌, append-nil, filter, Some, None, if◌then◌else◌, ◌⊎◌, unwrap_or, inl, inr, arith}
use Rattle.std.proofs.lemmas.List.{append_assoc}
use Rattle.std.specs.List.{list_any}
use Rattle.ipc_words.specs.ThreadId.{nilthread}
use Rattle.ipc_history.specs.Words.{before, first_some, last_some}
use Rattle.ipc_history.specs.Entries.{calls, ends, moment_in, names}
use Rattle.ipc_history.specs.Calls.{call_at, is_called, caller_of, to_of, from_of, numbers}
use Rattle.ipc_history.specs.Threads.{has_broken, now}
use Rattle.ipc_history.specs.Phases.{is_over}
use Rattle.ipc_history.specs.Matching.{is_propagated}
use Rattle.ipc_history.specs.Legal.{Legal}
use Rattle.ipc_history.specs.Outcomes.{end_moment, is_last_of, outcome_in, outcome_of, received}
use Rattle.ipc_history.specs.declared.entry.Entry.{Entry}
use Rattle.ipc_history.specs.declared.entry.Entry.TheVariants.{Given, Written}
use Rattle.ipc_history.specs.declared.entry.Input.TheVariants.{At, Opened, Called, Exreg, Broke, Moved}
use Rattle.ipc_history.specs.declared.entry.Output.TheVariants.{Began, Turned, Ended, Overflowed, Aborted, Failed}
use Rattle.ipc_laws.proofs.EndMoments.{last_named, last_stands}
use Rattle.ipc_laws.proofs.Endings.{live_unbroken}
use Rattle.ipc_laws.proofs.IdleOutputs.{first_some_agrees}
use Rattle.ipc_laws.proofs.Numbering.{number_was_called}
use Rattle.ipc_laws.proofs.Pairing.{ended_pair, pair_called}
use Rattle.ipc_laws.proofs.Places.{Place, any_at, any_place}
use Rattle.ipc_laws.proofs.Settling.{legal_push}
use Rattle.ipc_laws.proofs.Tests.{neither_left, neither_right}
use Rattle.ipc_compact.specs.Agree.{Agree, SameCompact, SameEnd}
use Rattle.ipc_compact.specs.Compact.{has_moment, is_among, is_kept, is_kept_call, kept_calls, kept_of}
use Rattle.ipc_compact.specs.Told.{OutcomesAgree}
use Rattle.ipc_compact.proofs.CallReading as there
use Rattle.ipc_compact.proofs.Following.{end2, follow_same, front_follows, quiet_end}
use Rattle.ipc_compact.proofs.KeepLemmas.{IsKept, IsMarked, before_kept, first_kept}
use Rattle.ipc_compact.proofs.Reading as reading
use Rattle.ipc_compact.proofs.SameBases.{same_compact}
use Rattle.ipc_compact.proofs.SameCompact as compacts
use Rattle.ipc_compact.proofs.SameCalls as calls_same
use Rattle.ipc_compact.proofs.SameTold.{OneMoment, SameTold, newly_told, outcomes_same, received_same, still_told}
use Rattle.ipc_compact.proofs.ShownReading as shown
use Rattle.ipc_compact.proofs.Stepping.{stepped}

-- Of one history

pub filter_source : (n : ℕ) (p : ℕ → Bool) (xs : List ℕ) → is_among n (filter p xs) ≡ true → is_among n xs ≡ true
filter_source n p [] h = absurd (false≢true h)
filter_source n p (x ∷ xs) h = go (filter_source n p xs) (p x) refl (x == n) refl
  where
    first : (a b : Bool) → a ≡ true → (a || b) ≡ true
    first a b h = grind arith

    second : (a b : Bool) → b ≡ true → (a || b) ≡ true
    second a b h = grind arith

    go : (is_among n (filter p xs) ≡ true → is_among n xs ≡ true) → (b : Bool) → p x ≡ b → (a : Bool) → (x == n) ≡ a → ((x == n) || is_among n xs) ≡ true
    go again b passes true same = first _ _ same
    go again true passes false apart = second _ _ (again (rw (passes, apart) at h))
    go again false other false apart = second _ _ (again (rw other at h))

pub among_called : (P : List Entry) (n : ℕ) → is_among n (numbers P) ≡ true → is_called P n ≡ true
among_called P n h = let p = any_place (λ k. k == n) (numbers P) h in subst (λ k. is_called P k ≡ true) (eqb-true p.0 n p.2) (number_was_called P p.0 p.1)

pub kept_called : (P : List Entry) (taken : List ℕ) (n : ℕ) → is_among n (kept_calls P taken) ≡ true → is_called P n ≡ true
unfolding kept_calls
kept_called P taken n h = among_called P n (filter_source n (is_kept_call P taken) (numbers P) h)

-- an entry that does not name a call tells nothing of it
silent_outcome : (H : List Entry) (n : ℕ) (e : Entry) → names n e ≡ false → outcome_in H n e ≡ None
silent_outcome H n (Written (Failed k code)) h = rw h refl
silent_outcome H n (Written (Overflowed k m offset)) h = rw (neither_left (k == n) (m == n) h, neither_right (k == n) (m == n) h) refl
silent_outcome H n (Written (Aborted k m count)) h = rw (neither_left (k == n) (m == n) h, neither_right (k == n) (m == n) h) refl
silent_outcome H n (Written (Ended k m)) h = rw (neither_right (k == n) (m == n) h) refl
silent_outcome H n _ h = refl

names_both : (k n : ℕ) (e : Entry) → ends k n e ≡ true → (names k e && names n e) ≡ true
names_both k n (Written (Ended i j)) h = both (i == k) (j == k) (i == n) (j == n) h
  where
    both : (a b c d : Bool) → (a && d) ≡ true → ((a || b) && (c || d)) ≡ true
    both a b c d h = grind arith
names_both k n _ h = absurd (false≢true h)

-- the sending call of a message that a kept call received is kept for it
module _ (P : List Entry) (taken : List ℕ) (legal : Legal P) (n : ℕ) (k : is_among n (kept_calls P taken) ≡ true) where
  sender_kept : (j : ℕ) → list_any (ends j n) P ≡ true → there.IsThere P taken j
  sender_kept j h =
      let p = any_place (ends j n) P h in
      there.beside_kept P taken j n k
      (compacts.among_numbers P j (pair_called P legal j n (ended_pair P legal j n h)).0)
      (any_at (λ e. names j e && names n e) P p.0 p.1 (names_both j n p.0 p.2))

  tells_kept : first_some (outcome_in P n) (kept_of P taken) ≡ first_some (outcome_in P n) P
  unfolding kept_of
  tells_kept = first_kept (is_kept P taken) (outcome_in P n) each P
    where
      each : (e : Entry) → IsKept (is_kept P taken) e ⊎ (outcome_in P n e ≡ None)
      each e = go (names n e) refl
        where
          go : (b : Bool) → names n e ≡ b → IsKept (is_kept P taken) e ⊎ (outcome_in P n e ≡ None)
          go true h = inl (reading.no_at n e h, reading.named P taken n k e h)
          go false h = inr (silent_outcome P n e h)

-- the last entry of a call names it, and its moment is kept
last_marked : (to from n : ℕ) (e : Entry) → is_last_of to from n e ≡ true → (names n e ≡ true) × (has_moment e ≡ true)
last_marked to from n e h = ((last_named to from n e h).0, marked e h)
  where
    none : (f t : Bool) → false ≡ (false || (f && (false || (t && false))))
    none f t = grind arith

    marked : (e : Entry) → is_last_of to from n e ≡ true → has_moment e ≡ true
    marked (Given (Called k thread call)) h = refl
    marked (Written (Ended k m)) h = refl
    marked (Written (Failed k code)) h = refl
    marked (Written (Overflowed k m offset)) h = refl
    marked (Written (Aborted k m count)) h = refl
    marked _ h = absurd (false≢true (none (from == nilthread) (to == nilthread) ∙ h))

-- so a kept call was over at the moment that the kept entries say
module _ (P : List Entry) (taken : List ℕ) (n : ℕ) (k : is_among n (kept_calls P taken) ≡ true) where
  moment_kept : (c : is_called P n ≡ true) → is_over P n ≡ true → has_broken P (caller_of P n) ≡ false → last_some moment_in (before (is_last_of (to_of P n) (from_of P n) n) (kept_of P taken)) ≡ last_some moment_in (before (is_last_of (to_of P n) (from_of P n) n) P)
  unfolding kept_of
  moment_kept c over alive = before_kept (is_kept P taken) (is_last_of (to_of P n) (from_of P n) n) mark P (last_stands P n c alive ∙ over)
    where
      mark : IsMarked (is_kept P taken) (is_last_of (to_of P n) (from_of P n) n)
      mark e h = let m = last_marked (to_of P n) (from_of P n) n e h in ((reading.no_at n e m.0, reading.named P taken n k e m.0), m.1)

-- Of two with one compact

module _ (P Q : List Entry) (one other : List ℕ) (legal : Legal P) (legal' : Legal Q) (same : SameCompact P Q one other) (agree : Agree P Q) (n : ℕ) (k : is_among n (kept_calls P one) ≡ true) where
  called : is_called P n ≡ true
  called = kept_called P one n k

  k' : is_among n (kept_calls Q other) ≡ true
  k' = compacts.kept_both P Q one other legal legal' same n called k

  call : call_at P n ≡ call_at Q n
  call = (compacts.same_call P Q one other legal legal' same n called k).call

  unbroken : (P : List Entry) (taken : List ℕ) → is_among n (kept_calls P taken) ≡ true → has_broken P (caller_of P n) ≡ false
  unbroken P taken k = live_unbroken P (caller_of P n) (there.kept_lives P taken n k)

  message : (j : ℕ) → there.IsThere P one j → there.IsThere Q other j → received P j n ≡ received Q j n
  message j is is' = received_same P Q j n
      (sym (shown.call_same P one j (there.called_kept P one j is)) ∙ (ap (λ K. call_at K j) same.kept ∙ shown.call_same Q other j (there.called_kept Q other j is')))
      (sym (shown.propagated_same P one j (there.called_kept P one j is) (there.shown_stays P one j is) (there.caller_stays P one j is))
      ∙ (ap (λ K. is_propagated K j) same.kept
      ∙ shown.propagated_same Q other j (there.called_kept Q other j is') (there.shown_stays Q other j is') (there.caller_stays Q other j is')))
      call

  tells : (e : Entry) → Place (kept_of P one) e → outcome_in P n e ≡ outcome_in Q n e
  tells (Written (Ended j m)) at = go (m == n) refl
    where
      ended : (m == n) ≡ true → list_any (ends j n) (kept_of P one) ≡ true
      ended is = any_at (ends j n) (kept_of P one) (Written (Ended j m)) at (rw (eq-eqb j j refl, is) refl)

      go : (b : Bool) → (m == n) ≡ b → (if b then Some (received P j n) else None) ≡ (if b then Some (received Q j n) else None)
      go false is = refl
      go true is =
          let h : list_any (ends j n) P ≡ true = sym (reading.got_read P one n k j) ∙ ended is in
          let h' : list_any (ends j n) Q ≡ true = sym (reading.got_read Q other n k' j) ∙ (ap (λ K. list_any (ends j n) K) (sym same.kept) ∙ ended is) in
          ap (λ t. Some t) (message j (sender_kept P one legal n k j h) (sender_kept Q other legal' n k' j h'))
  tells (Written (Failed j code)) at = refl
  tells (Written (Overflowed j m offset)) at = refl
  tells (Written (Aborted j m count)) at = refl
  tells (Written (Began j m)) at = refl
  tells (Written (Turned m thread)) at = refl
  tells (Given input) at = refl

  one_moment : OneMoment P Q n
  unfolding end_moment now
  one_moment over alive =
      let tests : is_last_of (to_of P n) (from_of P n) n ≡ is_last_of (to_of Q n) (from_of Q n) n = ap₂ (λ to from. is_last_of to from n) (calls_same.to P Q n call) (calls_same.from P Q n call) in
      let there = compacts.called_there P Q one other legal legal' same n called k in
      ap (λ o. unwrap_or o 0) (sym (moment_kept P one n k called over alive)
      ∙ (ap₂ (λ test K. last_some moment_in (before test K)) tests same.kept
      ∙ moment_kept Q other n k' there (sym (agree.over n) ∙ over) (unbroken Q other k')))

  pub kept_told : SameTold P Q n
  kept_told =
      let broken = unbroken P one k ∙ sym (unbroken Q other k') in
      record {
        called = called;
        there = compacts.called_there P Q one other legal legal' same n called k;
        call = call;
        broken = broken;
        told = outcomes_same P Q n (agree.over n) broken one_moment
            (sym (tells_kept P one legal n k)
            ∙ (first_some_agrees (outcome_in P n) (outcome_in Q n) (kept_of P one) tells
            ∙ (ap (first_some (outcome_in Q n)) same.kept ∙ tells_kept Q other legal' n k')));
      }

-- What follows

abbrev IsOf : List Entry → ℕ → Type 0
IsOf X n = is_among n (numbers X) ≡ true

first_of : (e : Entry) (X : List Entry) (n : ℕ) → IsOf (e ∷ X) n → (calls n e ≡ true) ⊎ IsOf X n
unfolding numbers
first_of (Given (Called k t _)) X n h = go (k == n) refl h
  where
    go : (b : Bool) → (k == n) ≡ b → (b || is_among n (numbers X)) ≡ true → ((k == n) ≡ true) ⊎ IsOf X n
    go true is h = inl is
    go false is h = inr h
first_of (Given (At moment)) X n h = inr h
first_of (Given (Opened thread space)) X n h = inr h
first_of (Given (Exreg thread target control)) X n h = inr h
first_of (Given (Broke thread)) X n h = inr h
first_of (Given (Moved k count)) X n h = inr h
first_of (Written output) X n h = inr h

none_of : (n : ℕ) → IsOf [] n → ⊥
unfolding numbers
none_of n h = false≢true h

tell_on : (X P Q : List Entry) → Legal P → Legal Q → Agree P Q → SameEnd P Q → Legal (P ++ X) → (n : ℕ) → SameTold P Q n ⊎ IsOf X n → outcome_of (P ++ X) n ≡ outcome_of (Q ++ X) n
tell_on [] P Q legal legal' agree ends h n (inl it) = rw (append-nil P, append-nil Q) it.told
tell_on [] P Q legal legal' agree ends h n (inr is) = absurd (none_of n is)
tell_on (e ∷ X) P Q legal legal' agree ends h n is =
    let f = front_follows P e X h in
    let f' = follow_same P Q e legal legal' agree ends f in
    let one : Legal ((P ++ e ∷ []) ++ X) = subst Legal (sym (append_assoc P (e ∷ []) X)) h in
    let now : SameTold (P ++ e ∷ []) (Q ++ e ∷ []) n ⊎ IsOf X n = elim is [
      | inl it ↦ inl (still_told P Q e legal legal' f f' agree n it)
      | inr of ↦ elim (first_of e X n of) [
        | inl enters ↦ inl (newly_told P Q e n agree.moment legal legal' f f' enters)
        | inr later ↦ inr later
      ]
    ] in
    ap (λ L. outcome_of L n) (sym (append_assoc P (e ∷ []) X))
    ∙ (tell_on X (P ++ e ∷ []) (Q ++ e ∷ []) (legal_push P e legal f) (legal_push Q e legal' f') (stepped P Q e legal legal' f f' agree) (end2 P Q e legal legal' f f' agree) one n now
    ∙ ap (λ L. outcome_of L n) (append_assoc Q (e ∷ []) X))

pub either_of : (a b : Bool) → (a || b) ≡ true → (a ≡ true) ⊎ (b ≡ true)
either_of true b h = inl refl
either_of false b h = inr h

pub outcomes_agree : OutcomesAgree
outcomes_agree P Q one other legal legal' quiet quiet' is X h n which =
    let same = same_compact P Q one other legal legal' is in
    let agree = compacts.compact_agrees P Q one other legal legal' same in
    let told : SameTold P Q n ⊎ IsOf X n = elim (either_of (is_among n (kept_calls P one)) (is_among n (numbers X)) which) [
      | inl k ↦ inl (kept_told P Q one other legal legal' same agree n k)
      | inr of ↦ inr of
    ] in
    tell_on X P Q legal legal' agree (quiet_end P Q quiet quiet') h n told

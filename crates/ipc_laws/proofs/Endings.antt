-- A call is closed at most once; a send that ended otherwise is not received; an ended thread takes
-- no part.
use Rattle.std.proofs.lemmas.Bool.{false≢true, false_from_ne_true, or_left, or_right, or_from}
use Rattle.std.proofs.Common.{◌≡◌, refl, sym, ap, ◌∙◌, ℕ, ◌≤◌, true, false, eqb-true, eq-eqb, List, [], ◌∷◌, ◌++◌, inl, inr, count_by, arith}
use Rattle.std.specs.List.{list_any}
use Rattle.ipc_history.specs.CallParts.{CallParts}
use Rattle.ipc_history.specs.Entries.{ends_send, calls, call_in, closes, breaks, names, fails_send}
use Rattle.ipc_history.specs.Calls.{call_at, is_called, caller_of}
use Rattle.ipc_history.specs.Threads.{has_broken, was_opened, is_live}
use Rattle.ipc_history.specs.Phases.{is_sent}
use Rattle.ipc_history.specs.Legal.{Follows, Legal}
use Rattle.ipc_history.specs.declared.entry.Entry.{Entry}
use Rattle.ipc_history.specs.declared.entry.Entry.TheVariants.{Given, Written}
use Rattle.ipc_history.specs.declared.entry.Input.TheVariants.{At, Opened, Called, Exreg, Broke, Moved}
use Rattle.ipc_history.specs.declared.entry.Output.TheVariants.{Ended, Overflowed, Aborted, Failed}
use Rattle.ipc_laws.proofs.Growth.{any_kept, caller_of_kept, has_broken_kept, is_sent_append, open_is_called, open_is_not_closed, open_lives}
use Rattle.ipc_laws.proofs.Histories.{admitted_at, follows_at, named_open, sent_place}
use Rattle.ipc_laws.proofs.Numbering.{called_below, entered}
use Rattle.ipc_laws.proofs.Once.{Once, count_once}
use Rattle.ipc_laws.proofs.OneOpen.{caller_at, free_parts}
use Rattle.ipc_laws.proofs.OutputLemmas.{next_output_means}
use Rattle.ipc_laws.proofs.Pairing.{legal_before, passes_at, unsent_running, unsent_unpaired}
use Rattle.ipc_laws.proofs.PhaseParts.{failing_send, meets_parts, passes_parts}
use Rattle.ipc_laws.proofs.Places.{Place, any_at, any_place, first_at, place_after}
use Rattle.ipc_laws.proofs.Tests.{left, none_of, not_both, refuted, right}

pub closes_names : (n : ℕ) (e : Entry) → closes n e ≡ true → (names n e ≡ true) × (calls n e ≡ false)
closes_names n (Written (Failed k code)) g = (g, refl)
closes_names n (Written (Overflowed k m offset)) g = (g, refl)
closes_names n (Written (Aborted k m count)) g = (g, refl)
closes_names n (Written (Ended k m)) g = (or_right _ _ g, refl)
closes_names n _ g = absurd (false≢true g)

closes_once : (H : List Entry) → Legal H → (n : ℕ) → Once (closes n) H
closes_once H h n e at g = let named = closes_names n e g in open_is_not_closed at.front n (named_open at.front e (follows_at H h e at) n named.0 named.1)

pub closed_once : (H : List Entry) → Legal H → (n : ℕ) → count_by (closes n) H ≤ 1
closed_once H h n = count_once (closes n) H (closes_once H h n)

-- A send that ended otherwise, and an ended thread

spoils_closes : (n : ℕ) (e : Entry) → fails_send n e ≡ true → closes n e ≡ true
spoils_closes n (Written (Failed k code)) g = left _ _ g
spoils_closes n (Written (Overflowed k m offset)) g = or_left _ _ g
spoils_closes n (Written (Aborted k m count)) g = or_left _ _ g
spoils_closes n _ g = absurd (false≢true g)

spoils_unsent : (P : List Entry) → Legal P → (n : ℕ) (e : Entry) → Follows P e → fails_send n e ≡ true → is_sent P n ≡ false
unfolding Follows
spoils_unsent P h n (Written (Failed k code)) f g =
    let same : k ≡ n = eqb-true k n (left _ _ g) in
    rw (sym same) (elim (failing_send P k code (eqb-true _ _ (right _ _ g)) (next_output_means P (Failed k code) f)) [ inl s ↦ unsent_unpaired P h k s.unpaired | inr l ↦ unsent_running P h k l.0 l.1 l.2 ])
spoils_unsent P h n (Written (Overflowed k m offset)) f g =
    let same : k ≡ n = eqb-true k n g in
    rw (sym same) (unsent_unpaired P h k (meets_parts P k m (next_output_means P (Overflowed k m offset) f).0).sends.unpaired)
spoils_unsent P h n (Written (Aborted k m count)) f g =
    let same : k ≡ n = eqb-true k n g in
    let p = passes_parts P k m (next_output_means P (Aborted k m count) f).0 in
    rw (sym same) (unsent_running P h k m p.pair p.running)
spoils_unsent P h n _ f g = absurd (false≢true g)

spoils_not_ends : (n : ℕ) (e : Entry) → fails_send n e ≡ true → ends_send n e ≡ false
spoils_not_ends n (Written (Ended k m)) g = absurd (false≢true g)
spoils_not_ends n (Written (Failed k code)) g = refl
spoils_not_ends n (Written (Overflowed k m offset)) g = refl
spoils_not_ends n (Written (Aborted k m count)) g = refl
spoils_not_ends n _ g = absurd (false≢true g)

-- of a call that an entry closed, none of the later entries is an Ended
closed_ends_no_more : (H : List Entry) → Legal H → (n : ℕ) (e : Entry) (at : Place H e) → closes n e ≡ true → is_sent at.rest n ≡ false
closed_ends_no_more H h n e at c = false_from_ne_true (is_sent at.rest n) (λ s.
    let later = sent_place at.rest n s in
    let p = passes_at H h n later.0 (place_after H e _ at later.1) in
    not_both (any_kept (closes n) (at.front ++ e ∷ []) later.1.front (any_at (closes n) _ e (record { front = at.front; rest = []; whole = refl }) c)) (open_is_not_closed _ n p.opened))

sent_behind : (n : ℕ) (e : Entry) (rest : List Entry) → ends_send n e ≡ false → is_sent rest n ≡ false → is_sent (e ∷ rest) n ≡ false
unfolding is_sent
sent_behind n e rest p q = or_from _ _ p q

pub spoiled_unsent : (H : List Entry) → Legal H → (n : ℕ) → list_any (fails_send n) H ≡ true → is_sent H n ≡ false
spoiled_unsent H h n spoiled =
    let t = any_place (fails_send n) H spoiled in
    let before = spoils_unsent t.1.front (legal_before H h t.0 t.1) n t.0 (follows_at H h t.0 t.1) t.2 in
    let after = closed_ends_no_more H h n t.0 t.1 (spoils_closes n t.0 t.2) in
    rw t.1.whole (is_sent_append t.1.front (t.0 ∷ t.1.rest) n ∙ or_from _ _ before (sent_behind n t.0 t.1.rest (spoils_not_ends n t.0 t.2) after))

-- after Broke(t) no entry names a call of t
pub broken_at : (F Q : List Entry) (t : ℕ) → has_broken (F ++ Given (Broke t) ∷ Q) t ≡ true
unfolding has_broken
broken_at F Q t = any_at (breaks t) _ _ (record { front = F; rest = Q; whole = refl }) (eq-eqb t t refl)

pub caller_here : (H : List Entry) (n thread : ℕ) (call : CallParts) (at : Place H (Given (Called n thread call))) → is_called at.front n ≡ false → caller_of H n ≡ thread
unfolding is_called call_at
caller_here H n thread call at absent = caller_at H n thread call (first_at (call_in n) H _ (thread, call) at (none_of _ (rw absent refl)) (rw (eq-eqb n n refl) refl))

pub live_unbroken : (P : List Entry) (t : ℕ) → is_live P t ≡ true → has_broken P t ≡ false
unfolding is_live
live_unbroken P t h = refuted _ (right _ _ h)

pub live_opened : (P : List Entry) (t : ℕ) → is_live P t ≡ true → was_opened P t ≡ true
unfolding is_live
live_opened P t h = left _ _ h

pub no_more_names : (H : List Entry) → Legal H → (t : ℕ) (at : Place H (Given (Broke t))) (e : Entry) → Place at.rest e → (n : ℕ) → names n e ≡ true → caller_of H n ≡ t → ⊥
no_more_names H h t at e later n named same = go e (place_after H _ e at later) refl named
  where
    broken : has_broken ((at.front ++ Given (Broke t) ∷ []) ++ later.front) t ≡ true
    broken = has_broken_kept (at.front ++ Given (Broke t) ∷ []) later.front t (broken_at at.front [] t)

    old : (e : Entry) (there : Place H e) → there.front ≡ (at.front ++ Given (Broke t) ∷ []) ++ later.front → names n e ≡ true → calls n e ≡ false → ⊥
    old e there f named c =
        let o = named_open there.front e (follows_at H h e there) n named c in
        let mine : caller_of there.front n ≡ t = sym (caller_of_kept there.front (e ∷ there.rest) n (open_is_called there.front n o)) ∙ (ap (λ l. caller_of l n) (sym there.whole) ∙ same) in
        not_both (rw f broken) (rw mine at (open_lives there.front n o))

    go : (e : Entry) (there : Place H e) → there.front ≡ (at.front ++ Given (Broke t) ∷ []) ++ later.front → names n e ≡ true → ⊥
    go (Given (Called k thread call)) there f named =
        let is : k ≡ n = eqb-true k n named in
        let e = entered there.front k thread call (admitted_at H h (Called k thread call) there) in
        let absent : is_called there.front k ≡ false = false_from_ne_true _ (λ c. let below = called_below there.front (legal_before H h _ there) k c in omega (arith, e.1)) in
        let mine : thread ≡ t = sym (caller_here H k thread call there absent) ∙ (ap (caller_of H) is ∙ same) in
        not_both (rw (f, mine) broken) (live_unbroken there.front thread (free_parts there.front thread e.0).0)
    go (Given (Moved k count)) there f named = old (Given (Moved k count)) there f named refl
    go (Given (At moment)) there f named = absurd (false≢true named)
    go (Given (Opened thread space)) there f named = absurd (false≢true named)
    go (Given (Exreg thread target control)) there f named = absurd (false≢true named)
    go (Given (Broke thread)) there f named = absurd (false≢true named)
    go (Written output) there f named = old (Written output) there f named refl

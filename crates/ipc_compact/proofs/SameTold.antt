-- Two histories that agree tell the same of a call.
use Rattle.std.proofs.Common.{◌≡◌, refl, sym, ap, ◌∙◌, subst, ℕ, ◌==◌, eqb-true, eq-eqb, Bool, true, false, not, ◌||◌, List, [], ◌∷◌, ◌++◌, Option, Some, None, is_some, unwrap_or, if◌then◌else◌, arith}
use Rattle.std.proofs.lemmas.Bool.{false≢true}
use Rattle.std.specs.Option.{option_or}
use Rattle.ipc_history.specs.CallParts.{CallParts}
use Rattle.ipc_history.specs.Words.{first_some}
use Rattle.ipc_history.specs.Entries.{breaks, calls}
use Rattle.ipc_history.specs.Calls.{call_at, is_called, caller_of, originator_of, tag_of, words_of, strings_of, buffers_of}
use Rattle.ipc_history.specs.Threads.{has_broken, now}
use Rattle.ipc_history.specs.Phases.{is_over}
use Rattle.ipc_history.specs.Matching.{is_propagated, shown_sender}
use Rattle.ipc_history.specs.Legal.{Legal, Follows}
use Rattle.ipc_history.specs.Outcomes.{OutcomeParts, end_moment, nothing, outcome_in, outcome_of, received, timed}
use Rattle.ipc_history.specs.declared.entry.Entry.{Entry}
use Rattle.ipc_history.specs.declared.entry.Entry.TheVariants.{Given, Written}
use Rattle.ipc_history.specs.declared.entry.Input.TheVariants.{At, Opened, Called, Exreg, Broke, Moved}
use Rattle.ipc_history.specs.declared.entry.Output.TheVariants.{Began, Turned, Ended, Overflowed, Aborted, Failed}
use Rattle.ipc_laws.proofs.Befores.{propagated_kept}
use Rattle.ipc_laws.proofs.Changing.{changes}
use Rattle.ipc_laws.proofs.EndMoments.{end_moment_at_once, end_moment_new}
use Rattle.ipc_laws.proofs.Endings.{live_unbroken}
use Rattle.ipc_laws.proofs.Growth.{call_at_kept, caller_of_kept, is_called_kept, open_is_called, open_is_not_closed}
use Rattle.ipc_laws.proofs.Histories.{named_open}
use Rattle.ipc_laws.proofs.Lasting.{outcome_kept}
use Rattle.ipc_laws.proofs.Settling.{legal_push}
use Rattle.ipc_laws.proofs.ThreadChanges.{has_broken_push}
use Rattle.ipc_laws.proofs.Told.{told_none}
use Rattle.ipc_laws.proofs.WordLemmas.{first_some_push}
use Rattle.ipc_compact.specs.Agree.{Agree}
use Rattle.ipc_compact.proofs.NewCall as new
use Rattle.ipc_compact.proofs.SameCalls as same
use Rattle.ipc_compact.proofs.Stepping.{called_other, stepped}

-- both say the same of the call, and tell the same of it
pub record SameTold (P Q : List Entry) (n : ℕ) : Type 0 where
  pub called : is_called P n ≡ true
  pub there : is_called Q n ≡ true
  pub call : call_at P n ≡ call_at Q n
  pub broken : has_broken P (caller_of P n) ≡ has_broken Q (caller_of Q n)
  pub told : outcome_of P n ≡ outcome_of Q n

-- what a message says depends on the two calls alone
pub received_same : (P Q : List Entry) (k m : ℕ) → call_at P k ≡ call_at Q k → is_propagated P k ≡ is_propagated Q k → call_at P m ≡ call_at Q m → received P k m ≡ received Q k m
unfolding tag_of strings_of shown_sender originator_of caller_of words_of buffers_of
received_same P Q k m sent shown got = rw (sent, shown, got) refl

-- an outcome, from what the entries tell
abbrev outcome_by : Bool → Bool → ℕ → ℕ → Option OutcomeParts → Option OutcomeParts
outcome_by over broken moment n o = (if not over || broken then None else Some (timed moment (unwrap_or o (nothing n))))

told_by : (H : List Entry) (n : ℕ) (o : Option OutcomeParts) → first_some (outcome_in H n) H ≡ o → outcome_of H n ≡ outcome_by (is_over H n) (has_broken H (caller_of H n)) (end_moment H n) n o
unfolding outcome_of
told_by H n o e = rw e refl

broken_untold : (H : List Entry) (n : ℕ) → has_broken H (caller_of H n) ≡ true → outcome_of H n ≡ None
unfolding outcome_of
broken_untold H n b = rw b (none (not (is_over H n)))
  where
    none : (a : Bool) → (if a || true then None else Some (timed (end_moment H n) (unwrap_or (first_some (outcome_in H n) H) (nothing n)))) ≡ None
    none true = refl
    none false = refl

open_untold : (H : List Entry) (n : ℕ) → is_over H n ≡ false → outcome_of H n ≡ None
unfolding outcome_of
open_untold H n o = rw o refl

-- two calls that are over, while their callers live, were over at one moment
abbrev pub OneMoment : List Entry → List Entry → ℕ → Type 0
OneMoment P Q n = is_over P n ≡ true → has_broken P (caller_of P n) ≡ false → end_moment P n ≡ end_moment Q n

-- by what the entries tell
pub outcomes_same : (P Q : List Entry) (n : ℕ) → is_over P n ≡ is_over Q n → has_broken P (caller_of P n) ≡ has_broken Q (caller_of Q n) → OneMoment P Q n → first_some (outcome_in P n) P ≡ first_some (outcome_in Q n) Q → outcome_of P n ≡ outcome_of Q n
outcomes_same P Q n over broken moment tells = go (is_over P n) refl (has_broken P (caller_of P n)) refl
  where
    go : (a : Bool) → is_over P n ≡ a → (b : Bool) → has_broken P (caller_of P n) ≡ b → outcome_of P n ≡ outcome_of Q n
    go false o b is = open_untold P n o ∙ sym (open_untold Q n (sym over ∙ o))
    go true o true b = broken_untold P n b ∙ sym (broken_untold Q n (sym broken ∙ b))
    go true o false b = told_by P n (first_some (outcome_in Q n) Q) tells ∙ (rw (over, broken, moment o b) refl ∙ sym (told_by Q n (first_some (outcome_in Q n) Q) refl))

-- One more entry

module _ (P Q : List Entry) (e : Entry) (legal : Legal P) (legal' : Legal Q) (follows : Follows P e) (follows' : Follows Q e) (agree : Agree P Q) where
  abbrev P2 : List Entry
  P2 = P ++ e ∷ []

  abbrev Q2 : List Entry
  Q2 = Q ++ e ∷ []

  agree2 : Agree P2 Q2
  agree2 = stepped P Q e legal legal' follows follows' agree

  module _ (n : ℕ) (it : SameTold P Q n) where
    call2 : call_at P2 n ≡ call_at Q2 n
    call2 = call_at_kept P (e ∷ []) n it.called ∙ (it.call ∙ sym (call_at_kept Q (e ∷ []) n it.there))

    broken_after : (P : List Entry) → is_called P n ≡ true → has_broken (P ++ e ∷ []) (caller_of (P ++ e ∷ []) n) ≡ (has_broken P (caller_of P n) || breaks (caller_of P n) e)
    broken_after P c = ap (has_broken (P ++ e ∷ [])) (caller_of_kept P (e ∷ []) n c) ∙ (changes P e).broken (caller_of P n)

    broken2 : has_broken P2 (caller_of P2 n) ≡ has_broken Q2 (caller_of Q2 n)
    broken2 = broken_after P it.called
        ∙ (ap (λ b. b || breaks (caller_of P n) e) it.broken
        ∙ (ap (λ t. has_broken Q (caller_of Q n) || breaks t e) (same.caller P Q n it.call) ∙ sym (broken_after Q it.there)))

    -- what the entry tells
    message : (k : ℕ) → is_over P k ≡ false → received P2 k n ≡ received Q2 k n
    message k o =
        let c = open_is_called P k o in
        let c' = called_other P Q e legal legal' follows follows' agree k c in
        let both = agree.calls k o in
        received_same P2 Q2 k n
        (call_at_kept P (e ∷ []) k c ∙ (both.call ∙ sym (call_at_kept Q (e ∷ []) k c')))
        (propagated_kept P (e ∷ []) k c ∙ (both.propagated ∙ sym (propagated_kept Q (e ∷ []) k c')))
        call2

    tells : (x : Entry) → e ≡ x → outcome_in P2 n x ≡ outcome_in Q2 n x
    tells (Written (Ended k m)) is = ap (λ t. if m == n then Some t else None) (message k (named_open P (Written (Ended k m)) (subst (Follows P) is follows) k (first (k == k) (m == k) (eq-eqb k k refl)) refl))
      where
        first : (a b : Bool) → a ≡ true → (a || b) ≡ true
        first a b h = grind arith
    tells (Written (Failed k code)) is = refl
    tells (Written (Overflowed k m offset)) is = refl
    tells (Written (Aborted k m count)) is = refl
    tells (Written (Began k m)) is = refl
    tells (Written (Turned m thread)) is = refl
    tells (Given input) is = refl

    -- of a call that was open this entry alone tells
    alone : (P : List Entry) → is_over P n ≡ false → first_some (outcome_in (P ++ e ∷ []) n) (P ++ e ∷ []) ≡ outcome_in (P ++ e ∷ []) n e
    alone P o = first_some_push (outcome_in (P ++ e ∷ []) n) P e ∙ ap (λ o. option_or o (outcome_in (P ++ e ∷ []) n e)) (told_none (P ++ e ∷ []) n P (open_is_not_closed P n o))

    -- it was over with this entry
    one_moment : is_over P n ≡ false → OneMoment P2 Q2 n
    one_moment o over alive = end_moment_new P e n o alive over ∙ (agree.moment ∙ sym (end_moment_new Q e n (sym (agree.over n) ∙ o) (sym broken2 ∙ alive) (sym (agree2.over n) ∙ over)))

    told2 : outcome_of P2 n ≡ outcome_of Q2 n
    told2 = go (is_over P n) refl (has_broken P2 (caller_of P2 n)) refl
      where
        go : (a : Bool) → is_over P n ≡ a → (b : Bool) → has_broken P2 (caller_of P2 n) ≡ b → outcome_of P2 n ≡ outcome_of Q2 n
        go a o true b = broken_untold P2 n b ∙ sym (broken_untold Q2 n (sym broken2 ∙ b))
        go true o false b =
            outcome_kept P (e ∷ []) (legal_push P e legal follows) n it.called o b
            ∙ (it.told ∙ sym (outcome_kept Q (e ∷ []) (legal_push Q e legal' follows') n it.there (sym (agree.over n) ∙ o) (sym broken2 ∙ b)))
        go false o false b = outcomes_same P2 Q2 n (agree2.over n) broken2 (one_moment o) (alone P o ∙ (tells e refl ∙ sym (alone Q (sym (agree.over n) ∙ o))))

    pub still_told : SameTold P2 Q2 n
    still_told = record {
      called = is_called_kept P (e ∷ []) n it.called;
      there = is_called_kept Q (e ∷ []) n it.there;
      call = call2;
      broken = broken2;
      told = told2;
    }

-- A call that is new

module _ (P : List Entry) (n t : ℕ) (call : CallParts) (legal : Legal P) (follows : Follows P (Given (Called n t call))) where
  abbrev N : List Entry
  N = P ++ Given (Called n t call) ∷ []

  called_here : is_called N n ≡ true
  unfolding is_called
  called_here = ap is_some (new.here P n t call legal follows)

  unbroken_here : has_broken N (caller_of N n) ≡ false
  unbroken_here = ap (has_broken N) (new.new_caller P n t call legal follows) ∙ (has_broken_push P (Given (Called n t call)) t refl ∙ live_unbroken P t (new.alive P n t call legal follows))

  silent_here : first_some (outcome_in N n) N ≡ None
  silent_here = told_none N n N (new.unclosed P n t call legal follows)

newly_entered : (P Q : List Entry) (n t : ℕ) (call : CallParts) → now P ≡ now Q → Legal P → Legal Q → Follows P (Given (Called n t call)) → Follows Q (Given (Called n t call)) → SameTold (P ++ Given (Called n t call) ∷ []) (Q ++ Given (Called n t call) ∷ []) n
newly_entered P Q n t call moment legal legal' follows follows' =
    let broken = unbroken_here P n t call legal follows ∙ sym (unbroken_here Q n t call legal' follows') in
    record {
      called = called_here P n t call legal follows;
      there = called_here Q n t call legal' follows';
      call = new.here P n t call legal follows ∙ sym (new.here Q n t call legal' follows');
      broken = broken;
      told = outcomes_same (P ++ Given (Called n t call) ∷ []) (Q ++ Given (Called n t call) ∷ []) n
          (new.over P n t call legal follows ∙ sym (new.over Q n t call legal' follows'))
          broken
          (λ over alive. end_moment_at_once P (Given (Called n t call)) n (new.unnamed P n t call legal follows) (called_here P n t call legal follows) alive over
          ∙ (moment ∙ sym (end_moment_at_once Q (Given (Called n t call)) n (new.unnamed Q n t call legal' follows') (called_here Q n t call legal' follows') (sym broken ∙ alive) (new.over Q n t call legal' follows' ∙ (sym (new.over P n t call legal follows) ∙ over)))))
          (silent_here P n t call legal follows ∙ sym (silent_here Q n t call legal' follows'));
    }

pub newly_told : (P Q : List Entry) (e : Entry) (n : ℕ) → now P ≡ now Q → Legal P → Legal Q → Follows P e → Follows Q e → calls n e ≡ true → SameTold (P ++ e ∷ []) (Q ++ e ∷ []) n
newly_told P Q (Given (Called k t call)) n moment legal legal' follows follows' h =
    subst (λ n. SameTold (P ++ Given (Called k t call) ∷ []) (Q ++ Given (Called k t call) ∷ []) n) (eqb-true k n h) (newly_entered P Q k t call moment legal legal' follows follows')
newly_told P Q (Given (At reading)) n moment legal legal' follows follows' h = absurd (false≢true h)
newly_told P Q (Given (Opened thread space)) n moment legal legal' follows follows' h = absurd (false≢true h)
newly_told P Q (Given (Exreg thread target control)) n moment legal legal' follows follows' h = absurd (false≢true h)
newly_told P Q (Given (Broke thread)) n moment legal legal' follows follows' h = absurd (false≢true h)
newly_told P Q (Given (Moved k count)) n moment legal legal' follows follows' h = absurd (false≢true h)
newly_told P Q (Written output) n moment legal legal' follows follows' h = absurd (false≢true h)

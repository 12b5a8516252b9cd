-- A call that meets nobody: nothing comes of it.
use Rattle.std.proofs.lemmas.Bool.{false_from_ne_true, true_from_ne_false, or_cases}
use Rattle.std.proofs.lemmas.Option.{none-some}
use Rattle.std.proofs.Common.{◌≡◌, refl, sym, ap, ◌∙◌, subst, ℕ, ◌==◌, ◌||◌, ◌&&◌, eqb-true, Bool, true, false, List, [], ◌∷◌, ◌++◌, inl, inr, arith}
use Rattle.ipc_words.specs.ThreadId.{nilthread}
use Rattle.ipc_history.specs.CallParts.{CallParts}
use Rattle.ipc_history.specs.Entries.{names}
use Rattle.ipc_history.specs.Calls.{is_called, caller_of, tag_of, send_period_of}
use Rattle.ipc_history.specs.Threads.{now, is_live}
use Rattle.ipc_history.specs.Phases.{is_over, receiver_of, sender_of, is_sending, is_receiving, is_transferring}
use Rattle.ipc_history.specs.Matching.{is_propagated, shown_sender, accepts, matches}
use Rattle.ipc_history.specs.Timing.{is_due, is_due_at}
use Rattle.ipc_history.specs.NextOutput.{stop_after, is_send_partner_gone, is_receive_partner_gone, meeting}
use Rattle.ipc_history.specs.Legal.{Legal, Follows}
use Rattle.ipc_history.specs.Settled.{Settled}
use Rattle.ipc_history.specs.declared.entry.Entry.{Entry}
use Rattle.ipc_history.specs.declared.entry.Entry.TheVariants.{Given, Written}
use Rattle.ipc_history.specs.declared.entry.Input.TheVariants.{Called}
use Rattle.ipc_history.specs.declared.entry.Output.{Output}
use Rattle.ipc_history.specs.declared.entry.Output.TheVariants.{Ended, Failed}
use Rattle.ipc_laws.specs.Locality.{Possible}
use Rattle.ipc_laws.specs.Locality.Possible.{Ends, LosesReceiver, LosesSender, LeftSending, LeftReceiving, Meets, Expires}
use Rattle.ipc_laws.proofs.Changing.{changes, others_unchanged}
use Rattle.ipc_laws.proofs.Comes.{after_input, comes, later_output}
use Rattle.ipc_laws.proofs.Endings.{live_opened}
use Rattle.ipc_laws.proofs.EntryLeaves.{is_new, space_kept}
use Rattle.ipc_laws.proofs.EntryTouches.{meeting_names}
use Rattle.ipc_laws.proofs.Growth.{caller_of_kept, open_is_called}
use Rattle.ipc_laws.proofs.OpenCalls.{caller_opened}
use Rattle.ipc_laws.proofs.PhaseParts.{meets_parts, passes_parts}
use Rattle.ipc_laws.proofs.Settling.{continued_settled, continued_start}
use Rattle.ipc_laws.proofs.Tests.{left, not_both, right}
use Rattle.ipc_laws.proofs.ThreadChanges.{is_live_push}
use Rattle.ipc_laws.proofs.Finds.{absent}
use Rattle.ipc_laws.specs.Exchange.{Waits}
use Rattle.ipc_laws.proofs.Calling.{alive, around_called, before_it, caller_here, here, legal_called, over, to_here, unpaired, unsending}
use Rattle.ipc_laws.proofs.Exchanging.{not_past}
use Rattle.ipc_laws.proofs.Giving.{sends_or_receives, sends_or_takes}

and_right : (a b : Bool) → b ≡ false → (a && b) ≡ false
and_right a b h = grind arith

neither : (a b c d : Bool) → b ≡ false → c ≡ false → ((a && b) || (c && d)) ≡ false
neither a b c d p q = grind arith

module _ (P : List Entry) (n t : ℕ) (call : CallParts) (legal : Legal P) (follows : Follows P (Given (Called n t call))) (waits : Waits P t call) where
  abbrev C : Entry
  C = Given (Called n t call)

  abbrev Q : List Entry
  Q = P ++ Given (Called n t call) ∷ []

  legal_one : Legal Q
  legal_one = legal_called P n t call legal follows

  opened : is_over Q n ≡ false
  opened = over P n t call legal follows ∙ and_right (call.from == nilthread) (call.to == nilthread) waits.sends

  sending : is_sending Q n ≡ true
  unfolding is_sending
  sending = rw (to_here P n t call legal follows, waits.sends, unpaired P n t call legal follows, opened) refl

  unreceiving : is_receiving Q n ≡ false
  unreceiving = false_from_ne_true (is_receiving Q n) (λ receives. sends_or_receives Q legal_one n sending receives)

  shown : shown_sender Q n ≡ t
  unfolding shown_sender is_propagated tag_of caller_of
  shown = rw (here P n t call legal follows, waits.itself) refl

  partner_lives : is_live Q call.to ≡ true
  partner_lives = is_live_push P C call.to refl refl ∙ waits.lives

  partner_stays : is_send_partner_gone Q n ≡ false
  unfolding is_send_partner_gone
  partner_stays = rw (sending, to_here P n t call legal follows, caller_here P n t call legal follows, partner_lives, waits.other) refl

  period : send_period_of Q n ≡ call.send_period
  unfolding send_period_of
  period = rw (here P n t call legal follows) refl

  not_due : is_due Q n ≡ false
  unfolding is_due is_due_at
  not_due = rw (before_it P n t call legal follows, period, (changes P C).moment) (neither (is_sending Q n) _ (is_receiving Q n) _ (not_past (now P) call.send_period waits.patient) unreceiving)

  -- nobody takes it
  nobody : (m : ℕ) → matches Q n m ≡ true → ⊥
  unfolding matches accepts
  nobody m meets =
      let p = meets_parts Q n m meets in
      let receives : is_receiving Q m ≡ true = right _ _ (left _ _ (left _ _ (left _ _ meets))) in
      let apart : (n == m) ≡ false = false_from_ne_true (n == m) (λ same. not_both (ap (is_receiving Q) (eqb-true n m same) ∙ receives) unreceiving) in
      let known : is_called P m ≡ true = true_from_ne_false (is_called P m) (λ none. not_both (is_new P C m none (open_is_called Q m p.receives.opened)) apart) in
      let same = others_unchanged P C m known apart refl in
      let caller = caller_of_kept P (C ∷ []) m known in
      let wanted : accepts P m t ≡ true = rw (shown, same.wanted, caller, space_kept P C t (live_opened P t (alive P n t call legal follows)), space_kept P C (caller_of P m) (caller_opened P legal m known)) at p.wanted in
      not_both wanted (waits.unmet m (sym same.receiving ∙ receives) (sym caller ∙ (sym p.same ∙ to_here P n t call legal follows)))

  gone_receives : (k : ℕ) → is_receive_partner_gone Q k ≡ true → is_receiving Q k ≡ true
  unfolding is_receive_partner_gone
  gone_receives k h = left _ _ (left _ _ (left _ _ h))

  receives_not : (k : ℕ) → matches Q k n ≡ true → ⊥
  unfolding matches
  receives_not k h = not_both (right _ _ (left _ _ (left _ _ (left _ _ h)))) unreceiving

  none_comes : (o : Output) → Possible Q o → ⊥
  none_comes o possible = go possible
    where
      of_it : (x : Output) → o ≡ x → names n (Written x) ≡ true
      of_it x is = subst (λ x. names n (Written x) ≡ true) is (around_called P n t call legal follows o possible)

      go : Possible Q o → ⊥
      go (Ends k m transfer full is) = elim (or_cases (k == n) (m == n) (of_it (Ended k m) is)) [
        | inl x ↦ none-some m (sym (unpaired P n t call legal follows) ∙ (ap (receiver_of Q) (sym (eqb-true k n x)) ∙ (passes_parts Q k m transfer).pair))
        | inr y ↦ sends_or_takes Q legal_one n k sending (subst (λ m. is_transferring Q k m ≡ true) (eqb-true m n y) transfer)
      ]
      go (LosesReceiver k gone is) = not_both (ap (is_send_partner_gone Q) (sym (eqb-true k n (of_it (Failed k _) is))) ∙ gone) partner_stays
      go (LosesSender k gone is) = not_both (ap (is_receiving Q) (sym (eqb-true k n (of_it (Failed k _) is))) ∙ gone_receives k gone) unreceiving
      go (LeftSending k m pair gone is) = none-some m (sym (unpaired P n t call legal follows) ∙ (ap (receiver_of Q) (sym (eqb-true k n (of_it (Failed k _) is))) ∙ pair))
      go (LeftReceiving k j pair gone is) = none-some j (sym (unsending P n t call legal follows) ∙ (ap (sender_of Q) (sym (eqb-true k n (of_it (Failed k _) is))) ∙ pair))
      go (Meets k m meets is) = elim (or_cases (k == n) (m == n) (sym (meeting_names Q k m n) ∙ of_it (meeting Q k m) is)) [
        | inl x ↦ nobody m (subst (λ k. matches Q k m ≡ true) (eqb-true k n x) meets)
        | inr y ↦ receives_not k (subst (λ m. matches Q k m ≡ true) (eqb-true m n y) meets)
      ]
      go (Expires k due is) = not_both (ap (is_due Q) (sym (eqb-true k n (of_it (Failed k _) is))) ∙ due) not_due

  pub waits_on : Settled Q Q
  unfolding stop_after
  waits_on = continued_settled Q Q (continued_start Q) (after_input P (Called n t call) ∙ absent (later_output Q) (λ o e. none_comes o (comes Q o e)))

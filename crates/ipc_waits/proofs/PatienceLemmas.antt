-- A call that waits as soon as it is entered, and whom a receive phase lets in.
use Rattle.std.proofs.lemmas.Bool.{false_from_ne_true, true≢false}
use Rattle.std.proofs.Common.{◌≡◌, refl, sym, ap, ◌∙◌, ℕ, ◌==◌, eqb-true, Bool, true, false, not, ◌&&◌, List, Option, Some, None, option_map}
use Rattle.std.specs.Option.{option_map_or}
use Rattle.ipc_words.specs.ThreadId.{nilthread}
use Rattle.ipc_words.specs.MsgTag.{propagates}
use Rattle.ipc_words.specs.Time.{span}
use Rattle.ipc_history.specs.CallParts.{CallParts}
use Rattle.ipc_history.specs.Calls.{caller_of}
use Rattle.ipc_history.specs.Threads.{is_live}
use Rattle.ipc_history.specs.Phases.{is_over, open_call, is_receiving}
use Rattle.ipc_history.specs.Matching.{accepts, shown_sender}
use Rattle.ipc_history.specs.Legal.{Legal}
use Rattle.ipc_history.specs.declared.entry.Entry.{Entry}
use Rattle.ipc_laws.specs.Exchange.{Waits, lets_in}
use Rattle.ipc_laws.proofs.Growth.{open_is_called}
use Rattle.ipc_laws.proofs.OpenCalls.{caller_lives}
use Rattle.ipc_laws.proofs.PhaseParts.{receives_parts}
use Rattle.ipc_laws.proofs.Tests.{left, refuted, right}
use Rattle.ipc_waits.specs.Patience.{has_no_time, lets_in_by, may_wait, takes}
use Rattle.ipc_waits.specs.Rules.{awaits_by}
use Rattle.ipc_waits.proofs.Meets.{standing_parts}
use Rattle.ipc_waits.proofs.Reaching.{awaits_it}
use Rattle.ipc_threads.specs.Standings.{IsStanding, standing_of}
use Rattle.ipc_threads.specs.Slots.{Stands, space_in}
use Rattle.ipc_threads.specs.declared.slot.Standing.{Standing}
use Rattle.ipc_threads.specs.declared.kept.KeptSlots.{KeptSlots}
use Rattle.ipc_threads.proofs.Lookups.{call_up, none_up, space_found}
use Rattle.ipc_threads.proofs.Spaces.{shown_space}
use Rattle.ipc_threads.proofs.StandingSteps.{found, own}

-- Periods

pub has_time : (period : ℕ) → has_no_time period ≡ false → span period ≡ Some 0 → ⊥
has_time period h none = true≢false (sym (ap (λ o. option_map_or (λ micros. micros == 0) o false) none) ∙ h)

pub has_no_time_is : (period : ℕ) → (span period ≡ Some 0 → ⊥) → has_no_time period ≡ false
has_no_time_is period h = go (span period) refl
  where
    at : (micros : ℕ) → span period ≡ Some micros → (micros == 0) ≡ false
    at micros e = false_from_ne_true _ (λ zero. h (e ∙ ap (λ k. Some k) (eqb-true micros 0 zero)))

    go : (o : Option ℕ) → span period ≡ o → option_map_or (λ micros. micros == 0) o false ≡ false
    go None e = refl
    go (Some micros) e = at micros e

-- Whom a receive phase lets in, by what is kept of a call

module _ (P : List Entry) (slots : KeptSlots) (legal : Legal P) (stands : Stands P slots) (t : ℕ) (live : is_live P t ≡ true) (from : ℕ) where
  lets_in_of : (n : ℕ) → is_over P n ≡ false → lets_in_by from (shown_sender P n) (space_in slots.table (caller_of P n) == space_in slots.table t) ≡ lets_in P from t (shown_sender P n)
  lets_in_of n o = rw (space_found P slots legal stands t live, space_found P slots legal stands (caller_of P n) (caller_lives P legal n o), shown_space P legal n (open_is_called P n o)) refl

  pub lets_in_it : (s : Standing) → IsStanding P s → lets_in_by from s.shown (space_in slots.table s.caller == space_in slots.table t) ≡ lets_in P from t (shown_sender P s.number)
  lets_in_it s is =
      let shown : s.shown ≡ shown_sender P s.number = ap (λ s. s.shown) is.is ∙ (standing_parts P s.number).1 in
      let caller : s.caller ≡ caller_of P s.number = ap (λ s. s.caller) is.is ∙ (standing_parts P s.number).2 in
      rw (shown, caller) (lets_in_of s.number is.opened)

-- Who takes a sender

module _ (P : List Entry) (slots : KeptSlots) (legal : Legal P) (stands : Stands P slots) (t : ℕ) (live : is_live P t ≡ true) (to : ℕ) where
  pub takes_it : (s : Standing) → Some s ≡ option_map (standing_of P) (open_call P to) → awaits_by t (space_in slots.table t == space_in slots.table s.caller) s ≡ takes P to t
  takes_it s e =
      let up = call_up P to s e in
      awaits_it P slots legal stands t live s up.1 ∙ sym (ap (λ o. option_map_or (λ r. is_receiving P r && accepts P r t) o false) up.0)

  pub takes_none : None ≡ option_map (standing_of P) (open_call P to) → takes P to t ≡ false
  takes_none e = ap (λ o. option_map_or (λ r. is_receiving P r && accepts P r t) o false) (none_up P (open_call P to) e)

-- The call waits

five : (a b c d e : Bool) → (not a && not b && not c && not d && e) ≡ true → (a ≡ false) × (b ≡ false) × (c ≡ false) × (d ≡ false) × (e ≡ true)
five a b c d e h = (refuted a (left _ _ (left _ _ (left _ _ (left _ _ h)))), refuted b (right _ _ (left _ _ (left _ _ (left _ _ h)))), refuted c (right _ _ (left _ _ (left _ _ h))), refuted d (right _ _ (left _ _ h)), right _ _ h)

of_five : (a b c d e : Bool) → a ≡ false → b ≡ false → c ≡ false → d ≡ false → e ≡ true → (not a && not b && not c && not d && e) ≡ true
of_five a b c d e f g h i j = rw (f, g, h, i, j) refl

module _ (P : List Entry) (legal : Legal P) (t : ℕ) (call : CallParts) where
  -- the call of its receiver that waits to receive is the open one
  takes_by : (r : ℕ) → is_receiving P r ≡ true → caller_of P r ≡ call.to → takes P call.to t ≡ accepts P r t
  takes_by r receives caller =
      let there : open_call P call.to ≡ Some r = found P legal call.to r (receives_parts P r r receives).opened caller in
      rw (there, receives) refl

  pub waits_if : may_wait P t call ≡ true → takes P call.to t ≡ false → Waits P t call
  waits_if may none =
      let parts = five (call.to == nilthread) (call.to == t) (propagates call.tag) (has_no_time call.send_period) (is_live P call.to) may in
      record {
        sends = parts.0;
        lives = parts.4;
        other = parts.1;
        itself = parts.2;
        patient = has_time call.send_period parts.3;
        unmet = λ r receives caller. sym (takes_by r receives caller) ∙ none;
      }

  pub waits_may : Waits P t call → may_wait P t call ≡ true
  waits_may waits = of_five (call.to == nilthread) (call.to == t) (propagates call.tag) (has_no_time call.send_period) (is_live P call.to) waits.sends waits.other waits.itself (has_no_time_is call.send_period waits.patient) waits.lives

  pub waits_unmet : Waits P t call → takes P call.to t ≡ false
  waits_unmet waits = go (open_call P call.to) refl
    where
      at : (r : ℕ) → (b : Bool) → is_receiving P r ≡ b → caller_of P r ≡ call.to → (b && accepts P r t) ≡ false
      at r false e caller = refl
      at r true e caller = waits.unmet r e caller

      go : (o : Option ℕ) → open_call P call.to ≡ o → option_map_or (λ r. is_receiving P r && accepts P r t) o false ≡ false
      go None e = refl
      go (Some r) e = at r (is_receiving P r) refl (own P call.to r e).1

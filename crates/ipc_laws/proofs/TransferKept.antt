-- While a transfer goes on no output closes one of its two calls alone, or ends the send of either.
use Rattle.std.proofs.lemmas.Bool.{false_from_ne_true, or_cases, or_left, or_right, or_from}
use Rattle.std.proofs.lemmas.Option.{none-some, same_Some}
use Rattle.std.proofs.Common.{◌≡◌, refl, sym, ap, subst, ◌∙◌, ℕ, true, false, ◌==◌, eqb-true, eq-eqb, List, Some, inl, inr}
use Rattle.std.specs.List.{list_any}
use Rattle.ipc_history.specs.Entries.{closes, ends, ends_send}
use Rattle.ipc_history.specs.Calls.{caller_of}
use Rattle.ipc_history.specs.Threads.{has_broken}
use Rattle.ipc_history.specs.Phases.{receiver_of, sender_of}
use Rattle.ipc_history.specs.Legal.{Legal, Follows}
use Rattle.ipc_history.specs.declared.entry.Entry.{Entry}
use Rattle.ipc_history.specs.declared.entry.Entry.TheVariants.{Given, Written}
use Rattle.ipc_history.specs.declared.entry.Output.TheVariants.{Began, Turned, Ended, Overflowed, Aborted, Failed}
use Rattle.ipc_laws.specs.Meaning.{WhyFailed}
use Rattle.ipc_laws.specs.Meaning.WhyFailed.{StoppedSend, StoppedReceive, SendPartnerGone, ReceivePartnerGone, LeftSender, LeftReceiver, DueSend, DueReceive}
use Rattle.ipc_laws.proofs.Growth.{open_lives}
use Rattle.ipc_laws.proofs.OnePhase.{passes_apart, receiver_turned, sends_apart}
use Rattle.ipc_laws.proofs.OutputLemmas.{next_output_means}
use Rattle.ipc_laws.proofs.Pairing.{receiver_of_sender, sender_of_receiver}
use Rattle.ipc_laws.proofs.PhaseParts.{Passes, Receives, Sends, due_receives, left_broken, left_running, meets_parts, partner_gone_receives, partner_gone_sends, passes_parts, receives_parts, sends_parts}
use Rattle.ipc_laws.proofs.Tests.{both, not_both}

-- a call that fails, as a sender, as a receiver, or since the other call's caller has ended
data FailsAs (P : List Entry) (n : ℕ) : Type 0 where
  Unsent : Sends P n → FailsAs P n
  Unmet : Receives P n → FailsAs P n
  SentTo : (m : ℕ) → receiver_of P n ≡ Some m → list_any (ends n m) P ≡ false → has_broken P (caller_of P m) ≡ true → FailsAs P n
  MetBy : (k : ℕ) → sender_of P n ≡ Some k → has_broken P (caller_of P k) ≡ true → FailsAs P n

fails_as : (P : List Entry) (n code : ℕ) → WhyFailed P n code → FailsAs P n
fails_as P n code (StoppedSend s e) = Unsent (sends_parts P n n s)
fails_as P n code (StoppedReceive r e) = Unmet (receives_parts P n n r)
fails_as P n code (SendPartnerGone s e) = Unsent (partner_gone_sends P n s)
fails_as P n code (ReceivePartnerGone r e) = Unmet (partner_gone_receives P n r)
fails_as P n code (LeftSender m r l e) = SentTo m r (left_running P n n m m l) (left_broken P n n m m l)
fails_as P n code (LeftReceiver k s l e) = MetBy k s (left_broken P n k n k l)
fails_as P n code (DueSend d s e) = Unsent (sends_parts P n n s)
fails_as P n code (DueReceive d q e) = Unmet (due_receives P n d q)

-- a number of which something holds that doesn't hold of x is not x
not_this : (Q : ℕ → Type 0) (k x : ℕ) → Q k → (Q x → ⊥) → (k == x) ≡ false
not_this Q k x q never = false_from_ne_true (k == x) (λ e. let same : k ≡ x = eqb-true k x e in never (subst (λ k. Q k) same q))

-- while n and m are in transfer, and it doesn't end
module _ (P : List Entry) (h : Legal P) (n m : ℕ) (p : Passes P n m) where
  -- the sending call neither waits nor receives, and the receiving call neither waits nor sends
  sender_apart : Sends P n → ⊥
  sender_apart s = none-some m (sym s.unpaired ∙ p.pair)

  sender_unmet : Receives P n → ⊥
  sender_unmet r = passes_apart P h n m p.pair p.running r.turned

  sender_takes_none : (k : ℕ) → receiver_of P k ≡ Some n → ⊥
  sender_takes_none k pair = passes_apart P h n m p.pair p.running (receiver_turned P h k n pair)

  receiver_unsent : Sends P m → ⊥
  receiver_unsent s = sends_apart P h m s (receiver_turned P h n m p.pair)

  receiver_apart : Receives P m → ⊥
  receiver_apart r = none-some n (sym r.unpaired ∙ sender_of_receiver P h n m p.pair)

  receiver_sends_none : (j : ℕ) → receiver_of P m ≡ Some j → list_any (ends m j) P ≡ false → ⊥
  receiver_sends_none j pair running = passes_apart P h m j pair running (receiver_turned P h n m p.pair)

  same_sender : (k : ℕ) → receiver_of P k ≡ Some m → k ≡ n
  same_sender k pair = same_Some k n (sym (sender_of_receiver P h k m pair) ∙ sender_of_receiver P h n m p.pair)

  same_receiver : (j : ℕ) → receiver_of P n ≡ Some j → j ≡ m
  same_receiver j pair = same_Some j m (sym pair ∙ p.pair)

  -- neither fails
  sender_fails_not : FailsAs P n → ⊥
  sender_fails_not (Unsent s) = sender_apart s
  sender_fails_not (Unmet r) = sender_unmet r
  sender_fails_not (SentTo j pair running broke) = not_both (rw (same_receiver j pair) at broke) (open_lives P m p.opened_too)
  sender_fails_not (MetBy k pair broke) = sender_takes_none k (receiver_of_sender P h k n pair)

  receiver_fails_not : FailsAs P m → ⊥
  receiver_fails_not (Unsent s) = receiver_unsent s
  receiver_fails_not (Unmet r) = receiver_apart r
  receiver_fails_not (SentTo j pair running broke) = receiver_sends_none j pair running
  receiver_fails_not (MetBy k pair broke) = not_both (rw (same_sender k (receiver_of_sender P h k m pair)) at broke) (open_lives P n p.opened)

  -- so an entry that doesn't end the transfer closes both or none, and ends the send of neither
  pub record Keeps (e : Entry) : Type 0 where
    pub with_sender : closes n e ≡ true → closes m e ≡ true
    pub with_receiver : closes m e ≡ true → closes n e ≡ true
    pub sender_unended : ends_send n e ≡ false
    pub receiver_unended : ends_send m e ≡ false

  names_neither : (e : Entry) → closes n e ≡ false → closes m e ≡ false → ends_send n e ≡ false → ends_send m e ≡ false → Keeps e
  names_neither e a b c d = record { with_sender = λ x. not_both x a; with_receiver = λ x. not_both x b; sender_unended = c; receiver_unended = d }

  pub keeps : (e : Entry) → Follows P e → ends n m e ≡ false → Keeps e
  unfolding Follows
  keeps (Given input) f other = names_neither (Given input) refl refl refl refl
  keeps (Written (Began a b)) f other = names_neither (Written (Began a b)) refl refl refl refl
  keeps (Written (Turned r thread)) f other = names_neither (Written (Turned r thread)) refl refl refl refl
  keeps (Written (Failed k code)) f other =
      let why = fails_as P k code (next_output_means P (Failed k code) f) in
      names_neither (Written (Failed k code)) (not_this (FailsAs P) k n why sender_fails_not) (not_this (FailsAs P) k m why receiver_fails_not) refl refl
  keeps (Written (Overflowed a b offset)) f other =
      let q = meets_parts P a b (next_output_means P (Overflowed a b offset) f).0 in
      names_neither (Written (Overflowed a b offset))
      (or_from _ _ (not_this (Sends P) a n q.sends sender_apart) (not_this (Receives P) b n q.receives sender_unmet))
      (or_from _ _ (not_this (Sends P) a m q.sends receiver_unsent) (not_this (Receives P) b m q.receives receiver_apart))
      refl refl
  keeps (Written (Ended a b)) f other =
      let q = passes_parts P a b (next_output_means P (Ended a b) f).0 in
      names_neither (Written (Ended a b))
      (not_this (λ b. receiver_of P a ≡ Some b) b n q.pair (sender_takes_none a))
      (false_from_ne_true (b == m) (λ e. let same : b ≡ m = eqb-true b m e in not_both (both (a == n) (b == m) (eq-eqb a n (same_sender a (q.pair ∙ ap (λ b. Some b) same))) e) other))
      (false_from_ne_true (a == n) (λ e. let same : a ≡ n = eqb-true a n e in not_both (both (a == n) (b == m) e (eq-eqb b m (same_receiver b (ap (receiver_of P) (sym same) ∙ q.pair)))) other))
      (not_this (λ a. (receiver_of P a ≡ Some b) × (list_any (ends a b) P ≡ false)) a m (q.pair, q.running) (λ t. receiver_sends_none b t.0 t.1))
  keeps (Written (Aborted a b count)) f other =
      let q = passes_parts P a b (next_output_means P (Aborted a b count) f).0 in
      record {
        with_sender = λ c. elim (or_cases (a == n) (b == n) c) [
          | inl e ↦ (let same : a ≡ n = eqb-true a n e in or_right (a == m) (b == m) (eq-eqb b m (same_receiver b (ap (receiver_of P) (sym same) ∙ q.pair))))
          | inr e ↦ not_both e (not_this (λ b. receiver_of P a ≡ Some b) b n q.pair (sender_takes_none a))
        ];
        with_receiver = λ c. elim (or_cases (a == m) (b == m) c) [
          | inl e ↦ not_both e (not_this (λ a. (receiver_of P a ≡ Some b) × (list_any (ends a b) P ≡ false)) a m (q.pair, q.running) (λ t. receiver_sends_none b t.0 t.1))
          | inr e ↦ (let same : b ≡ m = eqb-true b m e in or_left (a == n) (b == n) (eq-eqb a n (same_sender a (q.pair ∙ ap (λ b. Some b) same))))
        ];
        sender_unended = refl;
        receiver_unended = refl;
      }

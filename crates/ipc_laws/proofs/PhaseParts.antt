-- What it says that a call is in a phase.
use Rattle.std.proofs.Common.{◌≡◌, refl, ℕ, ◌%◌, Bool, true, false, ◌&&◌, ◌||◌, ◌==◌, eqb-true, List, Some, None, ◌⊎◌, inl, inr, arith}
use Rattle.std.specs.List.{list_any}
use Rattle.ipc_words.specs.ThreadId.{nilthread}
use Rattle.ipc_history.specs.Entries.{ends}
use Rattle.ipc_history.specs.Calls.{caller_of, to_of, from_of}
use Rattle.ipc_history.specs.Threads.{has_broken}
use Rattle.ipc_history.specs.Phases.{is_sent, receiver_of, sender_of, is_over, is_sending, is_transferring, is_receiving}
use Rattle.ipc_history.specs.Matching.{shown_sender, accepts, matches}
use Rattle.ipc_history.specs.Timing.{is_due, is_due_at}
use Rattle.ipc_history.specs.NextOutput.{is_send_partner_gone, is_receive_partner_gone, is_left}
use Rattle.ipc_laws.specs.Meaning.{WhyFailed}
use Rattle.ipc_laws.specs.Meaning.WhyFailed.{StoppedSend, StoppedReceive, SendPartnerGone, ReceivePartnerGone, LeftSender, LeftReceiver, DueSend, DueReceive}
use Rattle.ipc_history.specs.declared.entry.Entry.{Entry}
use Rattle.ipc_laws.proofs.Tests.{held, left, none_of, refuted, right}

pub record Sends (P : List Entry) (n : ℕ) : Type 0 where
  pub named : (to_of P n == nilthread) ≡ false
  pub unpaired : receiver_of P n ≡ None
  pub opened : is_over P n ≡ false

pub record Receives (P : List Entry) (m : ℕ) : Type 0 where
  pub named : (from_of P m == nilthread) ≡ false
  pub turned : ((to_of P m == nilthread) || is_sent P m) ≡ true
  pub unpaired : sender_of P m ≡ None
  pub opened : is_over P m ≡ false

pub record Passes (P : List Entry) (n m : ℕ) : Type 0 where
  pub pair : receiver_of P n ≡ Some m
  pub running : list_any (ends n m) P ≡ false
  pub opened : is_over P n ≡ false
  pub opened_too : is_over P m ≡ false

pub record Meets (P : List Entry) (n m : ℕ) : Type 0 where
  pub sends : Sends P n
  pub receives : Receives P m
  pub same : to_of P n ≡ caller_of P m
  pub other : (to_of P n == caller_of P n) ≡ false
  pub wanted : accepts P m (shown_sender P n) ≡ true

module _ (P : List Entry) (n m : ℕ) where
  pub sends_parts : is_sending P n ≡ true → Sends P n
  unfolding is_sending
  sends_parts h = record { named = refuted _ (left _ _ (left _ _ h)); unpaired = none_of _ (right _ _ (left _ _ h)); opened = refuted _ (right _ _ h) }

  pub receives_parts : is_receiving P m ≡ true → Receives P m
  unfolding is_receiving
  receives_parts h = record { named = refuted _ (left _ _ (left _ _ (left _ _ h))); turned = right _ _ (left _ _ (left _ _ h)); unpaired = none_of _ (right _ _ (left _ _ h)); opened = refuted _ (right _ _ h) }

  pub passes_parts : is_transferring P n m ≡ true → Passes P n m
  unfolding is_transferring
  passes_parts h = record { pair = held _ m (left _ _ (left _ _ (left _ _ h))); running = refuted _ (right _ _ (left _ _ (left _ _ h))); opened = refuted _ (right _ _ (left _ _ h)); opened_too = refuted _ (right _ _ h) }

module _ (P : List Entry) (n m : ℕ) where
  pub meets_parts : matches P n m ≡ true → Meets P n m
  unfolding matches
  meets_parts h = record { sends = sends_parts P n m (left _ _ (left _ _ (left _ _ (left _ _ h)))); receives = receives_parts P n m (right _ _ (left _ _ (left _ _ (left _ _ h)))); same = eqb-true _ _ (right _ _ (left _ _ (left _ _ h))); other = refuted _ (right _ _ (left _ _ h)); wanted = right _ _ h }

-- a call that fails as a sender, and one that fails as a receiver
pub data Failing (P : List Entry) (n : ℕ) : Type 0 where
  Unsent : Sends P n → Failing P n
  Leaving : (m : ℕ) → receiver_of P n ≡ Some m → list_any (ends n m) P ≡ false → is_over P n ≡ false → Failing P n
  Unmet : Receives P n → Failing P n
  Left : (k : ℕ) → sender_of P n ≡ Some k → list_any (ends k n) P ≡ false → is_over P n ≡ false → Failing P n

second_of : (a b c d : Bool) → ((a && b) || (c && d)) ≡ true → a ≡ false → c ≡ true
second_of a b c d h q = grind arith

module _ (P : List Entry) (n : ℕ) where
  pub left_open : (k m other : ℕ) → is_left P n k m other ≡ true → is_over P n ≡ false
  unfolding is_left
  left_open k m other h = refuted _ (left _ _ (left _ _ h))

  pub left_running : (k m other : ℕ) → is_left P n k m other ≡ true → list_any (ends k m) P ≡ false
  unfolding is_left
  left_running k m other h = refuted _ (right _ _ (left _ _ h))

  pub left_broken : (k m other : ℕ) → is_left P n k m other ≡ true → has_broken P (caller_of P other) ≡ true
  unfolding is_left
  left_broken k m other h = right _ _ h

  pub partner_gone_sends : is_send_partner_gone P n ≡ true → Sends P n
  unfolding is_send_partner_gone
  partner_gone_sends h = sends_parts P n n (left _ _ h)

  pub partner_gone_receives : is_receive_partner_gone P n ≡ true → Receives P n
  unfolding is_receive_partner_gone
  partner_gone_receives h = receives_parts P n n (left _ _ (left _ _ (left _ _ h)))

  pub due_receives : is_due P n ≡ true → is_sending P n ≡ false → Receives P n
  unfolding is_due is_due_at
  due_receives h q = receives_parts P n n (second_of _ _ _ _ h q)

  pub due_open : is_due P n ≡ true → is_over P n ≡ false
  due_open h = go (is_sending P n) refl
    where
      go : (b : Bool) → is_sending P n ≡ b → is_over P n ≡ false
      go true s = (sends_parts P n n s).opened
      go false s = (due_receives h s).opened

  pub failing : (code : ℕ) → WhyFailed P n code → Failing P n
  failing code (StoppedSend s e) = Unsent (sends_parts P n n s)
  failing code (StoppedReceive r e) = Unmet (receives_parts P n n r)
  failing code (SendPartnerGone s e) = Unsent (partner_gone_sends s)
  failing code (ReceivePartnerGone r e) = Unmet (partner_gone_receives r)
  failing code (LeftSender m r l e) = Leaving m r (left_running n m m l) (left_open n m m l)
  failing code (LeftReceiver k s l e) = Left k s (left_running k n k l) (left_open k n k l)
  failing code (DueSend d s e) = Unsent (sends_parts P n n s)
  failing code (DueReceive d q e) = Unmet (due_receives d q)

  -- with an even code it fails as a sender
  pub failing_send : (code : ℕ) → code % 2 ≡ 0 → WhyFailed P n code → Sends P n ⊎ ((m : ℕ) × (receiver_of P n ≡ Some m) × (list_any (ends n m) P ≡ false))
  failing_send code even (StoppedSend s e) = inl (sends_parts P n n s)
  failing_send code even (StoppedReceive r e) = absurd (omega arith)
  failing_send code even (SendPartnerGone s e) = inl (partner_gone_sends s)
  failing_send code even (ReceivePartnerGone r e) = absurd (omega arith)
  failing_send code even (LeftSender m r l e) = inr (m, r, left_running n m m l)
  failing_send code even (LeftReceiver k s l e) = absurd (omega arith)
  failing_send code even (DueSend d s e) = inl (sends_parts P n n s)
  failing_send code even (DueReceive d q e) = absurd (omega arith)

  pub failing_open : Failing P n → is_over P n ≡ false
  failing_open (Unsent s) = s.opened
  failing_open (Leaving m r u o) = o
  failing_open (Unmet r) = r.opened
  failing_open (Left k s u o) = o

-- What is read of an open call is the same in two histories that agree.
use Rattle.std.proofs.Common.{◌≡◌, refl, ℕ, ◌==◌, false, not, ◌&&◌, List, Option, Some, None, option_and_then, if◌then◌else◌}
use Rattle.std.specs.List.{list_any}
use Rattle.ipc_words.specs.IpcError.{failure_code}
use Rattle.ipc_words.specs.declared.ipc_error.Phase.TheVariants.{Send, Receive}
use Rattle.ipc_words.specs.declared.ipc_error.ErrorKind.TheVariants as kind
use Rattle.ipc_history.specs.Entries.{ends}
use Rattle.ipc_history.specs.Calls.{call_at, caller_of, to_of, from_of, send_period_of, receive_period_of, strings_of, buffers_of, message_size}
use Rattle.ipc_history.specs.Threads.{has_broken}
use Rattle.ipc_history.specs.Phases.{is_over, receiver_of, sender_of, is_sending, is_receiving, is_transferring, moved_bytes}
use Rattle.ipc_history.specs.Matching.{from_specifier}
use Rattle.ipc_history.specs.Timing.{is_due, is_due_at}
use Rattle.ipc_history.specs.NextOutput.{abort_send, end_of, is_send_partner_gone, is_receive_partner_gone, is_left, left_sender_code, left_receiver_code, partner_gone_code, partner_gone_of, timeout_of}
use Rattle.ipc_history.specs.declared.entry.Entry.{Entry}
use Rattle.ipc_history.specs.declared.entry.Output.{Output}
use Rattle.ipc_history.specs.declared.entry.Output.TheVariants.{Ended, Aborted}
use Rattle.ipc_compact.specs.Agree.{Agree, SameCall}

-- a function of the parts of one call
module _ (P Q : List Entry) (n : ℕ) (same : call_at P n ≡ call_at Q n) where
  pub caller : caller_of P n ≡ caller_of Q n
  unfolding caller_of
  caller = rw same refl

  pub to : to_of P n ≡ to_of Q n
  unfolding to_of
  to = rw same refl

  pub from : from_of P n ≡ from_of Q n
  unfolding from_of
  from = rw same refl

  pub send_period : send_period_of P n ≡ send_period_of Q n
  unfolding send_period_of
  send_period = rw same refl

  pub receive_period : receive_period_of P n ≡ receive_period_of Q n
  unfolding receive_period_of
  receive_period = rw same refl

  pub strings : strings_of P n ≡ strings_of Q n
  unfolding strings_of
  strings = rw same refl

  pub buffers : buffers_of P n ≡ buffers_of Q n
  unfolding buffers_of
  buffers = rw same refl

  pub size : message_size P n ≡ message_size Q n
  unfolding message_size
  size = rw strings refl

-- an open call
module _ (P Q : List Entry) (agree : Agree P Q) (n : ℕ) (o : is_over P n ≡ false) where
  it : SameCall P Q n
  it = agree.calls n o

  pub sending : is_sending P n ≡ is_sending Q n
  unfolding is_sending
  sending = rw (to P Q n it.call, it.receiver, agree.over n) refl

  pub receiving : is_receiving P n ≡ is_receiving Q n
  unfolding is_receiving
  receiving = rw (from P Q n it.call, to P Q n it.call, it.sent, it.sender, agree.over n) refl

  pub transferring : (m : ℕ) → is_transferring P n m ≡ is_transferring Q n m
  unfolding is_transferring
  transferring m = rw (it.receiver, it.ended m, agree.over n, agree.over m) refl

  -- its transfer, as it is sent
  pub sent_by : (Z : Type 0) (f : List Entry → ℕ → Option Z) → ((m : ℕ) → receiver_of P n ≡ Some m → f P m ≡ f Q m) → option_and_then (f P) (receiver_of P n) ≡ option_and_then (f Q) (receiver_of Q n)
  sent_by Z f h = rw (← it.receiver) (go (receiver_of P n) refl)
    where
      go : (r : Option ℕ) → receiver_of P n ≡ r → option_and_then (f P) r ≡ option_and_then (f Q) r
      go None e = refl
      go (Some m) e = h m e

  pub taken_by : (Z : Type 0) (f : List Entry → ℕ → Option Z) → ((k : ℕ) → sender_of P n ≡ Some k → f P k ≡ f Q k) → option_and_then (f P) (sender_of P n) ≡ option_and_then (f Q) (sender_of Q n)
  taken_by Z f h = rw (← it.sender) (go (sender_of P n) refl)
    where
      go : (r : Option ℕ) → sender_of P n ≡ r → option_and_then (f P) r ≡ option_and_then (f Q) r
      go None e = refl
      go (Some k) e = h k e

  pub ends_same : end_of P n ≡ end_of Q n
  unfolding end_of
  ends_same = sent_by Output (λ P m. if is_transferring P n m && (moved_bytes P n == message_size P n) then Some (Ended n m) else None)
      (λ m e. rw (transferring m, it.bytes, size P Q n it.call) refl)

  pub aborts_same : abort_send P n ≡ abort_send Q n
  unfolding abort_send
  aborts_same = sent_by Output (λ P m. if is_transferring P n m then Some (Aborted n m (moved_bytes P n)) else None)
      (λ m e. rw (transferring m, it.bytes) refl)

  left_sending : left_sender_code P n ≡ left_sender_code Q n
  unfolding left_sender_code is_left
  left_sending = sent_by ℕ (λ P m. if not (is_over P n) && not (list_any (ends n m) P) && has_broken P (caller_of P m) then Some (failure_code Send kind.Aborted (moved_bytes P n)) else None)
      (λ m e. rw (agree.over n, it.ended m, (agree.receivers n m o e).broken, it.bytes) refl)

  left_receiving : left_receiver_code P n ≡ left_receiver_code Q n
  unfolding left_receiver_code is_left
  left_receiving = taken_by ℕ (λ P k. if not (is_over P n) && not (list_any (ends k n) P) && has_broken P (caller_of P k) then Some (failure_code Receive kind.Aborted (moved_bytes P k)) else None)
      (λ k e. let other = agree.senders n k o e in rw (agree.over n, it.got k, other.broken, other.bytes) refl)

  send_gone : is_send_partner_gone P n ≡ is_send_partner_gone Q n
  unfolding is_send_partner_gone
  send_gone = rw (sending, to P Q n it.call, caller P Q n it.call, agree.live (to_of Q n)) refl

  receive_gone : is_receive_partner_gone P n ≡ is_receive_partner_gone Q n
  unfolding is_receive_partner_gone
  receive_gone = rw (receiving, it.wanted, agree.live (from_specifier Q n)) refl

  pub gone_same : partner_gone_of P n ≡ partner_gone_of Q n
  unfolding partner_gone_of partner_gone_code
  gone_same = rw (send_gone, receive_gone, left_sending, left_receiving) refl

  due_same : is_due P n ≡ is_due Q n
  unfolding is_due is_due_at
  due_same = rw (sending, receiving, agree.moment, it.begun, it.started, send_period P Q n it.call, receive_period P Q n it.call) refl

  pub timeout_same : timeout_of P n ≡ timeout_of Q n
  unfolding timeout_of
  timeout_same = rw (due_same, sending) refl

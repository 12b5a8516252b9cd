-- The next_output means what `Means` says.
use Rattle.std.proofs.Common.{◌≡◌, refl, ℕ, ◌&&◌, ◌==◌, eqb-true, List, Some, find}
use Rattle.std.proofs.lemmas.Bool.{cond_both}
use Rattle.ipc_words.specs.Control.{stops_receive, stops_send}
use Rattle.ipc_items.specs.Fit.{overflow_offset}
use Rattle.ipc_history.specs.Words.{last}
use Rattle.ipc_history.specs.Calls.{numbers, caller_of, strings_of, buffers_of, message_size}
use Rattle.ipc_history.specs.Threads.{is_live, space_of}
use Rattle.ipc_history.specs.Phases.{receiver_of, sender_of, open_call, is_sending, is_transferring, is_receiving, moved_bytes}
use Rattle.ipc_history.specs.Matching.{shown_sender, from_specifier, matches, match_of}
use Rattle.ipc_history.specs.Timing.{is_due}
use Rattle.ipc_history.specs.NextOutput.{abort_send, abort_receive, stop_send, stop_receive, stop, stop_after, turn_after, end_of, is_send_partner_gone, is_receive_partner_gone, is_left, left_sender_code, left_receiver_code, partner_gone_code, partner_gone_of, meeting, meeting_of, timeout_of, next_output}
use Rattle.ipc_laws.specs.Meaning.{Means, WhyFailed}
use Rattle.ipc_laws.specs.Meaning.WhyFailed.{StoppedSend, StoppedReceive, SendPartnerGone, ReceivePartnerGone, LeftSender, LeftReceiver, DueSend, DueReceive}
use Rattle.ipc_history.specs.declared.entry.Entry.{Entry}
use Rattle.ipc_history.specs.declared.entry.Entry.TheVariants.{Given, Written}
use Rattle.ipc_history.specs.declared.entry.Input.TheVariants.{Exreg}
use Rattle.ipc_history.specs.declared.entry.Output.{Output}
use Rattle.ipc_history.specs.declared.entry.Output.TheVariants.{Began, Overflowed}
use Rattle.ipc_laws.proofs.Gives.{Gives, Gives-and_then, Gives-at, Gives-find, Gives-first, Gives-if, Gives-map, Gives-or, map_or_cases}
use Rattle.ipc_laws.proofs.Tests.{left, right}
use Rattle.ipc_laws.proofs.Gives.Gives.{Nothing, This}

module _ (P : List Entry) where
  abort_send_means : (n : ℕ) → Gives (Means P) (abort_send P n)
  unfolding abort_send
  abort_send_means n = Gives-and_then _ (receiver_of P n) (λ m e. Gives-if (is_transferring P n m) _ _ (λ p. This (p, refl)) (λ q. Nothing))

  abort_receive_means : (m : ℕ) → Gives (Means P) (abort_receive P m)
  unfolding abort_receive
  abort_receive_means m = Gives-and_then _ (sender_of P m) (λ n e. Gives-if (is_transferring P n m) _ _ (λ p. This (p, refl)) (λ q. Nothing))

  stop_means : (control c : ℕ) → Gives (Means P) (stop P control c)
  unfolding stop stop_send stop_receive
  stop_means control c = Gives-or
      (Gives-if (stops_send control) _ _ (λ s. Gives-if (is_sending P c) _ _ (λ p. This (StoppedSend p refl)) (λ q. abort_send_means c)) (λ q. Nothing))
      (Gives-if (stops_receive control) _ _ (λ s. Gives-if (is_receiving P c) _ _ (λ p. This (StoppedReceive p refl)) (λ q. abort_receive_means c)) (λ q. Nothing))

  stop_after_means : (e : Entry) → Gives (Means P) (stop_after P e)
  unfolding stop_after
  stop_after_means (Given (Exreg thread target control)) = Gives-if (is_live P target && (space_of P target == space_of P thread)) _ _ (λ p. Gives-and_then _ (open_call P target) (λ c e. stop_means control c)) (λ q. Nothing)
  stop_after_means _ = Nothing

  turn_after_means : (e : Entry) → last P ≡ Some e → Gives (Means P) (turn_after P e)
  unfolding turn_after
  turn_after_means (Written (Began n m)) is_last = Gives-if (shown_sender P n == caller_of P n) _ _ (λ p. Nothing) (λ q. Gives-and_then _ (open_call P (shown_sender P n)) (λ r o. Gives-if (is_receiving P r && (from_specifier P r == caller_of P n)) _ _ (λ p. This (left _ _ p, (n, m, is_last, o, eqb-true _ _ (right _ _ p), refl))) (λ q. Nothing)))
  turn_after_means _ is_last = Nothing

  end_means : (n : ℕ) → Gives (Means P) (end_of P n)
  unfolding end_of
  end_means n = Gives-and_then _ (receiver_of P n) (λ m e. Gives-if (is_transferring P n m && (moved_bytes P n == message_size P n)) _ _ (λ p. This (left _ _ p, eqb-true _ _ (right _ _ p))) (λ q. Nothing))

  left_sender_means : (n : ℕ) → Gives (WhyFailed P n) (left_sender_code P n)
  unfolding left_sender_code
  left_sender_means n = Gives-and_then _ (receiver_of P n) (λ m e. Gives-if (is_left P n n m m) _ _ (λ p. This (LeftSender m e p refl)) (λ q. Nothing))

  left_receiver_means : (m : ℕ) → Gives (WhyFailed P m) (left_receiver_code P m)
  unfolding left_receiver_code
  left_receiver_means m = Gives-and_then _ (sender_of P m) (λ n e. Gives-if (is_left P m n m n) _ _ (λ p. This (LeftReceiver n e p refl)) (λ q. Nothing))

  partner_gone_code_means : (n : ℕ) → Gives (WhyFailed P n) (partner_gone_code P n)
  unfolding partner_gone_code
  partner_gone_code_means n = Gives-if (is_send_partner_gone P n) _ _ (λ p. This (SendPartnerGone p refl)) (λ q. Gives-if (is_receive_partner_gone P n) _ _ (λ p. This (ReceivePartnerGone p refl)) (λ q. Gives-or (left_sender_means n) (left_receiver_means n)))

  partner_gone_means : (n : ℕ) → Gives (Means P) (partner_gone_of P n)
  unfolding partner_gone_of
  partner_gone_means n = Gives-map _ (partner_gone_code P n) (λ code e. Gives-at (partner_gone_code P n) code (partner_gone_code_means n) e)

  meeting_means : (n : ℕ) → Gives (Means P) (meeting_of P n)
  unfolding meeting_of match_of meeting
  meeting_means n = Gives-map _ (find (matches P n) (numbers P)) (λ m e. let p = Gives-at _ m (Gives-find (matches P n) (numbers P)) e in map_or_cases (Means P) (λ offset. Overflowed n m offset) (overflow_offset (strings_of P n) (buffers_of P m)) (Began n m) (λ fits. (p, fits)) (λ offset at. (p, at)))

  timeout_means : (n : ℕ) → Gives (Means P) (timeout_of P n)
  unfolding timeout_of
  timeout_means n = Gives-if (is_due P n) _ _ (λ p. This (cond_both (is_sending P n) 0x2 0x3 (λ code. WhyFailed P n code) (λ s. DueSend p s refl) (λ s. DueReceive p s refl))) (λ q. Nothing)

  next_output_gives : Gives (Means P) (next_output P)
  unfolding next_output
  next_output_gives = Gives-or (Gives-and_then _ (last P) (λ e l. stop_after_means e)) (Gives-or (Gives-and_then _ (last P) (λ e l. turn_after_means e l)) (Gives-or (Gives-first _ (numbers P) end_means) (Gives-or (Gives-first _ (numbers P) partner_gone_means) (Gives-or (Gives-first _ (numbers P) meeting_means) (Gives-first _ (numbers P) timeout_means)))))

  pub next_output_means : (output : Output) → next_output P ≡ Some output → Means P output
  next_output_means output e = Gives-at (next_output P) output next_output_gives e

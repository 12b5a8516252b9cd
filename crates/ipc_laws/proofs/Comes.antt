-- What comes after an input: what an ExchangeRegisters stops, else an output of the later rules,
-- which says why it comes.
use Rattle.std.proofs.Common.{◌≡◌, refl, ℕ, ◌&&◌, ◌==◌, eqb-true, List, [], ◌∷◌, ◌++◌, Option, Some, None, option_and_then, ◌⊎◌, inl, inr, find}
use Rattle.std.specs.Option.{option_or}
use Rattle.ipc_history.specs.Words.{first_some, last}
use Rattle.ipc_history.specs.Calls.{numbers, message_size}
use Rattle.ipc_history.specs.Phases.{receiver_of, sender_of, is_transferring, moved_bytes}
use Rattle.ipc_history.specs.Matching.{matches, match_of}
use Rattle.ipc_history.specs.Timing.{is_due}
use Rattle.ipc_history.specs.NextOutput.{stop_after, turn_after, end_of, is_send_partner_gone, is_receive_partner_gone, is_left, left_sender_code, left_receiver_code, partner_gone_code, partner_gone_of, meeting_of, timeout_of, next_output}
use Rattle.ipc_history.specs.declared.entry.Entry.{Entry}
use Rattle.ipc_history.specs.declared.entry.Entry.TheVariants.{Given}
use Rattle.ipc_history.specs.declared.entry.Input.{Input}
use Rattle.ipc_history.specs.declared.entry.Output.{Output}
use Rattle.ipc_history.specs.declared.entry.Output.TheVariants.{Failed}
use Rattle.ipc_laws.specs.Locality.{Possible}
use Rattle.ipc_laws.specs.Locality.Possible.{Ends, LosesReceiver, LosesSender, LeftSending, LeftReceiving, Meets, Expires}
use Rattle.ipc_laws.proofs.Gives.{Gives, Gives-and_then, Gives-at, Gives-find, Gives-first, Gives-if, Gives-map, Gives-or}
use Rattle.ipc_laws.proofs.Gives.Gives.{Nothing, This}
use Rattle.ipc_laws.proofs.Tests.{left, right}
use Rattle.ipc_laws.proofs.WordLemmas.{last_some_push}

-- the rules that look at the calls alone, in their order
abbrev pub later_output : List Entry → Option Output
later_output P = option_or (first_some (end_of P) (numbers P)) (option_or (first_some (partner_gone_of P) (numbers P)) (option_or (first_some (meeting_of P) (numbers P)) (first_some (timeout_of P) (numbers P))))

-- after an input nothing turns
pub after_input : (P : List Entry) (input : Input) → next_output (P ++ Given input ∷ []) ≡ option_or (stop_after (P ++ Given input ∷ []) (Given input)) (later_output (P ++ Given input ∷ []))
unfolding next_output turn_after
after_input P input = rw (last_some_push {Y = Entry} (λ e. Some e) P (Given input)) refl

-- the first of two, or the second
first_or : (a b : Option Output) (output : Output) → option_or a b ≡ Some output → (a ≡ Some output) ⊎ (b ≡ Some output)
first_or None b output h = inr h
first_or (Some x) b output h = inl h

module _ (P : List Entry) where
  end_comes : (n : ℕ) → Gives (Possible P) (end_of P n)
  unfolding end_of
  end_comes n = Gives-and_then _ (receiver_of P n) (λ m e. Gives-if (is_transferring P n m && (moved_bytes P n == message_size P n)) _ _ (λ p. This (Ends n m (left _ _ p) (eqb-true _ _ (right _ _ p)) refl)) (λ q. Nothing))

  -- a code that n fails with, since a partner is gone
  abbrev FailureIs : ℕ → ℕ → Type 0
  FailureIs n code = Possible P (Failed n code)

  left_sender_comes : (n : ℕ) → Gives (FailureIs n) (left_sender_code P n)
  unfolding left_sender_code
  left_sender_comes n = Gives-and_then _ (receiver_of P n) (λ m e. Gives-if (is_left P n n m m) _ _ (λ p. This (LeftSending n m e p refl)) (λ q. Nothing))

  left_receiver_comes : (n : ℕ) → Gives (FailureIs n) (left_receiver_code P n)
  unfolding left_receiver_code
  left_receiver_comes n = Gives-and_then _ (sender_of P n) (λ k e. Gives-if (is_left P n k n k) _ _ (λ p. This (LeftReceiving n k e p refl)) (λ q. Nothing))

  partner_gone_code_comes : (n : ℕ) → Gives (FailureIs n) (partner_gone_code P n)
  unfolding partner_gone_code
  partner_gone_code_comes n = Gives-if (is_send_partner_gone P n) _ _ (λ p. This (LosesReceiver n p refl)) (λ q. Gives-if (is_receive_partner_gone P n) _ _ (λ p. This (LosesSender n p refl)) (λ q. Gives-or (left_sender_comes n) (left_receiver_comes n)))

  partner_gone_comes : (n : ℕ) → Gives (Possible P) (partner_gone_of P n)
  unfolding partner_gone_of
  partner_gone_comes n = Gives-map _ (partner_gone_code P n) (λ code e. Gives-at (partner_gone_code P n) code (partner_gone_code_comes n) e)

  meeting_comes : (n : ℕ) → Gives (Possible P) (meeting_of P n)
  unfolding meeting_of match_of
  meeting_comes n = Gives-map _ (find (matches P n) (numbers P)) (λ m e. Meets n m (Gives-at _ m (Gives-find (matches P n) (numbers P)) e) refl)

  timeout_comes : (n : ℕ) → Gives (Possible P) (timeout_of P n)
  unfolding timeout_of
  timeout_comes n = Gives-if (is_due P n) _ _ (λ p. This (Expires n p refl)) (λ q. Nothing)

  later_gives : Gives (Possible P) (later_output P)
  later_gives = Gives-or (Gives-first _ (numbers P) end_comes) (Gives-or (Gives-first _ (numbers P) partner_gone_comes) (Gives-or (Gives-first _ (numbers P) meeting_comes) (Gives-first _ (numbers P) timeout_comes)))

  pub comes : (output : Output) → later_output P ≡ Some output → Possible P output
  comes output e = Gives-at (later_output P) output later_gives e

-- so the next output is what an ExchangeRegisters stops, a turn, or such an output
pub next_is_possible : (P : List Entry) (output : Output) → next_output P ≡ Some output → (option_and_then (stop_after P) (last P) ≡ Some output) ⊎ (option_and_then (turn_after P) (last P) ≡ Some output) ⊎ Possible P output
unfolding next_output
next_is_possible P output e = elim (first_or (option_and_then (stop_after P) (last P)) _ output e) [
  | inl stops ↦ inl stops
  | inr rest ↦ inr (elim (first_or (option_and_then (turn_after P) (last P)) _ output rest) [ inl turns ↦ inl turns | inr later ↦ inr (comes P output later) ])
]

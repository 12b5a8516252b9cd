-- An input that touches neither a call nor a thread, an At or an ExchangeRegisters, changes nothing
-- but the moment.
use Rattle.std.proofs.lemmas.List.Folds.{list_any-append}
use Rattle.std.proofs.Common.{◌≡◌, refl, ap, ◌∙◌, ℕ, ◌+◌, true, false, List, [], ◌∷◌, None, unwrap_or, add-zero}
use Rattle.std.specs.List.{list_any}
use Rattle.std.specs.Option.{option_or}
use Rattle.ipc_history.specs.Words.{first_some}
use Rattle.ipc_history.specs.Entries.{breaks, closes, count_in, number_in, opens, space_in, turned_in}
use Rattle.ipc_history.specs.Calls.{call_at, is_called, caller_of, to_of, from_of, strings_of, buffers_of, message_size}
use Rattle.ipc_history.specs.Threads.{has_broken, is_live, space_of}
use Rattle.ipc_history.specs.Phases.{is_over, is_sending, is_transferring, is_receiving, moved_bytes}
use Rattle.ipc_history.specs.Matching.{shown_sender, from_specifier, accepts, matches}
use Rattle.ipc_history.specs.declared.entry.Entry.{Entry}
use Rattle.ipc_history.specs.declared.entry.Entry.TheVariants.{Given}
use Rattle.ipc_history.specs.declared.entry.Input.{Input}
use Rattle.ipc_history.specs.declared.entry.Input.TheVariants.{At, Exreg}
use Rattle.ipc_laws.proofs.Befores.{shown_kept}
use Rattle.ipc_laws.proofs.InputLeaves.{Q, same_ends, same_receiver, same_sender, same_sent}
use Rattle.ipc_laws.proofs.Moving.{moved_push, size_same}
use Rattle.ipc_laws.proofs.Steps.{call_at_push}
use Rattle.ipc_laws.proofs.ThreadChanges.{has_broken_push, is_live_push, or_false}
use Rattle.ipc_laws.proofs.WordLemmas.{first_some_push, last_some_push, option_or_none}

pub record IsIdle (input : Input) : Type 0 where
  pub enters_none : number_in (Given input) ≡ None
  pub copies_none : (n : ℕ) → count_in n (Given input) ≡ 0
  pub opens_none : (t : ℕ) → opens t (Given input) ≡ false
  pub no_space : (t : ℕ) → space_in t (Given input) ≡ None
  pub breaks_none : (t : ℕ) → breaks t (Given input) ≡ false

pub idle_at : (moment : ℕ) → IsIdle (At moment)
idle_at moment = record { enters_none = refl; copies_none = λ n. refl; opens_none = λ t. refl; no_space = λ t. refl; breaks_none = λ t. refl }

pub idle_exreg : (thread target control : ℕ) → IsIdle (Exreg thread target control)
idle_exreg thread target control = record { enters_none = refl; copies_none = λ n. refl; opens_none = λ t. refl; no_space = λ t. refl; breaks_none = λ t. refl }

module _ (P : List Entry) (input : Input) (idle : IsIdle input) where
  same_call : (n : ℕ) → call_at (Q P input) n ≡ call_at P n
  same_call n = call_at_push P (Given input) idle.enters_none n

  pub same_caller : (n : ℕ) → caller_of (Q P input) n ≡ caller_of P n
  unfolding caller_of
  same_caller n = rw (same_call n) refl

  pub same_to : (n : ℕ) → to_of (Q P input) n ≡ to_of P n
  unfolding to_of
  same_to n = rw (same_call n) refl

  same_from : (n : ℕ) → from_of (Q P input) n ≡ from_of P n
  unfolding from_of
  same_from n = rw (same_call n) refl

  pub same_strings : (n : ℕ) → strings_of (Q P input) n ≡ strings_of P n
  unfolding strings_of
  same_strings n = rw (same_call n) refl

  pub same_buffers : (n : ℕ) → buffers_of (Q P input) n ≡ buffers_of P n
  unfolding buffers_of
  same_buffers n = rw (same_call n) refl

  pub same_size : (n : ℕ) → message_size (Q P input) n ≡ message_size P n
  same_size n = size_same P (Q P input) n (same_call n)

  pub same_moved : (n : ℕ) → moved_bytes (Q P input) n ≡ moved_bytes P n
  same_moved n = moved_push P (Given input) n ∙ (ap (λ k. moved_bytes P n + k) (idle.copies_none n) ∙ add-zero (moved_bytes P n))

  pub same_broken : (t : ℕ) → has_broken (Q P input) t ≡ has_broken P t
  same_broken t = has_broken_push P (Given input) t (idle.breaks_none t)

  pub same_live : (t : ℕ) → is_live (Q P input) t ≡ is_live P t
  same_live t = is_live_push P (Given input) t (idle.opens_none t) (idle.breaks_none t)

  pub same_space : (t : ℕ) → space_of (Q P input) t ≡ space_of P t
  unfolding space_of
  same_space t = ap (λ o. unwrap_or o 0) (first_some_push (space_in t) P (Given input) ∙ (ap (λ o. option_or (first_some (space_in t) P) o) (idle.no_space t) ∙ option_or_none _))

  same_closed : (n : ℕ) → list_any (closes n) (Q P input) ≡ list_any (closes n) P
  same_closed n = list_any-append (closes n) P (Given input ∷ []) ∙ or_false _

  pub same_over : (n : ℕ) → is_over (Q P input) n ≡ is_over P n
  unfolding is_over
  same_over n = rw (same_closed n, same_caller n, same_broken (caller_of P n), same_from n, same_sent P input n, same_to n) refl

  pub same_sending : (n : ℕ) → is_sending (Q P input) n ≡ is_sending P n
  unfolding is_sending
  same_sending n = rw (same_to n, same_receiver P input n, same_over n) refl

  pub same_receiving : (n : ℕ) → is_receiving (Q P input) n ≡ is_receiving P n
  unfolding is_receiving
  same_receiving n = rw (same_from n, same_to n, same_sent P input n, same_sender P input n, same_over n) refl

  pub same_transferring : (n k : ℕ) → is_transferring (Q P input) n k ≡ is_transferring P n k
  unfolding is_transferring
  same_transferring n k = rw (same_receiver P input n, same_ends P input n k, same_over n, same_over k) refl

  pub same_from_specifier : (n : ℕ) → from_specifier (Q P input) n ≡ from_specifier P n
  unfolding from_specifier
  same_from_specifier n = rw (last_some_push (turned_in n) P (Given input), same_from n) refl

  same_accepts : (n t : ℕ) → accepts (Q P input) n t ≡ accepts P n t
  unfolding accepts
  same_accepts n t = rw (same_from_specifier n, same_space t, same_caller n, same_space (caller_of P n)) refl

  pub same_matches : (n : ℕ) → is_called P n ≡ true → (k : ℕ) → matches (Q P input) n k ≡ matches P n k
  unfolding matches
  same_matches n c k = rw (same_sending n, same_receiving k, same_to n, same_caller k, same_caller n, shown_kept P (Given input ∷ []) n c, same_accepts k (shown_sender P n)) refl

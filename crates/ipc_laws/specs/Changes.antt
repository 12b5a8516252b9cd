-- What one more entry changes, exactly.
use Rattle.std.specs.Prelude.{◌≡◌, ℕ, ◌+◌, List, [], ◌∷◌, ◌++◌, ◌||◌, ◌&&◌, ◌==◌, unwrap_or, IsTrue, IsFalse}
use Rattle.std.specs.Option.{option_or}
use Rattle.ipc_words.specs.ThreadId.{nilthread}
use Rattle.ipc_history.specs.Entries.{moment_in, opens, breaks, call_in, closes, ends_send}
use Rattle.ipc_history.specs.Entries.{receiver_in, sender_in, turned_in, count_in, names}
use Rattle.ipc_history.specs.Calls.{call_at, is_called, caller_of, from_of}
use Rattle.ipc_history.specs.Threads.{now, was_opened, has_broken}
use Rattle.ipc_history.specs.Phases.{is_sent, receiver_of, sender_of, is_over, is_sending, is_receiving, moved_bytes}
use Rattle.ipc_history.specs.Matching.{from_specifier, shown_sender}
use Rattle.ipc_history.specs.Timing.{is_due_at}
use Rattle.ipc_history.specs.declared.entry.Entry.{Entry}

pub record Changes (P : List Entry) (e : Entry) : Type 0 where
  pub moment : now (P ++ e ∷ []) ≡ unwrap_or (moment_in e) (now P)
  pub opened : (t : ℕ) → was_opened (P ++ e ∷ []) t ≡ (was_opened P t || opens t e)
  pub broken : (t : ℕ) → has_broken (P ++ e ∷ []) t ≡ (has_broken P t || breaks t e)
  pub call : (n : ℕ) → call_at (P ++ e ∷ []) n ≡ option_or (call_at P n) (call_in n e)
  pub receiver : (n : ℕ) → receiver_of (P ++ e ∷ []) n ≡ option_or (receiver_of P n) (receiver_in n e)
  pub sender : (m : ℕ) → sender_of (P ++ e ∷ []) m ≡ option_or (sender_of P m) (sender_in m e)
  pub sent : (n : ℕ) → is_sent (P ++ e ∷ []) n ≡ (is_sent P n || ends_send n e)
  pub bytes : (n : ℕ) → moved_bytes (P ++ e ∷ []) n ≡ moved_bytes P n + count_in n e
  pub wanted : (m : ℕ) → IsTrue (is_called P m) → from_specifier (P ++ e ∷ []) m ≡ unwrap_or (turned_in m e) (from_specifier P m)
  pub over : (n : ℕ) → IsTrue (is_called P n)
      → is_over (P ++ e ∷ []) n
      ≡ (is_over P n || closes n e || breaks (caller_of P n) e
      || ((from_of P n == nilthread) && ends_send n e))

abbrev pub EachEntryChanges : Type 0
EachEntryChanges = (P : List Entry) (e : Entry) → Changes P e

-- a call that an entry doesn't name, and whose caller it doesn't break, stays as it is
pub record Unchanged (P : List Entry) (e : Entry) (x : ℕ) : Type 0 where
  pub call : call_at (P ++ e ∷ []) x ≡ call_at P x
  pub over : is_over (P ++ e ∷ []) x ≡ is_over P x
  pub sending : is_sending (P ++ e ∷ []) x ≡ is_sending P x
  pub receiving : is_receiving (P ++ e ∷ []) x ≡ is_receiving P x
  pub receiver : receiver_of (P ++ e ∷ []) x ≡ receiver_of P x
  pub sender : sender_of (P ++ e ∷ []) x ≡ sender_of P x
  pub bytes : moved_bytes (P ++ e ∷ []) x ≡ moved_bytes P x
  pub sent : is_sent (P ++ e ∷ []) x ≡ is_sent P x
  pub wanted : from_specifier (P ++ e ∷ []) x ≡ from_specifier P x
  pub shown : shown_sender (P ++ e ∷ []) x ≡ shown_sender P x
  pub due : (moment : ℕ) → is_due_at (P ++ e ∷ []) moment x ≡ is_due_at P moment x

abbrev pub OthersUnchanged : Type 0
OthersUnchanged =
    (P : List Entry) (e : Entry) (x : ℕ) → IsTrue (is_called P x) → IsFalse (names x e)
    → IsFalse (breaks (caller_of P x) e) → Unchanged P e x

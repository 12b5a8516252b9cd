-- What one more entry changes, exactly.
use Rattle.std.proofs.lemmas.List.Folds.{list_any-append}
use Rattle.std.proofs.lemmas.List.Sums.{sum_by_push}
use Rattle.std.proofs.Common.{◌≡◌, refl, ap, ◌∙◌, ℕ, ◌+◌, Bool, true, false, ◌||◌, ◌&&◌, ◌==◌, List, [], ◌∷◌, ◌++◌, Option, Some, None, unwrap_or, add-zero, arith}
use Rattle.std.specs.List.{list_any}
use Rattle.std.specs.Option.{option_or}
use Rattle.ipc_words.specs.ThreadId.{nilthread}
use Rattle.ipc_history.specs.Words.{last_some}
use Rattle.ipc_history.specs.Entries.{moment_in, opens, breaks, call_in, closes, ends_send, receiver_in, sender_in, turned_in, count_in, names}
use Rattle.ipc_history.specs.Calls.{call_at, is_called, caller_of, to_of, from_of, send_period_of, receive_period_of}
use Rattle.ipc_history.specs.Threads.{now, was_opened, has_broken}
use Rattle.ipc_history.specs.Phases.{is_sent, receiver_of, sender_of, is_over, is_sending, is_receiving, moved_bytes}
use Rattle.ipc_history.specs.Matching.{from_specifier}
use Rattle.ipc_history.specs.Timing.{is_due_at, is_past}
use Rattle.ipc_laws.specs.Changes.{Changes, Unchanged}
use Rattle.ipc_history.specs.declared.entry.Entry.{Entry}
use Rattle.ipc_history.specs.declared.entry.Entry.TheVariants.{Given, Written}
use Rattle.ipc_history.specs.declared.entry.Input.TheVariants.{Moved}
use Rattle.ipc_history.specs.declared.entry.Output.TheVariants.{Began, Turned, Ended, Overflowed, Aborted, Failed}
use Rattle.ipc_laws.proofs.Befores.{before_call_kept, receive_start_kept, shown_kept}
use Rattle.ipc_laws.proofs.Growth.{call_at_kept, caller_of_kept, from_of_kept, to_of_kept}
use Rattle.ipc_laws.proofs.PhaseParts.{receives_parts}
use Rattle.ipc_laws.proofs.Tests.{neither_left, neither_right}
use Rattle.ipc_laws.proofs.WordLemmas.{first_some_push, last_some_push, option_or_none}

or_last : (a b : Bool) → (a || (b || false)) ≡ (a || b)
or_last a b = grind arith

pub any_push : (p : Entry → Bool) (P : List Entry) (e : Entry) → list_any p (P ++ e ∷ []) ≡ (list_any p P || p e)
any_push p P e = list_any-append p P (e ∷ []) ∙ or_last (list_any p P) (p e)

unwrap_or_or : (a b : Option ℕ) (d : ℕ) → unwrap_or (option_or a b) d ≡ unwrap_or a (unwrap_or b d)
unwrap_or_or None b d = refl
unwrap_or_or (Some x) b d = refl

-- the parts of `is_over`, and what is added to each
over_adds : (a a' b b' f s s' t : Bool) → ((a || a') || (b || b') || (f && ((s || s') || t))) ≡ ((a || b || (f && (s || t))) || a' || b' || (f && s'))
over_adds a a' b b' f s s' t = grind arith

module _ (P : List Entry) (e : Entry) where
  moment : now (P ++ e ∷ []) ≡ unwrap_or (moment_in e) (now P)
  unfolding now
  moment = rw (last_some_push moment_in P e) (unwrap_or_or (moment_in e) (last_some moment_in P) 0)

  opened : (t : ℕ) → was_opened (P ++ e ∷ []) t ≡ (was_opened P t || opens t e)
  unfolding was_opened
  opened t = any_push (opens t) P e

  broken : (t : ℕ) → has_broken (P ++ e ∷ []) t ≡ (has_broken P t || breaks t e)
  unfolding has_broken
  broken t = any_push (breaks t) P e

  sent : (n : ℕ) → is_sent (P ++ e ∷ []) n ≡ (is_sent P n || ends_send n e)
  unfolding is_sent
  sent n = any_push (ends_send n) P e

  call : (n : ℕ) → call_at (P ++ e ∷ []) n ≡ option_or (call_at P n) (call_in n e)
  unfolding call_at
  call n = first_some_push (call_in n) P e

  receiver : (n : ℕ) → receiver_of (P ++ e ∷ []) n ≡ option_or (receiver_of P n) (receiver_in n e)
  unfolding receiver_of
  receiver n = first_some_push (receiver_in n) P e

  sender : (m : ℕ) → sender_of (P ++ e ∷ []) m ≡ option_or (sender_of P m) (sender_in m e)
  unfolding sender_of
  sender m = first_some_push (sender_in m) P e

  bytes : (n : ℕ) → moved_bytes (P ++ e ∷ []) n ≡ moved_bytes P n + count_in n e
  unfolding moved_bytes
  bytes n = sum_by_push (count_in n) P e

  wanted : (m : ℕ) → is_called P m ≡ true → from_specifier (P ++ e ∷ []) m ≡ unwrap_or (turned_in m e) (from_specifier P m)
  unfolding from_specifier
  wanted m c = rw (last_some_push (turned_in m) P e, from_of_kept P (e ∷ []) m c) (unwrap_or_or (turned_in m e) (last_some (turned_in m) P) (from_of P m))

  over : (n : ℕ) → is_called P n ≡ true → is_over (P ++ e ∷ []) n ≡ (is_over P n || closes n e || breaks (caller_of P n) e || ((from_of P n == nilthread) && ends_send n e))
  unfolding is_over
  over n c = rw (any_push (closes n) P e, caller_of_kept P (e ∷ []) n c, broken (caller_of P n), from_of_kept P (e ∷ []) n c, sent n, to_of_kept P (e ∷ []) n c) (over_adds (list_any (closes n) P) (closes n e) (has_broken P (caller_of P n)) (breaks (caller_of P n) e) (from_of P n == nilthread) (is_sent P n) (ends_send n e) (to_of P n == nilthread))

pub changes : (P : List Entry) (e : Entry) → Changes P e
changes P e = record {
  moment = moment P e;
  opened = opened P e;
  broken = broken P e;
  call = call P e;
  receiver = receiver P e;
  sender = sender P e;
  sent = sent P e;
  bytes = bytes P e;
  wanted = wanted P e;
  over = over P e;
}

-- A call that isn't named

pub record Silent (x : ℕ) (e : Entry) : Type 0 where
  pub closes : closes x e ≡ false
  pub sends : ends_send x e ≡ false
  pub receiver : receiver_in x e ≡ None
  pub sender : sender_in x e ≡ None
  pub turned : turned_in x e ≡ None
  pub bytes : count_in x e ≡ 0

silent : (x : ℕ) (e : Entry) → names x e ≡ false → Silent x e
silent x (Given (Moved k count)) h = record { closes = refl; sends = refl; receiver = refl; sender = refl; turned = refl; bytes = rw h refl }
silent x (Written (Began k m)) h = record { closes = refl; sends = refl; receiver = rw (neither_left (k == x) (m == x) h) refl; sender = rw (neither_right (k == x) (m == x) h) refl; turned = refl; bytes = refl }
silent x (Written (Turned m thread)) h = record { closes = refl; sends = refl; receiver = refl; sender = refl; turned = rw h refl; bytes = refl }
silent x (Written (Ended k m)) h = record { closes = neither_right _ _ h; sends = neither_left _ _ h; receiver = refl; sender = refl; turned = refl; bytes = refl }
silent x (Written (Overflowed k m offset)) h = record { closes = h; sends = refl; receiver = refl; sender = refl; turned = refl; bytes = refl }
silent x (Written (Aborted k m count)) h = record { closes = h; sends = refl; receiver = refl; sender = refl; turned = refl; bytes = refl }
silent x (Written (Failed k code)) h = record { closes = h; sends = refl; receiver = refl; sender = refl; turned = refl; bytes = refl }
silent x _ h = record { closes = refl; sends = refl; receiver = refl; sender = refl; turned = refl; bytes = refl }

module _ (P : List Entry) (e : Entry) (x : ℕ) (c : is_called P x ≡ true) (unnamed : names x e ≡ false) (lives : breaks (caller_of P x) e ≡ false) where
  quiet : Silent x e
  quiet = silent x e unnamed

  same_call : call_at (P ++ e ∷ []) x ≡ call_at P x
  same_call = call_at_kept P (e ∷ []) x c

  same_receiver : receiver_of (P ++ e ∷ []) x ≡ receiver_of P x
  same_receiver = receiver P e x ∙ (ap (λ o. option_or (receiver_of P x) o) quiet.receiver ∙ option_or_none _)

  same_sender : sender_of (P ++ e ∷ []) x ≡ sender_of P x
  same_sender = sender P e x ∙ (ap (λ o. option_or (sender_of P x) o) quiet.sender ∙ option_or_none _)

  same_sent : is_sent (P ++ e ∷ []) x ≡ is_sent P x
  same_sent = sent P e x ∙ (ap (λ b. is_sent P x || b) quiet.sends ∙ or_no (is_sent P x))
    where
      or_no : (b : Bool) → (b || false) ≡ b
      or_no b = grind arith

  same_over : is_over (P ++ e ∷ []) x ≡ is_over P x
  same_over = over P e x c ∙ rw (quiet.closes, lives, quiet.sends) (nothing_added (is_over P x) (from_of P x == nilthread))
    where
      nothing_added : (a f : Bool) → (a || false || false || (f && false)) ≡ a
      nothing_added a f = grind arith

  same_sending : is_sending (P ++ e ∷ []) x ≡ is_sending P x
  unfolding is_sending
  same_sending = rw (to_of_kept P (e ∷ []) x c, same_receiver, same_over) refl

  same_receiving : is_receiving (P ++ e ∷ []) x ≡ is_receiving P x
  unfolding is_receiving
  same_receiving = rw (from_of_kept P (e ∷ []) x c, to_of_kept P (e ∷ []) x c, same_sent, same_sender, same_over) refl

  same_bytes : moved_bytes (P ++ e ∷ []) x ≡ moved_bytes P x
  same_bytes = bytes P e x ∙ (ap (λ n. moved_bytes P x + n) quiet.bytes ∙ add-zero (moved_bytes P x))

  same_from_specifier : from_specifier (P ++ e ∷ []) x ≡ from_specifier P x
  same_from_specifier = wanted P e x c ∙ ap (λ o. unwrap_or o (from_specifier P x)) quiet.turned

  -- a phase that waits is due when it was, since what it waits from stays
  same_due : (moment : ℕ) → is_due_at (P ++ e ∷ []) moment x ≡ is_due_at P moment x
  unfolding is_due_at send_period_of receive_period_of
  same_due moment = rw (same_sending, before_call_kept P (e ∷ []) x c, same_call, same_receiving) (where_it_waits (is_receiving P x) _ _ _ (λ r. ap (λ start. is_past moment start (receive_period_of P x)) (receive_start_kept P (e ∷ []) x c (receives_parts P x x r).turned)))
    where
      where_it_waits : (a b c d : Bool) → (a ≡ true → c ≡ d) → (b || (a && c)) ≡ (b || (a && d))
      where_it_waits true b c d h = ap (λ z. b || z) (h refl)
      where_it_waits false b c d h = refl

  pub others_unchanged : Unchanged P e x
  others_unchanged = record {
    call = same_call;
    over = same_over;
    sending = same_sending;
    receiving = same_receiving;
    receiver = same_receiver;
    sender = same_sender;
    bytes = same_bytes;
    sent = same_sent;
    wanted = same_from_specifier;
    shown = shown_kept P (e ∷ []) x c;
    due = same_due;
  }

-- What more entries change. What a call is, and that it is over, stays.
use Rattle.std.proofs.lemmas.List.Folds.{list_any-append}
use Rattle.std.proofs.lemmas.List.Sums.{sum_by-append}
use Rattle.std.proofs.lemmas.Bool.{false≢true}
use Rattle.std.proofs.Common.{◌≡◌, refl, ◌∙◌, ℕ, ◌+◌, Bool, true, false, ◌&&◌, ◌||◌, ◌==◌, List, ◌++◌, Option, Some, None, is_some, arith}
use Rattle.std.specs.Option.{option_or}
use Rattle.std.specs.List.{list_any}
use Rattle.ipc_words.specs.ThreadId.{nilthread}
use Rattle.ipc_history.specs.CallParts.{CallParts}
use Rattle.ipc_history.specs.Entries.{breaks, call_in, closes, ends_send, receiver_in, sender_in, count_in}
use Rattle.ipc_history.specs.Calls.{call_at, is_called, caller_of, to_of, from_of, tag_of, originator_of, words_of, strings_of, buffers_of, message_size}
use Rattle.ipc_history.specs.Threads.{has_broken}
use Rattle.ipc_history.specs.Phases.{is_sent, receiver_of, sender_of, is_over, moved_bytes}
use Rattle.ipc_history.specs.declared.entry.Entry.{Entry}
use Rattle.ipc_laws.proofs.Tests.{neither_right, not_both}
use Rattle.ipc_laws.proofs.WordLemmas.{first_some_append}

-- what is found first, or passes a test, still is
some_kept : {X : Type 0} (a b : Option X) → is_some a ≡ true → option_or a b ≡ a
some_kept None b h = absurd (false≢true h)
some_kept (Some x) b h = refl

some_kept_at : {X : Type 0} (a b : Option X) (x : X) → a ≡ Some x → option_or a b ≡ Some x
some_kept_at None b x h = cc
some_kept_at (Some y) b x h = h

pub any_kept : {X : Type 0} (p : X → Bool) (xs ys : List X) → list_any p xs ≡ true → list_any p (xs ++ ys) ≡ true
any_kept p xs ys h = rw (list_any-append p xs ys, h) refl

module _ (P Q : List Entry) where
  pub call_at_kept : (n : ℕ) → is_called P n ≡ true → call_at (P ++ Q) n ≡ call_at P n
  unfolding is_called call_at
  call_at_kept n h = first_some_append (call_in n) P Q ∙ some_kept _ _ h

  pub is_called_kept : (n : ℕ) → is_called P n ≡ true → is_called (P ++ Q) n ≡ true
  unfolding is_called
  is_called_kept n h = rw (call_at_kept n h) h

  pub caller_of_kept : (n : ℕ) → is_called P n ≡ true → caller_of (P ++ Q) n ≡ caller_of P n
  unfolding caller_of
  caller_of_kept n h = rw (call_at_kept n h)

  pub to_of_kept : (n : ℕ) → is_called P n ≡ true → to_of (P ++ Q) n ≡ to_of P n
  unfolding to_of
  to_of_kept n h = rw (call_at_kept n h)

  pub from_of_kept : (n : ℕ) → is_called P n ≡ true → from_of (P ++ Q) n ≡ from_of P n
  unfolding from_of
  from_of_kept n h = rw (call_at_kept n h)

  pub tag_of_kept : (n : ℕ) → is_called P n ≡ true → tag_of (P ++ Q) n ≡ tag_of P n
  unfolding tag_of
  tag_of_kept n h = rw (call_at_kept n h)

  pub originator_of_kept : (n : ℕ) → is_called P n ≡ true → originator_of (P ++ Q) n ≡ originator_of P n
  unfolding originator_of
  originator_of_kept n h = rw (call_at_kept n h)

  pub words_of_kept : (n : ℕ) → is_called P n ≡ true → words_of (P ++ Q) n ≡ words_of P n
  unfolding words_of
  words_of_kept n h = rw (call_at_kept n h)

  pub strings_of_kept : (n : ℕ) → is_called P n ≡ true → strings_of (P ++ Q) n ≡ strings_of P n
  unfolding strings_of
  strings_of_kept n h = rw (call_at_kept n h)

  pub buffers_of_kept : (n : ℕ) → is_called P n ≡ true → buffers_of (P ++ Q) n ≡ buffers_of P n
  unfolding buffers_of
  buffers_of_kept n h = rw (call_at_kept n h)

  pub size_kept : (n : ℕ) → is_called P n ≡ true → message_size (P ++ Q) n ≡ message_size P n
  unfolding message_size
  size_kept n h = rw (strings_of_kept n h)

  pub receiver_of_kept : (n m : ℕ) → receiver_of P n ≡ Some m → receiver_of (P ++ Q) n ≡ Some m
  unfolding receiver_of
  receiver_of_kept n m h = first_some_append (receiver_in n) P Q ∙ some_kept_at _ _ m h

  pub sender_of_kept : (m n : ℕ) → sender_of P m ≡ Some n → sender_of (P ++ Q) m ≡ Some n
  unfolding sender_of
  sender_of_kept m n h = first_some_append (sender_in m) P Q ∙ some_kept_at _ _ n h

  pub has_broken_kept : (t : ℕ) → has_broken P t ≡ true → has_broken (P ++ Q) t ≡ true
  unfolding has_broken
  has_broken_kept t h = any_kept (breaks t) P Q h

  pub has_broken_append : (t : ℕ) → has_broken (P ++ Q) t ≡ (has_broken P t || has_broken Q t)
  unfolding has_broken
  has_broken_append t = list_any-append (breaks t) P Q

  pub is_sent_kept : (n : ℕ) → is_sent P n ≡ true → is_sent (P ++ Q) n ≡ true
  unfolding is_sent
  is_sent_kept n h = any_kept (ends_send n) P Q h

  pub is_sent_append : (n : ℕ) → is_sent (P ++ Q) n ≡ (is_sent P n || is_sent Q n)
  unfolding is_sent
  is_sent_append n = list_any-append (ends_send n) P Q

  pub moved_append : (n : ℕ) → moved_bytes (P ++ Q) n ≡ moved_bytes P n + moved_bytes Q n
  unfolding moved_bytes
  moved_append n = sum_by-append (count_in n) P Q

over_grows : (a a' b b' f s s' t : Bool) → (a || b || (f && (s || t))) ≡ true → ((a || a') || (b || b') || (f && ((s || s') || t))) ≡ true
over_grows a a' b b' f s s' t h = grind arith

-- what is over stays over, while it is the same call
pub over_stays : (P Q : List Entry) (n : ℕ) → call_at (P ++ Q) n ≡ call_at P n → is_over P n ≡ true → is_over (P ++ Q) n ≡ true
unfolding is_over caller_of from_of to_of
over_stays P Q n same h = rw (list_any-append (closes n) P Q, same, has_broken_append P Q (caller_of P n), is_sent_append P Q n)
    (over_grows (list_any (closes n) P) (list_any (closes n) Q) (has_broken P (caller_of P n)) (has_broken Q (caller_of P n)) (from_of P n == nilthread) (is_sent P n) (is_sent Q n) (to_of P n == nilthread) h)

pub over_kept : (P Q : List Entry) (n : ℕ) → is_called P n ≡ true → is_over P n ≡ true → is_over (P ++ Q) n ≡ true
over_kept P Q n c h = over_stays P Q n (call_at_kept P Q n c) h

-- what isn't over later wasn't over before
pub was_open : (P Q : List Entry) (n : ℕ) → is_called P n ≡ true → is_over (P ++ Q) n ≡ false → is_over P n ≡ false
was_open P Q n c h = go (is_over P n) refl
  where
    go : (b : Bool) → is_over P n ≡ b → is_over P n ≡ false
    go true e = not_both (over_kept P Q n c e) h
    go false e = e

-- a call that isn't over is there, no entry closes it, and its caller hasn't broken
nil_is_over : (a b s : Bool) (f t : ℕ) → f ≡ 0 → t ≡ 0 → (a || b || ((f == 0) && (s || (t == 0)))) ≡ true
nil_is_over a b s f t p q = grind arith

pub open_is_called : (P : List Entry) (n : ℕ) → is_over P n ≡ false → is_called P n ≡ true
unfolding is_called is_over from_of to_of
open_is_called P n h = go (call_at P n) refl
  where
    go : (o : Option (ℕ × CallParts)) → call_at P n ≡ o → is_some (call_at P n) ≡ true
    go None e = not_both (nil_is_over (list_any (closes n) P) (has_broken P (caller_of P n)) (is_sent P n) _ _ (rw e refl) (rw e refl)) h
    go (Some c) e = rw e refl

open_closed : (a b c : Bool) → (a || b || c) ≡ false → (a ≡ false) × (b ≡ false)
open_closed a b c h = grind arith

pub open_is_not_closed : (P : List Entry) (n : ℕ) → is_over P n ≡ false → list_any (closes n) P ≡ false
unfolding is_over
open_is_not_closed P n h = (open_closed _ _ _ h).0

pub open_lives : (P : List Entry) (n : ℕ) → is_over P n ≡ false → has_broken P (caller_of P n) ≡ false
unfolding is_over
open_lives P n h = (open_closed _ _ _ h).1

-- and one of its phases is to come or under way
pub open_phase : (P : List Entry) (n : ℕ) → is_over P n ≡ false → ((from_of P n == nilthread) && (is_sent P n || (to_of P n == nilthread))) ≡ false
unfolding is_over
open_phase P n h = neither_right _ _ h

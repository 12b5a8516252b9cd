-- A call that is over gives no output, so the open ones alone are asked.
use Rattle.std.proofs.Common.{◌≡◌, refl, ℕ, ◌+◌, ◌*◌, ◌==◌, Bool, true, false, not, ◌&&◌, ◌||◌, List, Option, Some, None, is_none, option_and_then, if◌then◌else◌, arith}
use Rattle.std.specs.List.{list_any}
use Rattle.std.specs.Option.{option_map_or}
use Rattle.ipc_words.specs.ThreadId.{nilthread}
use Rattle.ipc_history.specs.Entries.{ends}
use Rattle.ipc_history.specs.Calls.{numbers, caller_of, from_of, to_of, message_size}
use Rattle.ipc_history.specs.Phases.{is_over, is_sent, receiver_of, sender_of, is_sending, is_transferring, is_receiving, moved_bytes}
use Rattle.ipc_history.specs.Matching.{accepts, shown_sender, matches, match_of}
use Rattle.ipc_history.specs.Timing.{is_due_at}
use Rattle.ipc_history.specs.NextOutput.{abort_send, end_of, is_send_partner_gone, is_receive_partner_gone, is_left, left_sender_code, left_receiver_code, partner_gone_code, partner_gone_of, meeting_of}
use Rattle.ipc_history.specs.declared.entry.Entry.{Entry}
use Rattle.ipc_history.specs.declared.entry.Output.TheVariants.{Ended, Aborted}
use Rattle.ipc_laws.specs.Laws.{timeout_at}
use Rattle.ipc_laws.proofs.Finds.{find_nothing}

-- each rule
over_third : (a b c : Bool) → c ≡ true → (a && b && not c) ≡ false
over_third a b c h = grind arith

over_fourth : (a b c d : Bool) → d ≡ true → (a && b && c && not d) ≡ false
over_fourth a b c d h = grind arith

over_mid : (a b c d : Bool) → c ≡ true → (a && b && not c && d) ≡ false
over_mid a b c d h = grind arith

pub over_not_sending : (P : List Entry) (n : ℕ) → is_over P n ≡ true → is_sending P n ≡ false
unfolding is_sending
over_not_sending P n h = over_third (not (to_of P n == nilthread)) (is_none (receiver_of P n)) (is_over P n) h

pub over_not_receiving : (P : List Entry) (n : ℕ) → is_over P n ≡ true → is_receiving P n ≡ false
unfolding is_receiving
over_not_receiving P n h = over_fourth (not (from_of P n == nilthread)) ((to_of P n == nilthread) || is_sent P n) (is_none (sender_of P n)) (is_over P n) h

pub over_not_transferring : (P : List Entry) (n m : ℕ) → is_over P n ≡ true → is_transferring P n m ≡ false
unfolding is_transferring
over_not_transferring P n m h = over_mid (option_map_or (λ k. k == m) (receiver_of P n) false) (not (list_any (ends n m) P)) (is_over P n) (not (is_over P m)) h

never : {X : Type 0} (o : Option ℕ) (test : ℕ → Bool) (f : ℕ → X) → ((m : ℕ) → test m ≡ false) → option_and_then (λ m. if test m then Some (f m) else None) o ≡ None
never None test f h = refl
never (Some m) test f h = rw (h m) refl

and_left : (a b : Bool) → a ≡ false → (a && b) ≡ false
and_left a b h = grind arith

pub over_no_end : (P : List Entry) (n : ℕ) → is_over P n ≡ true → end_of P n ≡ None
unfolding end_of
over_no_end P n h = never (receiver_of P n) (λ m. is_transferring P n m && (moved_bytes P n == message_size P n)) (λ m. Ended n m) (λ m. and_left _ _ (over_not_transferring P n m h))

not_left : (P : List Entry) (n k m other : ℕ) → is_over P n ≡ true → is_left P n k m other ≡ false
unfolding is_left
not_left P n k m other h = rw h refl

pub over_no_partner : (P : List Entry) (n : ℕ) → is_over P n ≡ true → partner_gone_of P n ≡ None
unfolding partner_gone_of partner_gone_code is_send_partner_gone is_receive_partner_gone left_sender_code left_receiver_code
over_no_partner P n h = rw (over_not_sending P n h, over_not_receiving P n h, never (receiver_of P n) (λ m. is_left P n n m m) (λ m. 0xe + 16 * moved_bytes P n) (λ m. not_left P n n m m h), never (sender_of P n) (λ k. is_left P n k n k) (λ k. 0xf + 16 * moved_bytes P k) (λ k. not_left P n k n k h)) refl

pub unsent_no_meeting : (P : List Entry) (n : ℕ) → is_sending P n ≡ false → meeting_of P n ≡ None
unfolding meeting_of match_of matches
unsent_no_meeting P n h = rw (find_nothing (λ m. is_sending P n && is_receiving P m && (to_of P n == caller_of P m) && not (to_of P n == caller_of P n) && accepts P m (shown_sender P n)) (numbers P) (λ m. rw h refl)) refl

pub over_no_meeting : (P : List Entry) (n : ℕ) → is_over P n ≡ true → meeting_of P n ≡ None
over_no_meeting P n h = unsent_no_meeting P n (over_not_sending P n h)

pub over_not_due : (P : List Entry) (moment n : ℕ) → is_over P n ≡ true → is_due_at P moment n ≡ false
unfolding is_due_at
over_not_due P moment n h = rw (over_not_sending P n h, over_not_receiving P n h) refl

pub over_no_due : (P : List Entry) (moment n : ℕ) → is_over P n ≡ true → timeout_at P moment n ≡ None
unfolding timeout_at
over_no_due P moment n h = rw (over_not_due P moment n h) refl

pub over_no_abort : (P : List Entry) (n : ℕ) → is_over P n ≡ true → abort_send P n ≡ None
unfolding abort_send
over_no_abort P n h = never (receiver_of P n) (λ m. is_transferring P n m) (λ m. Aborted n m (moved_bytes P n)) (λ m. over_not_transferring P n m h)

-- Two histories with one compact agree.
use Rattle.std.proofs.Common.{◌≡◌, refl, sym, ap, ◌∙◌, ℕ, ◌==◌, eq-eqb, Bool, true, false, not, ◌&&◌, ◌||◌, List, Option, Some, None, is_some, inl, arith}
use Rattle.std.specs.List.{list_any}
use Rattle.std.specs.Option.{option_map_or}
use Rattle.ipc_words.specs.ThreadId.{version_of}
use Rattle.ipc_words.specs.Version.{next_version_of}
use Rattle.ipc_history.specs.Words.{last_some}
use Rattle.ipc_history.specs.Entries.{names, calls, closes, ends, thread_in}
use Rattle.ipc_history.specs.Calls.{numbers, call_at, is_called, caller_of, to_of, from_of}
use Rattle.ipc_history.specs.Threads.{now, is_live, has_broken, was_opened, space_of, next_version}
use Rattle.ipc_history.specs.Phases.{is_sent, is_over, receiver_of, sender_of, moved_bytes}
use Rattle.ipc_history.specs.Matching.{before_call, from_specifier, is_propagated, shown_sender}
use Rattle.ipc_history.specs.Timing.{receive_start}
use Rattle.ipc_history.specs.Legal.{Legal}
use Rattle.ipc_history.specs.declared.entry.Entry.{Entry}
use Rattle.ipc_history.specs.declared.entry.Entry.TheVariants.{Written}
use Rattle.ipc_history.specs.declared.entry.Output.TheVariants.{Began}
use Rattle.ipc_laws.proofs.Growth.{open_is_called, open_is_not_closed, open_phase}
use Rattle.ipc_laws.proofs.Histories.{called_place, began_place, began_place_of_sender}
use Rattle.ipc_laws.proofs.OneOpen.{number_place}
use Rattle.ipc_laws.proofs.OpenCalls.{caller_lives}
use Rattle.ipc_laws.proofs.Pairing.{pair_called, receiver_of_sender}
use Rattle.ipc_laws.proofs.Places.{any_at}
use Rattle.ipc_compact.specs.Compact.{is_among, kept_calls, further_calls, kept_of, last_version}
use Rattle.ipc_compact.proofs.Reading as reading
use Rattle.ipc_compact.proofs.ThreadReading as threads
use Rattle.ipc_compact.proofs.ShownReading as shown
use Rattle.ipc_compact.proofs.CallReading as there
use Rattle.ipc_compact.proofs.LiveNumbers.{taken_same}
use Rattle.ipc_compact.specs.Agree.{Agree, SameCall, SamePartner, SameCompact}

-- Of one history

pub called_any : (P : List Entry) (n : ℕ) → is_called P n ≡ true → list_any (calls n) P ≡ true
called_any P n c = let made = called_place P n c in any_at (calls n) P _ made.at (eq-eqb n n refl)

pub among_numbers : (P : List Entry) (n : ℕ) → is_called P n ≡ true → is_among n (numbers P) ≡ true
among_numbers P n c = let made = called_place P n c in any_at (λ k. k == n) (numbers P) n (number_place P n made.thread made.call made.at) (eq-eqb n n refl)

pub called_same : (K P : List Entry) (n : ℕ) → call_at K n ≡ call_at P n → is_called P n ≡ true → is_called K n ≡ true
unfolding is_called
called_same K P n e c = ap is_some e ∙ c

second_not : (a b : Bool) → (a && not b) ≡ true → b ≡ false
second_not a b h = grind arith

live_no_broken : (Q : List Entry) (t : ℕ) → is_live Q t ≡ true → has_broken Q t ≡ false
unfolding is_live
live_no_broken Q t h = second_not (was_opened Q t) (has_broken Q t) h

first_true : (a b : Bool) → a ≡ true → (a || b) ≡ true
first_true a b h = grind arith

second_true : (a b : Bool) → b ≡ true → (a || b) ≡ true
second_true a b h = grind arith

both_true : (a b : Bool) → a ≡ true → b ≡ true → (a && b) ≡ true
both_true a b h k = grind arith

module _ (P : List Entry) (taken : List ℕ) (legal : Legal P) where
  pub kept_open : (n : ℕ) → is_over P n ≡ false → is_among n (kept_calls P taken) ≡ true
  kept_open n o = there.open_kept P taken n (among_numbers P n (open_is_called P n o)) o (caller_lives P legal n o)

  receiver_there : (n m : ℕ) → is_over P n ≡ false → receiver_of P n ≡ Some m → there.IsThere P taken m
  receiver_there n m o e =
      there.beside_kept P taken m n (kept_open n o) (among_numbers P m (pair_called P legal n m e).1)
      (any_at (λ e. names m e && names n e) P (Written (Began n m)) (began_place P n m e) (both_true _ _ (second_true (n == m) (m == m) (eq-eqb m m refl)) (first_true (n == n) (m == n) (eq-eqb n n refl))))

  pub sender_there : (n k : ℕ) → is_over P n ≡ false → sender_of P n ≡ Some k → there.IsThere P taken k
  sender_there n k o e =
      there.beside_kept P taken k n (kept_open n o) (among_numbers P k (pair_called P legal k n (receiver_of_sender P legal k n e)).0)
      (any_at (λ e. names k e && names n e) P (Written (Began k n)) (began_place_of_sender P k n e) (both_true _ _ (first_true (k == k) (n == k) (eq-eqb k k refl)) (second_true (k == n) (n == n) (eq-eqb n n refl))))

  pub version_by : (k : ℕ) → next_version P k ≡ next_version_of (last_version P k)
  unfolding next_version last_version
  version_by k = go (last_some (thread_in k) P)
    where
      go : (o : Option ℕ) → option_map_or (λ thread. next_version_of (version_of thread)) o (Some 1) ≡ next_version_of (option_map_or version_of o 0)
      go None = refl
      go (Some t) = refl

-- Of two with one compact

module _ (P Q : List Entry) (one other : List ℕ) (legal : Legal P) (legal' : Legal Q) (same : SameCompact P Q one other) where
  live_same : (t : ℕ) → is_live P t ≡ is_live Q t
  live_same t = sym (threads.live_read P one t) ∙ (ap (λ K. is_live K t) same.kept ∙ threads.live_read Q other t)

  stays_both : (t : ℕ) → threads.stays P one t ≡ true → threads.stays Q other t ≡ true → (has_broken P t ≡ has_broken Q t) × (space_of P t ≡ space_of Q t)
  stays_both t s s' = (
    sym (threads.broken_read P one t s) ∙ (ap (λ K. has_broken K t) same.kept ∙ threads.broken_read Q other t s'),
    sym (threads.space_read P one t s) ∙ (ap (λ K. space_of K t) same.kept ∙ threads.space_read Q other t s'),
  )

  -- a kept call of one is a kept call of the other
  pub kept_both : (n : ℕ) → is_called P n ≡ true → is_among n (kept_calls P one) ≡ true → is_among n (kept_calls Q other) ≡ true
  kept_both n called k =
      let K = kept_of P one in
      let c : is_called K n ≡ true = called_same K P n (reading.call_read P one n k) called in
      let f : is_among n (further_calls Q other) ≡ false = ap (is_among n) (sym same.over) ∙ there.not_further P one n k in
      there.there Q other n (ap (λ K. list_any (calls n) K) (sym same.kept) ∙ called_any K n c) f

-- a kept call of the one
module _ (P Q : List Entry) (one other : List ℕ) (legal : Legal P) (legal' : Legal Q) (same : SameCompact P Q one other) (n : ℕ) (called : is_called P n ≡ true) (k : is_among n (kept_calls P one) ≡ true) where
  pub k' : is_among n (kept_calls Q other) ≡ true
  k' = kept_both P Q one other legal legal' same n called k

  through : {Y : Type 0} (f : List Entry → ℕ → Y) → f (kept_of P one) n ≡ f P n → f (kept_of Q other) n ≡ f Q n → f P n ≡ f Q n
  through f e e' = sym e ∙ (ap (λ K. f K n) same.kept ∙ e')

  call : call_at P n ≡ call_at Q n
  call = through call_at (reading.call_read P one n k) (reading.call_read Q other n k')

  closed : list_any (closes n) P ≡ list_any (closes n) Q
  closed = through (λ K n. list_any (closes n) K) (reading.closed_read P one n k) (reading.closed_read Q other n k')

  sent : is_sent P n ≡ is_sent Q n
  sent = through is_sent (reading.sent_read P one n k) (reading.sent_read Q other n k')

  to : to_of P n ≡ to_of Q n
  to = through to_of (reading.to_read P one n k) (reading.to_read Q other n k')

  from : from_of P n ≡ from_of Q n
  from = through from_of (reading.from_read P one n k) (reading.from_read Q other n k')

  caller : caller_of P n ≡ caller_of Q n
  caller = through caller_of (reading.caller_read P one n k) (reading.caller_read Q other n k')

  pub unbroken : has_broken Q (caller_of Q n) ≡ false
  unbroken = live_no_broken Q (caller_of Q n) (there.kept_lives Q other n k')

  open_other : is_over P n ≡ false → is_over Q n ≡ false
  unfolding is_over
  open_other o = rw (← closed, open_is_not_closed P n o, unbroken, ← from, ← sent, ← to) (open_phase P n o)

  c : list_any (calls n) P ≡ true
  c = called_any P n called

  pub called_there : is_called Q n ≡ true
  called_there = called_same Q P n (sym call) called

  c' : list_any (calls n) Q ≡ true
  c' = called_any Q n called_there

  here : there.IsThere P one n
  here = inl k

  here' : there.IsThere Q other n
  here' = inl k'

  shown_is : shown_sender P n ≡ shown_sender Q n
  shown_is = through shown_sender
      (shown.shown_same P one n (there.called_kept P one n here) (there.shown_stays P one n here) (there.caller_stays P one n here))
      (shown.shown_same Q other n (there.called_kept Q other n here') (there.shown_stays Q other n here') (there.caller_stays Q other n here'))

  space_is : space_of P (shown_sender P n) ≡ space_of Q (shown_sender Q n)
  space_is =
      (stays_both P Q one other legal legal' same (shown_sender P n) (there.shown_stays P one n here) (rw shown_is (there.shown_stays Q other n here'))).1
      ∙ ap (space_of Q) shown_is

  pub same_call : SameCall P Q n
  same_call = record {
    call = call;
    receiver = through receiver_of (reading.receiver_read P one n k) (reading.receiver_read Q other n k');
    sender = through sender_of (reading.sender_read P one n k) (reading.sender_read Q other n k');
    sent = sent;
    bytes = through moved_bytes (reading.bytes_read P one n k) (reading.bytes_read Q other n k');
    wanted = through from_specifier (reading.wanted_read P one n k) (reading.wanted_read Q other n k');
    propagated = through is_propagated
        (shown.propagated_same P one n (there.called_kept P one n here) (there.shown_stays P one n here) (there.caller_stays P one n here))
        (shown.propagated_same Q other n (there.called_kept Q other n here') (there.shown_stays Q other n here') (there.caller_stays Q other n here'));
    shown = shown_is;
    space = space_is;
    begun = through (λ K n. now (before_call K n)) (reading.begun_read P one n k c) (reading.begun_read Q other n k' c');
    started = through receive_start (reading.started_read P one n k c) (reading.started_read Q other n k' c');
    ended = λ m. through (λ K n. list_any (ends n m) K) (reading.ended_read P one n k m) (reading.ended_read Q other n k' m);
    got = λ m. through (λ K n. list_any (ends m n) K) (reading.got_read P one n k m) (reading.got_read Q other n k' m);
  }

-- an open call of the one
module _ (P Q : List Entry) (one other : List ℕ) (legal : Legal P) (legal' : Legal Q) (same : SameCompact P Q one other) (n : ℕ) (o : is_over P n ≡ false) where
  pub still_open : is_over Q n ≡ false
  still_open = open_other P Q one other legal legal' same n (open_is_called P n o) (kept_open P one legal n o) o

  pub same_open : SameCall P Q n
  same_open = same_call P Q one other legal legal' same n (open_is_called P n o) (kept_open P one legal n o)

  partner : (m : ℕ) → there.IsThere P one m → there.IsThere Q other m → SamePartner P Q m
  partner m is is' =
      let by : caller_of P m ≡ caller_of Q m = sym (shown.caller_same P one m (there.called_kept P one m is)) ∙ (ap (λ K. caller_of K m) same.kept ∙ shown.caller_same Q other m (there.called_kept Q other m is')) in
      record {
        caller = by;
        broken = (stays_both P Q one other legal legal' same (caller_of P m) (there.caller_stays P one m is) (rw by (there.caller_stays Q other m is'))).0 ∙ ap (has_broken Q) by;
        bytes = sym (there.bytes_same P one m is) ∙ (ap (λ K. moved_bytes K m) same.kept ∙ there.bytes_same Q other m is');
      }

  pub same_receiver : (m : ℕ) → receiver_of P n ≡ Some m → SamePartner P Q m
  same_receiver m e = partner m (receiver_there P one legal n m o e) (receiver_there Q other legal' n m still_open (sym same_open.receiver ∙ e))

  pub same_sender : (m : ℕ) → sender_of P n ≡ Some m → SamePartner P Q m
  same_sender m e = partner m (sender_there P one legal n m o e) (sender_there Q other legal' n m still_open (sym same_open.sender ∙ e))

turned_round : (P Q : List Entry) (one other : List ℕ) → SameCompact P Q one other → SameCompact Q P other one
turned_round P Q one other same = record { kept = sym same.kept; over = sym same.over; calls = sym same.calls; versions = λ k. sym (same.versions k) }

module _ (P Q : List Entry) (one other : List ℕ) (legal : Legal P) (legal' : Legal Q) (same : SameCompact P Q one other) where
  over_same : (n : ℕ) → is_over P n ≡ is_over Q n
  over_same n = go (is_over P n) refl (is_over Q n) refl
    where
      go : (a : Bool) → is_over P n ≡ a → (b : Bool) → is_over Q n ≡ b → is_over P n ≡ is_over Q n
      go true p true q = p ∙ sym q
      go false p b q = p ∙ sym (still_open P Q one other legal legal' same n p)
      go true p false q = still_open Q P other one legal' legal (turned_round P Q one other same) n q ∙ sym q

  lives : (t : ℕ) → is_live P t ≡ is_live Q t
  lives = live_same P Q one other legal legal' same

  agree : Agree P Q
  agree = record {
    moment = sym (reading.now_read P one) ∙ (ap now same.kept ∙ reading.now_read Q other);
    made = same.calls;
    over = over_same;
    live = lives;
    space = λ t l. (stays_both P Q one other legal legal' same t (threads.lives_stays P one t l) (threads.lives_stays Q other t (sym (lives t) ∙ l))).1;
    taken = taken_same P Q lives;
    version = λ k. version_by P one legal k ∙ (ap next_version_of (same.versions k) ∙ sym (version_by Q other legal' k));
    calls = same_open P Q one other legal legal' same;
    receivers = λ n m o e. same_receiver P Q one other legal legal' same n o m e;
    senders = λ n m o e. same_sender P Q one other legal legal' same n o m e;
  }

pub compact_agrees : (P Q : List Entry) (one other : List ℕ) → Legal P → Legal Q → SameCompact P Q one other → Agree P Q
compact_agrees P Q one other legal legal' same = agree P Q one other legal legal' same

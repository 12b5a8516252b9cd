-- What the phase that is kept of an open call says in the words of the definitions.
use Rattle.std.proofs.lemmas.Bool.{false≢true, true≢false, false_from_ne_true, true_from_ne_false}
use Rattle.std.proofs.Common.{◌≡◌, refl, sym, ap, ◌∙◌, ℕ, ◌==◌, ◌||◌, ◌&&◌, not, eq-eqb, if◌then◌else◌, Bool, true, false, List, Option, Some, None, is_none, arith}
use Rattle.std.specs.List.{list_any}
use Rattle.std.specs.Option.{option_map_or}
use Rattle.ipc_words.specs.ThreadId.{nilthread}
use Rattle.ipc_history.specs.Entries.{ends, closes}
use Rattle.ipc_history.specs.Calls.{caller_of, to_of, from_of}
use Rattle.ipc_history.specs.Threads.{now, is_live, has_broken}
use Rattle.ipc_history.specs.Phases.{is_sent, is_over, receiver_of, sender_of, is_sending, is_receiving, is_transferring, moved_bytes}
use Rattle.ipc_history.specs.Matching.{before_call}
use Rattle.ipc_history.specs.Timing.{before_sent, receive_start}
use Rattle.ipc_history.specs.Legal.{Legal}
use Rattle.ipc_history.specs.declared.entry.Entry.{Entry}
use Rattle.ipc_laws.proofs.Endings.{live_unbroken}
use Rattle.ipc_laws.proofs.Growth.{open_is_not_closed, open_phase, caller_of_kept, to_of_kept, open_is_called}
use Rattle.ipc_laws.proofs.Histories.{began_place, ended_place}
use Rattle.ipc_laws.proofs.Moving.{paired_to}
use Rattle.ipc_laws.proofs.Pairing.{receiver_of_sender}
use Rattle.ipc_laws.proofs.Finds.{absent}
use Rattle.ipc_laws.proofs.OnePhase.{passes_apart, receiver_turned}
use Rattle.ipc_laws.proofs.OpenCalls.{caller_lives}
use Rattle.ipc_laws.proofs.Pairing.{ended_is_sent, meets_at, sent_pair, unsent_unpaired}
use Rattle.ipc_laws.proofs.Tests.{not_both}
use Rattle.ipc_laws.proofs.Together.{receiver_open}
use Rattle.ipc_laws.proofs.Places.{any_at}
use Rattle.ipc_laws.proofs.PhaseParts.{passes_parts}
use Rattle.ipc_threads.specs.Standings.{phase_of, since_of}
use Rattle.ipc_threads.specs.declared.slot.Phase.{Phase}
use Rattle.ipc_threads.specs.declared.slot.Phase.TheVariants.{Sending, Passing, Receiving, Taking}

-- what each phase says
abbrev pub Says : List Entry → ℕ → Phase → Type 0
Says P n Sending = (is_sending P n ≡ true) × (is_receiving P n ≡ false) × (receiver_of P n ≡ None) × (is_sent P n ≡ false)
Says P n (Passing m) = (is_sending P n ≡ false) × (is_receiving P n ≡ false) × (receiver_of P n ≡ Some m) × (is_sent P n ≡ false)
Says P n Receiving = (is_sending P n ≡ false) × (is_receiving P n ≡ true) × (sender_of P n ≡ None) × (((to_of P n == nilthread) || is_sent P n) ≡ true)
Says P n (Taking k by bytes) = (is_sending P n ≡ false) × (is_receiving P n ≡ false) × (sender_of P n ≡ Some k) × (((to_of P n == nilthread) || is_sent P n) ≡ true)

closed_by_end : (P : List Entry) (k n : ℕ) → list_any (ends k n) P ≡ true → list_any (closes n) P ≡ true
closed_by_end P k n h = let at = ended_place P k n h in any_at (closes n) P _ at (eq-eqb n n refl)

module _ (P : List Entry) (legal : Legal P) (n : ℕ) (open_ : is_over P n ≡ false) where
  sending_is : is_sending P n ≡ (not (to_of P n == nilthread) && is_none (receiver_of P n) && true)
  unfolding is_sending
  sending_is = rw open_ refl

  receiving_is : is_receiving P n ≡ (not (from_of P n == nilthread) && ((to_of P n == nilthread) || is_sent P n) && is_none (sender_of P n) && true)
  unfolding is_receiving
  receiving_is = rw open_ refl

  -- where its send phase is done or absent it has a receive phase, and waits not to send
  has_from : ((to_of P n == nilthread) || is_sent P n) ≡ true → (from_of P n == nilthread) ≡ false
  has_from turned = go (from_of P n == nilthread) (to_of P n == nilthread) (is_sent P n) (open_phase P n open_) turned
    where
      go : (f t s : Bool) → (f && (s || t)) ≡ false → (t || s) ≡ true → f ≡ false
      go f t s h g = grind arith

  no_send : ((to_of P n == nilthread) || is_sent P n) ≡ true → (not (to_of P n == nilthread) && is_none (receiver_of P n) && true) ≡ false
  no_send turned = go (to_of P n == nilthread) refl turned (receiver_of P n) refl
    where
      go : (b : Bool) → (to_of P n == nilthread) ≡ b → ((to_of P n == nilthread) || is_sent P n) ≡ true → (o : Option ℕ) → receiver_of P n ≡ o → (not (to_of P n == nilthread) && is_none o && true) ≡ false
      go true e t o g = rw e refl
      go false e t (Some m) g = rw e refl
      go false e t None g = not_both (rw e at t) (unsent_unpaired P legal n g)

  pub phase_says : Says P n (phase_of P n)
  unfolding phase_of
  phase_says = go ((to_of P n == nilthread) || is_sent P n) refl
    where
      split : (t s : Bool) → (t || s) ≡ false → (t ≡ false) × (s ≡ false)
      split false false h = (refl, refl)
      split true s h = absurd (true≢false h)
      split false true h = absurd (true≢false h)

      done : ((to_of P n == nilthread) || is_sent P n) ≡ true → (o : Option ℕ) → sender_of P n ≡ o → Says P n (option_map_or (λ k. Taking k (caller_of P k) (moved_bytes P k)) o Receiving)
      done t None e = (sending_is ∙ no_send t, receiving_is ∙ rw (has_from t, t, e) refl, e, t)
      done t (Some k) e = (sending_is ∙ no_send t, receiving_is ∙ rw (has_from t, t, e) refl, e, t)

      first : (to_of P n == nilthread) ≡ false → is_sent P n ≡ false → (o : Option ℕ) → receiver_of P n ≡ o → Says P n (option_map_or (λ m. Passing m) o Sending)
      first t s None e = (sending_is ∙ rw (t, e) refl, receiving_is ∙ rw (t, s) (never (from_of P n == nilthread) (is_none (sender_of P n))), e, s)
        where
          never : (f g : Bool) → (not f && (false || false) && g && true) ≡ false
          never f g = grind arith
      first t s (Some m) e = (sending_is ∙ rw (t, e) refl, receiving_is ∙ rw (t, s) (never (from_of P n == nilthread) (is_none (sender_of P n))), e, s)
        where
          never : (f g : Bool) → (not f && (false || false) && g && true) ≡ false
          never f g = grind arith

      go : (b : Bool) → ((to_of P n == nilthread) || is_sent P n) ≡ b → Says P n (if b then option_map_or (λ k. Taking k (caller_of P k) (moved_bytes P k)) (sender_of P n) Receiving else option_map_or (λ m. Passing m) (receiver_of P n) Sending)
      go true e = done e (sender_of P n) refl
      go false e = let p = split (to_of P n == nilthread) (is_sent P n) e in first p.0 p.1 (receiver_of P n) refl

  -- when it began to wait
  pub since_sending : is_sent P n ≡ false → since_of P n ≡ now (before_call P n)
  unfolding since_of
  since_sending s = rw s refl

  pub since_receiving : ((to_of P n == nilthread) || is_sent P n) ≡ true → since_of P n ≡ receive_start P n
  unfolding since_of receive_start
  since_receiving turned = go (to_of P n == nilthread) refl (is_sent P n) refl turned
    where
      go : (t : Bool) → (to_of P n == nilthread) ≡ t → (s : Bool) → is_sent P n ≡ s → (t || s) ≡ true → now (if s then before_sent P n else before_call P n) ≡ now (if t then before_call P n else before_sent P n)
      go true e false g h = refl
      go true e true g h = let p = sent_pair P legal n g in not_both e (paired_to P legal n p.0 p.1)
      go false e true g h = refl
      go false e false g h = absurd (false≢true h)

  -- A transfer goes on while the thread that it goes to is live
  pub unended : (m : ℕ) → is_sent P n ≡ false → list_any (ends n m) P ≡ false
  unended m s = false_from_ne_true _ (λ e. not_both (ended_is_sent P n m e) s)

  pub receiver_is : (m : ℕ) → receiver_of P n ≡ Some m → caller_of P m ≡ to_of P n
  receiver_is m pair =
      let at = began_place P n m pair in
      let meets = meets_at P legal n m at in
      let from : caller_of P m ≡ caller_of at.front m = ap (λ l. caller_of l m) at.whole ∙ caller_of_kept at.front _ m (open_is_called at.front m meets.receives.opened) in
      let to : to_of P n ≡ to_of at.front n = ap (λ l. to_of l n) at.whole ∙ to_of_kept at.front _ n (open_is_called at.front n meets.sends.opened) in
      from ∙ (sym meets.same ∙ sym to)

  over_where_dead : (m : ℕ) → receiver_of P n ≡ Some m → is_sent P n ≡ false → is_over P m ≡ not (is_live P (to_of P n))
  over_where_dead m pair s = go (is_live P (to_of P n)) refl
    where
      go : (b : Bool) → is_live P (to_of P n) ≡ b → is_over P m ≡ not b
      go true l = receiver_open P legal n m pair (unended m s) open_ (ap (has_broken P) (receiver_is m pair) ∙ live_unbroken P (to_of P n) l)
      go false d = true_from_ne_false (is_over P m) (λ o. not_both (ap (is_live P) (sym (receiver_is m pair)) ∙ caller_lives P legal m o) d)

  pub passes_where_live : (m : ℕ) → receiver_of P n ≡ Some m → is_sent P n ≡ false → is_transferring P n m ≡ is_live P (to_of P n)
  unfolding is_transferring
  passes_where_live m pair s = rw (pair, unended m s, open_, over_where_dead m pair s, eq-eqb m m refl) (twice (is_live P (to_of P n)))
    where
      twice : (b : Bool) → (true && not false && not false && not (not b)) ≡ b
      twice true = refl
      twice false = refl

  pub passes_not : ((to_of P n == nilthread) || is_sent P n) ≡ true → (m : ℕ) → receiver_of P n ≡ Some m → is_transferring P n m ≡ false
  passes_not turned m pair = false_from_ne_true _ (λ t. let p = passes_parts P n m t in passes_apart P legal n m p.pair p.running turned)

-- what is kept of a call that takes a message
pub taken_is : (P : List Entry) (n k by bytes : ℕ) → phase_of P n ≡ Taking k by bytes → (by ≡ caller_of P k) × (bytes ≡ moved_bytes P k)
unfolding phase_of
taken_is P n k by bytes h = go ((to_of P n == nilthread) || is_sent P n) (sender_of P n) (receiver_of P n) h
  where
    same : (j : ℕ) → Taking j (caller_of P j) (moved_bytes P j) ≡ Taking k by bytes → (by ≡ caller_of P k) × (bytes ≡ moved_bytes P k)
    same j e = let number : j ≡ k = cc in let caller : caller_of P j ≡ by = cc in let count : moved_bytes P j ≡ bytes = cc in (sym caller ∙ ap (caller_of P) number, sym count ∙ ap (moved_bytes P) number)

    go : (b : Bool) (o r : Option ℕ) → (if b then option_map_or (λ k. Taking k (caller_of P k) (moved_bytes P k)) o Receiving else option_map_or (λ m. Passing m) r Sending) ≡ Taking k by bytes → (by ≡ caller_of P k) × (bytes ≡ moved_bytes P k)
    go true (Some j) r e = same j e
    go true None r e = absurd (cc)
    go false o None e = absurd (cc)
    go false o (Some m) e = absurd (cc)

module _ (P : List Entry) (legal : Legal P) (n : ℕ) (open_ : is_over P n ≡ false) where
  -- and before it takes nothing
  pub no_sender_yet : is_sent P n ≡ false → (to_of P n == nilthread) ≡ false → sender_of P n ≡ None
  no_sender_yet s t = absent _ (λ k e. not_both (receiver_turned P legal k n (receiver_of_sender P legal k n e)) (rw (t, s) refl))

  pub taken_running : (k : ℕ) → sender_of P n ≡ Some k → list_any (ends k n) P ≡ false
  taken_running k e = false_from_ne_true _ (λ over. not_both (closed_by_end P k n over) (open_is_not_closed P n open_))

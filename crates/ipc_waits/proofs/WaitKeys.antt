-- The keys of an open call in the words of the definitions.
use Rattle.std.proofs.lemmas.Bool.{false≢true, or_cases}
use Rattle.std.proofs.lemmas.Bool.Decides.{nat_tests}
use Rattle.std.proofs.lemmas.Option.{none-some}
use Rattle.std.proofs.Common.{◌≡◌, refl, sym, ap, ◌∙◌, ℕ, ◌+◌, ◌-◌, ◌^◌, ◌<◌, ◌==◌, ◌&&◌, ◌||◌, eqb-true, if◌then◌else◌, min, nat_le, Bool, true, false, List, Option, Some, None, option_map, arith, inl, inr}
use Rattle.std.specs.Option.{option_map_or}
use Rattle.ipc_words.specs.ThreadId.{anythread, anylocalthread}
use Rattle.ipc_words.specs.Time.{span}
use Rattle.ipc_history.specs.Calls.{caller_of, to_of, send_period_of, receive_period_of}
use Rattle.ipc_history.specs.Threads.{now}
use Rattle.ipc_history.specs.Phases.{is_over, is_sending, is_receiving, is_transferring, receiver_of, sender_of}
use Rattle.ipc_history.specs.Matching.{before_call, from_specifier}
use Rattle.ipc_history.specs.Timing.{is_due_at, is_past, receive_start}
use Rattle.ipc_history.specs.Legal.{Legal}
use Rattle.ipc_history.specs.declared.entry.Entry.{Entry}
use Rattle.ipc_laws.proofs.Moving.{paired_to}
use Rattle.ipc_laws.proofs.PhaseParts.{passes_parts, receives_parts, sends_parts}
use Rattle.ipc_laws.proofs.Tests.{left, not_both, right}
use Rattle.ipc_waits.specs.Finding.{passes_to, sends_to, takes_from, waits_for, watches}
use Rattle.ipc_threads.specs.Standings.{phase_of, standing_of}
use Rattle.ipc_threads.specs.declared.slot.Phase.{Phase}
use Rattle.ipc_threads.specs.declared.slot.Phase.TheVariants.{Sending, Passing, Receiving, Taking}
use Rattle.ipc_threads.specs.declared.slot.Standing.{Standing}
use Rattle.ipc_waits.proofs.Meets.{sending_kept}
use Rattle.ipc_threads.proofs.PhaseFacts.{Says, no_sender_yet, passes_not, phase_says, receiver_is, since_receiving, since_sending, taken_is}
use Rattle.ipc_waits.specs.Keys.{due_under, sends_under, watches_under}

-- the open call n in this phase
abbrev in_phase : List Entry → ℕ → Phase → Standing
in_phase P n p = record (standing_of P n) { phase = p }

kept_in : (P : List Entry) (n : ℕ) (p : Phase) → phase_of P n ≡ p → standing_of P n ≡ in_phase P n p
unfolding standing_of
kept_in P n p e = ap (λ p. in_phase P n p) e

-- a moment below the greatest of 64 bits does not see that an end was cut there
cut : (a b m : ℕ) → m < b → nat_le a m ≡ nat_le (min a b) m
cut a b m h = grind (arith, nat_tests)

past_key : (moment start period : ℕ) → moment < 2 ^ 64 - 1 → is_past moment start period ≡ option_map_or (λ key. nat_le key moment) (option_map (λ micros. min (start + micros) (2 ^ 64 - 1)) (span period)) false
unfolding is_past
past_key moment start period early = go (span period)
  where
    go : (o : Option ℕ) → option_map_or (λ micros. nat_le (start + micros) moment) o false ≡ option_map_or (λ key. nat_le key moment) (option_map (λ micros. min (start + micros) (2 ^ 64 - 1)) o) false
    go None = refl
    go (Some micros) = cut (start + micros) (2 ^ 64 - 1) moment early

-- and whatever the moment, where it is past that end
cut_within : (a b m : ℕ) → nat_le a m ≡ true → nat_le (min a b) m ≡ true
cut_within a b m h = grind (arith, nat_tests)

past_reaches : (moment start period : ℕ) → is_past moment start period ≡ true → option_map_or (λ key. nat_le key moment) (option_map (λ micros. min (start + micros) (2 ^ 64 - 1)) (span period)) false ≡ true
unfolding is_past
past_reaches moment start period h = go (span period) h
  where
    go : (o : Option ℕ) → option_map_or (λ micros. nat_le (start + micros) moment) o false ≡ true → option_map_or (λ key. nat_le key moment) (option_map (λ micros. min (start + micros) (2 ^ 64 - 1)) o) false ≡ true
    go None h = absurd (false≢true h)
    go (Some micros) h = cut_within (start + micros) (2 ^ 64 - 1) moment h

alone : (b : Bool) → (b || false) ≡ b
alone b = grind arith

-- a call that watches a thread is open
pub watches_open : (P : List Entry) (t n : ℕ) → watches P t n ≡ true → is_over P n ≡ false
unfolding watches
watches_open P t n h = elim (or_cases (sends_to P n t || waits_for P n t || passes_to P n t) (takes_from P n t) h) [
  | inl h ↦ elim (or_cases (sends_to P n t || waits_for P n t) (passes_to P n t) h) [
    | inl h ↦ elim (or_cases (sends_to P n t) (waits_for P n t) h) [
      | inl h ↦ (sends_parts P n n (left _ _ h)).opened
      | inr h ↦ (receives_parts P n n (left _ _ h)).opened
    ]
    | inr h ↦ passing (receiver_of P n) h
  ]
  | inr h ↦ taking (sender_of P n) h
]
  where
    passing : (r : Option ℕ) → option_map_or (λ m. is_transferring P n m && (caller_of P m == t)) r false ≡ true → is_over P n ≡ false
    passing None h = absurd (false≢true h)
    passing (Some m) h = (passes_parts P n m (left _ _ h)).opened

    taking : (r : Option ℕ) → option_map_or (λ k. is_transferring P k n && (caller_of P k == t)) r false ≡ true → is_over P n ≡ false
    taking None h = absurd (false≢true h)
    taking (Some k) h = (passes_parts P k n (left _ _ h)).opened_too

module _ (P : List Entry) (legal : Legal P) (n : ℕ) (o : is_over P n ≡ false) where
  pub sends_key : sends_under (standing_of P n) ≡ (if is_sending P n then Some (to_of P n) else None)
  unfolding standing_of
  sends_key = ap (λ b. if b then Some (to_of P n) else None) (sending_kept P legal n o)

  -- Which phase it is

  phase_sends : is_sending P n ≡ true → phase_of P n ≡ Sending
  phase_sends s = go (phase_of P n) refl (phase_says P legal n o)
    where
      go : (p : Phase) → phase_of P n ≡ p → Says P n p → phase_of P n ≡ Sending
      go Sending e h = e
      go (Passing m) e h = not_both s h.0
      go Receiving e h = not_both s h.0
      go (Taking k by bytes) e h = not_both s h.0

  phase_receives : is_receiving P n ≡ true → phase_of P n ≡ Receiving
  phase_receives r = go (phase_of P n) refl (phase_says P legal n o)
    where
      go : (p : Phase) → phase_of P n ≡ p → Says P n p → phase_of P n ≡ Receiving
      go Sending e h = not_both r h.1
      go (Passing m) e h = not_both r h.1
      go Receiving e h = e
      go (Taking k by bytes) e h = not_both r h.1

  phase_passes : (m : ℕ) → is_transferring P n m ≡ true → (k : ℕ) × (phase_of P n ≡ Passing k)
  phase_passes m t = go (phase_of P n) refl (phase_says P legal n o)
    where
      pair : receiver_of P n ≡ Some m
      pair = (passes_parts P n m t).pair

      go : (p : Phase) → phase_of P n ≡ p → Says P n p → (k : ℕ) × (phase_of P n ≡ Passing k)
      go Sending e h = absurd (none-some m (sym h.2 ∙ pair))
      go (Passing k) e h = (k, e)
      go Receiving e h = not_both t (passes_not P legal n o h.3 m pair)
      go (Taking k by bytes) e h = not_both t (passes_not P legal n o h.3 m pair)

  phase_takes : (k : ℕ) → sender_of P n ≡ Some k → (by : ℕ) × (bytes : ℕ) × (phase_of P n ≡ Taking k by bytes)
  phase_takes k from = go (phase_of P n) refl (phase_says P legal n o)
    where
      go : (p : Phase) → phase_of P n ≡ p → Says P n p → (by : ℕ) × (bytes : ℕ) × (phase_of P n ≡ Taking k by bytes)
      go Sending e h = absurd (none-some k (sym (no_sender_yet P legal n o h.3 (sends_parts P n n h.0).named) ∙ from))
      go (Passing m) e h = absurd (none-some k (sym (no_sender_yet P legal n o h.3 (paired_to P legal n m h.2)) ∙ from))
      go Receiving e h = absurd (none-some k (sym h.2 ∙ from))
      go (Taking j by bytes) e h = (by, bytes, e ∙ ap (λ j. Taking j by bytes) (cc (h.2, from)))

  -- Whose end fails it

  sends_watch : (t : ℕ) → sends_to P n t ≡ true → watches_under (standing_of P n) ≡ Some t
  unfolding standing_of
  sends_watch t h = ap watches_under (kept_in P n Sending (phase_sends (left _ _ h))) ∙ ap (λ t. Some t) (eqb-true _ _ (right _ _ h))

  waits_watch : (t : ℕ) → (t == anythread) ≡ false → (t == anylocalthread) ≡ false → waits_for P n t ≡ true → watches_under (standing_of P n) ≡ Some t
  unfolding standing_of
  waits_watch t any local h =
      let same : from_specifier P n ≡ t = eqb-true _ _ (right (is_receiving P n) _ h) in
      ap watches_under (kept_in P n Receiving (phase_receives (left _ _ h))) ∙ rw (same, any, local) refl

  passes_watch : (t : ℕ) → passes_to P n t ≡ true → watches_under (standing_of P n) ≡ Some t
  unfolding standing_of
  passes_watch t h = go (receiver_of P n) refl h
    where
      go : (r : Option ℕ) → receiver_of P n ≡ r → option_map_or (λ m. is_transferring P n m && (caller_of P m == t)) r false ≡ true → watches_under (standing_of P n) ≡ Some t
      go None e h = absurd (false≢true h)
      go (Some m) e h =
          let passing = phase_passes m (left _ _ h) in
          let to : to_of P n ≡ t = sym (receiver_is P legal n o m e) ∙ eqb-true _ _ (right (is_transferring P n m) _ h) in
          ap watches_under (kept_in P n (Passing passing.0) passing.1) ∙ ap (λ t. Some t) to

  takes_watch : (t : ℕ) → takes_from P n t ≡ true → watches_under (standing_of P n) ≡ Some t
  unfolding standing_of
  takes_watch t h = go (sender_of P n) refl h
    where
      go : (r : Option ℕ) → sender_of P n ≡ r → option_map_or (λ k. is_transferring P k n && (caller_of P k == t)) r false ≡ true → watches_under (standing_of P n) ≡ Some t
      go None e h = absurd (false≢true h)
      go (Some k) e h =
          let taking = phase_takes k e in
          let by : taking.0 ≡ t = (taken_is P n k taking.0 taking.1 taking.2).0 ∙ eqb-true _ _ (right (is_transferring P k n) _ h) in
          ap watches_under (kept_in P n (Taking k taking.0 taking.1) taking.2) ∙ ap (λ t. Some t) by

  pub watches_key : (t : ℕ) → (t == anythread) ≡ false → (t == anylocalthread) ≡ false → watches P t n ≡ true → watches_under (standing_of P n) ≡ Some t
  unfolding watches
  watches_key t any local h = elim (or_cases (sends_to P n t || waits_for P n t || passes_to P n t) (takes_from P n t) h) [
    | inl h ↦ elim (or_cases (sends_to P n t || waits_for P n t) (passes_to P n t) h) [
      | inl h ↦ elim (or_cases (sends_to P n t) (waits_for P n t) h) [
        | inl h ↦ sends_watch t h
        | inr h ↦ waits_watch t any local h
      ]
      | inr h ↦ passes_watch t h
    ]
    | inr h ↦ takes_watch t h
  ]

  -- From when it is due

  pub due_key : (moment : ℕ) → moment < 2 ^ 64 - 1 → is_due_at P moment n ≡ option_map_or (λ key. nat_le key moment) (due_under (standing_of P n)) false
  unfolding is_due_at standing_of
  due_key moment early = go (phase_of P n) (phase_says P legal n o)
    where
      go : (p : Phase) → Says P n p → ((is_sending P n && is_past moment (now (before_call P n)) (send_period_of P n)) || (is_receiving P n && is_past moment (receive_start P n) (receive_period_of P n))) ≡ option_map_or (λ key. nat_le key moment) (due_under (in_phase P n p)) false
      go Sending h = rw (h.0, h.1, since_sending P legal n o h.3) (alone _ ∙ past_key moment (now (before_call P n)) (send_period_of P n) early)
      go (Passing m) h = rw (h.0, h.1) refl
      go Receiving h = rw (h.0, h.1, since_receiving P legal n o h.3) (past_key moment (receive_start P n) (receive_period_of P n) early)
      go (Taking k by bytes) h = rw (h.0, h.1) refl

  pub due_reaches : (moment : ℕ) → is_due_at P moment n ≡ true → option_map_or (λ key. nat_le key moment) (due_under (standing_of P n)) false ≡ true
  unfolding is_due_at standing_of
  due_reaches moment due = go (phase_of P n) (phase_says P legal n o)
    where
      go : (p : Phase) → Says P n p → option_map_or (λ key. nat_le key moment) (due_under (in_phase P n p)) false ≡ true
      go Sending h = rw (since_sending P legal n o h.3) (past_reaches moment (now (before_call P n)) (send_period_of P n) (sym (alone _) ∙ rw (h.0, h.1) at due))
      go (Passing m) h = absurd (false≢true (rw (h.0, h.1) at due))
      go Receiving h = rw (since_receiving P legal n o h.3) (past_reaches moment (receive_start P n) (receive_period_of P n) (rw (h.0, h.1) at due))
      go (Taking k by bytes) h = absurd (false≢true (rw (h.0, h.1) at due))

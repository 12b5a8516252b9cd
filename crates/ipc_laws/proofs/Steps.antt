-- Each output lowers the number of steps that are left.
use Rattle.std.proofs.lemmas.Bool.{or_left, or_right}
use Rattle.std.proofs.lemmas.Option.{none-some}
use Rattle.std.proofs.lemmas.List.Folds.{list_any-append}
use Rattle.std.proofs.Common.{◌≡◌, refl, sym, ap, ◌∙◌, ℕ, ◌+◌, ◌<◌, ◌≤◌, zero-le, Bool, true, false, ◌||◌, ◌&&◌, ◌==◌, eq-eqb, if◌then◌else◌, List, [], ◌∷◌, ◌++◌, append_assoc, length, map, Option, Some, None, is_none, sum_by, arith}
use Rattle.std.specs.Option.{option_or}
use Rattle.ipc_words.specs.ThreadId.{nilthread}
use Rattle.ipc_history.specs.Words.{first_some, last}
use Rattle.ipc_history.specs.Entries.{call_in, number_in, closes, receiver_in, sender_in}
use Rattle.ipc_history.specs.Calls.{numbers, call_at, to_of, from_of}
use Rattle.ipc_history.specs.Phases.{is_sent, receiver_of, sender_of, is_over}
use Rattle.ipc_history.specs.NextOutput.{next_output}
use Rattle.ipc_history.specs.Legal.{Legal, Follows}
use Rattle.ipc_laws.specs.Meaning.{Means}
use Rattle.ipc_laws.specs.Counting.{phase_steps, send_steps, receive_steps, steps_left, is_began, turn_left, all_steps_left}
use Rattle.ipc_history.specs.declared.entry.Entry.{Entry}
use Rattle.ipc_history.specs.declared.entry.Entry.TheVariants.{Given, Written}
use Rattle.ipc_history.specs.declared.entry.Input.TheVariants.{Called}
use Rattle.ipc_history.specs.declared.entry.Output.{Output}
use Rattle.ipc_history.specs.declared.entry.Output.TheVariants.{Began, Turned, Ended, Overflowed, Aborted, Failed}
use Rattle.ipc_laws.proofs.Growth.{is_sent_kept, open_is_called, open_phase, over_stays, receiver_of_kept, sender_of_kept}
use Rattle.ipc_laws.proofs.Histories.{called_place, follows_at, legal_front}
use Rattle.ipc_laws.proofs.Numbering.{numbers_push}
use Rattle.ipc_laws.proofs.OneOpen.{number_place}
use Rattle.ipc_laws.proofs.Order.{closed_over}
use Rattle.ipc_laws.proofs.OutputLemmas.{next_output_means}
use Rattle.ipc_laws.proofs.Pairing.{unsent_unpaired}
use Rattle.ipc_laws.proofs.PhaseParts.{Meets, Receives, Sends, failing, failing_open, meets_parts, passes_parts}
use Rattle.ipc_laws.proofs.Places.{Place}
use Rattle.ipc_laws.proofs.Sums.{falls_at, fewer, one_at, one_in, sum_both}
use Rattle.ipc_laws.proofs.WordLemmas.{first_some_push, last_some_push, option_or_none}

-- Phases

pub phase_falls : (d d' u u' : Bool) → (d ≡ true → d' ≡ true) → (u' ≡ true → u ≡ true) → phase_steps d' u' ≤ phase_steps d u
phase_falls d d' u u' p q = grind arith

or_more : (a b c a' c' : Bool) → (a ≡ true → a' ≡ true) → (c ≡ true → c' ≡ true) → (a || b || c) ≡ true → (a' || b || c') ≡ true
or_more a b c a' c' p q h = grind arith

or_more_two : (a b a' : Bool) → (a ≡ true → a' ≡ true) → (a || b) ≡ true → (a' || b) ≡ true
or_more_two a b a' p h = grind arith

still_none : {X : Type 0} (a b : Option X) → ((x : X) → a ≡ Some x → b ≡ Some x) → is_none b ≡ true → is_none a ≡ true
still_none None b k h = refl
still_none (Some x) b k h = rw (k x refl) at h

-- What one more entry leaves as it is, where x stays the call that it was

module _ (P : List Entry) (e : Entry) (x : ℕ) (same : call_at (P ++ e ∷ []) x ≡ call_at P x) where
  pub to_of_same : to_of (P ++ e ∷ []) x ≡ to_of P x
  unfolding to_of
  to_of_same = rw same refl

  pub from_of_same : from_of (P ++ e ∷ []) x ≡ from_of P x
  unfolding from_of
  from_of_same = rw same refl

  pub is_over_same : is_over P x ≡ true → is_over (P ++ e ∷ []) x ≡ true
  is_over_same h = over_stays P (e ∷ []) x same h

  send_falls : send_steps (P ++ e ∷ []) x ≤ send_steps P x
  unfolding send_steps
  send_falls = rw to_of_same (phase_falls _ _ _ _ (or_more (is_over P x) (to_of P x == nilthread) (is_sent P x) _ _ is_over_same (is_sent_kept P (e ∷ []) x)) (still_none (receiver_of P x) _ (receiver_of_kept P (e ∷ []) x)))

  receive_falls : receive_steps (P ++ e ∷ []) x ≤ receive_steps P x
  unfolding receive_steps
  receive_falls = rw from_of_same (phase_falls _ _ _ _ (or_more_two (is_over P x) (from_of P x == nilthread) _ is_over_same) (still_none (sender_of P x) _ (sender_of_kept P (e ∷ []) x)))

  pub steps_fall : steps_left (P ++ e ∷ []) x ≤ steps_left P x
  unfolding steps_left
  steps_fall = omega (arith, send_falls, receive_falls)

-- an entry that enters no call leaves each as it is
no_call_in : (n : ℕ) (e : Entry) → number_in e ≡ None → call_in n e ≡ None
no_call_in n (Given (Called k thread call)) h = absurd (none-some k (sym h))
no_call_in n _ h = refl

pub call_at_push : (P : List Entry) (e : Entry) → number_in e ≡ None → (n : ℕ) → call_at (P ++ e ∷ []) n ≡ call_at P n
unfolding call_at
call_at_push P e h n = first_some_push (call_in n) P e ∙ (ap (λ o. option_or (first_some (call_in n) P) o) (no_call_in n e h) ∙ option_or_none _)

pub call_at_written : (P : List Entry) (o : Output) (n : ℕ) → call_at (P ++ Written o ∷ []) n ≡ call_at P n
call_at_written P o n = call_at_push P (Written o) refl n

pub turn_left_written : (P : List Entry) (o : Output) → turn_left (P ++ Written o ∷ []) ≡ (if is_began (Written o) then 1 else 0)
unfolding turn_left
turn_left_written P o = rw (last_some_push {Y = Entry} (λ e. Some e) P (Written o)) refl

turn_left_began : (P : List Entry) (n m : ℕ) → last P ≡ Some (Written (Began n m)) → turn_left P ≡ 1
unfolding turn_left
turn_left_began P n m e = rw e refl

-- What an output takes

pub over_steps : (P : List Entry) (n : ℕ) → is_over P n ≡ true → steps_left P n ≡ 0
unfolding steps_left send_steps receive_steps
over_steps P n h = rw h refl

some_phase : (f s t u v : Bool) → (f && (s || t)) ≡ false → 1 ≤ phase_steps (false || t || s) u + phase_steps (false || f) v
some_phase f s t u v h = grind arith

pub open_steps : (P : List Entry) (n : ℕ) → is_over P n ≡ false → 1 ≤ steps_left P n
unfolding steps_left send_steps receive_steps
open_steps P n h = rw h (some_phase (from_of P n == nilthread) (is_sent P n) (to_of P n == nilthread) (is_none (receiver_of P n)) (is_none (sender_of P n)) (open_phase P n h))

-- an output that closes an open call takes a step of it
closing : (P : List Entry) (o : Output) (n : ℕ) → is_over P n ≡ false → closes n (Written o) ≡ true → (x : ℕ) → steps_left (P ++ Written o ∷ []) x + one_at n x ≤ steps_left P x
closing P o n h c x = falls_at (steps_left (P ++ Written o ∷ [])) (steps_left P) n x (steps_fall P (Written o) x (call_at_written P o x))
    (let over = closed_over (P ++ Written o ∷ []) n (rw (list_any-append (closes n) P (Written o ∷ [])) (or_right _ _ (or_left _ _ c))) in
    omega (arith, over_steps (P ++ Written o ∷ []) n over, open_steps P n h))

-- an output that begins a transfer takes a step of each of its calls
waits : (P : List Entry) → Legal P → (n : ℕ) → Sends P n → send_steps P n ≡ 2
unfolding send_steps
waits P h n s = rw (s.opened, s.named, unsent_unpaired P h n s.unpaired, s.unpaired) refl

waits_too : (P : List Entry) (m : ℕ) → Receives P m → receive_steps P m ≡ 2
unfolding receive_steps
waits_too P m r = rw (r.opened, r.named, r.unpaired) refl

begun : (done : Bool) → phase_steps done false ≤ 1
begun done = grind arith

some_is_not_none : {X : Type 0} (o : Option X) (x : X) → o ≡ Some x → is_none o ≡ false
some_is_not_none o x e = rw e refl

module _ (P : List Entry) (n m : ℕ) where
  began_send : receiver_of P n ≡ None → send_steps (P ++ Written (Began n m) ∷ []) n ≤ 1
  unfolding send_steps receiver_of
  began_send none = rw (first_some_push (receiver_in n) P (Written (Began n m)), none, eq-eqb n n refl) (begun _)

  began_receive : sender_of P m ≡ None → receive_steps (P ++ Written (Began n m) ∷ []) m ≤ 1
  unfolding receive_steps sender_of
  began_receive none = rw (first_some_push (sender_in m) P (Written (Began n m)), none, eq-eqb m m refl) (begun _)

  beginning : Legal P → Meets P n m → (x : ℕ) → steps_left (P ++ Written (Began n m) ∷ []) x + (one_at n x + one_at m x) ≤ steps_left P x
  unfolding steps_left
  beginning h p x =
      let Q = P ++ Written (Began n m) ∷ [] in
      let s = falls_at (send_steps Q) (send_steps P) n x (send_falls P (Written (Began n m)) x (call_at_written P (Began n m) x)) (omega (arith, waits P h n p.sends, began_send p.sends.unpaired)) in
      let r = falls_at (receive_steps Q) (receive_steps P) m x (receive_falls P (Written (Began n m)) x (call_at_written P (Began n m) x)) (omega (arith, waits_too P m p.receives, began_receive p.receives.unpaired)) in
      omega (arith, s, r)

-- the steps that an output takes, and that they are enough
pub record Takes (P : List Entry) (o : Output) : Type 0 where
  pub taken : ℕ → ℕ
  pub each : (x : ℕ) → steps_left (P ++ Written o ∷ []) x + taken x ≤ steps_left P x
  pub enough : 1 + turn_left (P ++ Written o ∷ []) ≤ sum_by taken (numbers P) + turn_left P

pub number_of_open : (P : List Entry) (n : ℕ) → is_over P n ≡ false → Place (numbers P) n
number_of_open P n h = let made = called_place P n (open_is_called P n h) in number_place P n made.thread made.call made.at

takes_one : (P : List Entry) (o : Output) (n : ℕ) → is_over P n ≡ false → closes n (Written o) ≡ true → is_began (Written o) ≡ false → Takes P o
takes_one P o n h c b = record { taken = one_at n; each = closing P o n h c; enough = (let t = turn_left_written P o in let one = one_in n (numbers P) (number_of_open P n h) in rw (t, b) (omega (arith, one))) }

pub takes : (P : List Entry) → Legal P → (o : Output) → Means P o → Takes P o
takes P h (Began n m) w =
    let p = meets_parts P n m w.0 in
    record {
      taken = λ x. one_at n x + one_at m x;
      each = beginning P n m h p;
      enough =
          (let n_in = one_in n (numbers P) (number_of_open P n p.sends.opened) in
          let m_in = one_in m (numbers P) (number_of_open P m p.receives.opened) in
          rw (turn_left_written P (Began n m)) (omega (arith, n_in, m_in, sum_both (one_at n) (one_at m) (numbers P))));
    }
takes P h (Turned r thread) w =
    let flag = turn_left_began P w.1.0 w.1.1 w.1.2 in
    record {
      taken = λ x. 0;
      each = λ x. omega (arith, steps_fall P (Written (Turned r thread)) x (call_at_written P (Turned r thread) x));
      enough = rw (turn_left_written P (Turned r thread), flag) (omega arith);
    }
takes P h (Ended n m) w = takes_one P (Ended n m) m (passes_parts P n m w.0).opened_too (eq-eqb m m refl) refl
takes P h (Overflowed n m offset) w = takes_one P (Overflowed n m offset) n (meets_parts P n m w.0).sends.opened (or_left _ _ (eq-eqb n n refl)) refl
takes P h (Aborted n m count) w = takes_one P (Aborted n m count) n (passes_parts P n m w.0).opened (or_left _ _ (eq-eqb n n refl)) refl
takes P h (Failed n code) w = takes_one P (Failed n code) n (failing_open P n (failing P n code w)) (eq-eqb n n refl) refl

pub all_steps_fall : (P : List Entry) → Legal P → (o : Output) → next_output P ≡ Some o → all_steps_left (P ++ Written o ∷ []) < all_steps_left P
unfolding all_steps_left
all_steps_fall P h o e =
    let t = takes P h o (next_output_means P o e) in
    let less = fewer (steps_left (P ++ Written o ∷ [])) (steps_left P) t.taken (numbers P) t.each in
    rw (numbers_push P (Written o) refl) (omega (arith, less, t.enough))

-- so many outputs follow, and no more
pub steps_bound : (P : List Entry) (outputs : List Output) → Legal (P ++ map Written outputs) → length outputs ≤ all_steps_left P
unfolding Follows
steps_bound P [] h = zero-le
steps_bound P (o ∷ os) h =
    let h' : Legal ((P ++ Written o ∷ []) ++ map Written os) = rw (append_assoc P (Written o ∷ []) (map Written os)) h in
    let fall = all_steps_fall P (legal_front P _ h) o (follows_at _ h (Written o) (record { front = P; rest = map Written os; whole = refl })) in
    omega (arith, fall, steps_bound (P ++ Written o ∷ []) os h')

-- Which slots an entry changed.
use Rattle.std.proofs.lemmas.Bool.{eqb-false, false≢true, ne_eqb}
use Rattle.std.proofs.lemmas.List.{get_or-set_other}
use Rattle.std.proofs.lemmas.Option.{none-some, same_Some}
use Rattle.std.proofs.Common.{◌≡◌, ◌≢◌, refl, sym, ap, ◌∙◌, ℕ, ◌<◌, ◌==◌, true, false, List, Some, None, slice_set}
use Rattle.ipc_words.specs.Limits.{table_slots}
use Rattle.ipc_history.specs.Phases.{receiver_of}
use Rattle.ipc_history.specs.Matching.{matches}
use Rattle.ipc_history.specs.Legal.{Legal, Follows}
use Rattle.ipc_history.specs.declared.entry.Entry.{Entry}
use Rattle.ipc_history.specs.declared.entry.Entry.TheVariants.{Given, Written}
use Rattle.ipc_history.specs.declared.entry.Input.TheVariants.{Moved}
use Rattle.ipc_history.specs.declared.entry.Output.{Output}
use Rattle.ipc_history.specs.declared.entry.Output.TheVariants.{Began, Turned, Ended, Overflowed, Aborted, Failed}
use Rattle.ipc_laws.proofs.OnePhase.{passes_apart, receiver_turned, sends_apart}
use Rattle.ipc_laws.proofs.OutputLemmas.{next_output_means}
use Rattle.ipc_laws.proofs.PhaseParts.{Passes, meets_parts, passes_parts}
use Rattle.ipc_laws.proofs.Tests.{neither_left, neither_right}
use Rattle.ipc_threads.specs.Changes.{HaveChanged, change_at}
use Rattle.ipc_threads.specs.Slots.{blank, slot_at}
use Rattle.ipc_threads.specs.Steps.{Names, names_two, holds, standing_in}
use Rattle.ipc_threads.specs.Slot.{Slot}
use Rattle.ipc_threads.proofs.MovedSteps.{passes}
use Rattle.ipc_threads.proofs.Tables.{held}

-- no slot was set
pub unchanged : (table : List Slot) → HaveChanged table table (record { first = None; second = None })
unchanged table = record { first = tt; second = tt; apart = λ a b p q. absurd (none-some a p); elsewhere = λ k h. refl }

-- one slot was set
pub one_changed : (table : List Slot) (i : ℕ) (slot : Slot) → i < table_slots → HaveChanged table (slice_set table i slot) (record { first = Some (change_at table i); second = None })
one_changed table i slot within = record {
  first = (within, refl);
  second = tt;
  apart = λ a b p q. absurd (none-some b q);
  elsewhere = λ k h. get_or-set_other table i k slot blank (λ e. eqb-false i k (neither_left (i == k) false h) (sym e));
}

-- two slots were set
pub two_changed : (table : List Slot) (i j : ℕ) (first second : Slot) → i < table_slots → j < table_slots → i ≢ j → HaveChanged table (slice_set (slice_set table i first) j second) (record { first = Some (change_at table i); second = Some (change_at table j) })
two_changed table i j first second within_i within_j apart = record {
  first = (within_i, refl);
  second = (within_j, refl);
  apart = λ a b p q. ne_eqb a.place b.place (λ e. apart (ap (λ c. c.place) (same_Some (change_at table i) a p) ∙ (e ∙ sym (ap (λ c. c.place) (same_Some (change_at table j) b q)))));
  elsewhere = λ k h. get_or-set_other (slice_set table i first) j k second blank (λ e. eqb-false j k (neither_right (i == k) (j == k) h) (sym e)) ∙ get_or-set_other table i k first blank (λ e. eqb-false i k (neither_left (i == k) (j == k) h) (sym e));
}

-- slots that hold two calls are two
pub holders_apart : (table : List Slot) (n m i j : ℕ) → n ≢ m → holds (slot_at table i) n ≡ true → holds (slot_at table j) m ≡ true → i ≢ j
holders_apart table n m i j apart hi hj same =
    let x = held (slot_at table i) n hi in
    let y = held (slot_at table j) m hj in
    apart (sym x.2 ∙ (ap (λ s. s.number) (same_Some x.0 y.0 (sym x.1 ∙ (ap (λ k. standing_in (slot_at table k)) same ∙ y.1))) ∙ y.2))

-- The two calls of an output, and of a copy, are two
module _ (P : List Entry) (legal : Legal P) where
  passing_apart : (n m : ℕ) → Passes P n m → n ≢ m
  passing_apart n m p same = passes_apart P legal n m p.pair p.running (rw same (receiver_turned P legal n m p.pair))

  matching_apart : (n m : ℕ) → matches P n m ≡ true → n ≢ m
  matching_apart n m h same = let p = meets_parts P n m h in sends_apart P legal n p.sends (rw same p.receives.turned)

  pub named_apart : (output : Output) → Follows P (Written output) → (n m : ℕ) → Names output n m → names_two output ≡ true → n ≢ m
  unfolding Follows
  named_apart (Began i j) f n m is two = rw (is.0, is.1) (matching_apart i j (next_output_means P (Began i j) f).0)
  named_apart (Turned i thread) f n m is two = absurd (false≢true two)
  named_apart (Ended i j) f n m is two = rw (is.0, is.1) (passing_apart i j (passes_parts P i j (next_output_means P (Ended i j) f).0))
  named_apart (Overflowed i j offset) f n m is two = rw (is.0, is.1) (matching_apart i j (next_output_means P (Overflowed i j offset) f).0)
  named_apart (Aborted i j count) f n m is two = rw (is.0, is.1) (passing_apart i j (passes_parts P i j (next_output_means P (Aborted i j count) f).0))
  named_apart (Failed i code) f n m is two = absurd (false≢true two)

  pub moved_apart : (n count : ℕ) → Follows P (Given (Moved n count)) → (m : ℕ) → receiver_of P n ≡ Some m → n ≢ m
  moved_apart n count f m pair =
      let p = passes P n count legal f in
      rw (same_Some m p.0 (sym pair ∙ p.1.pair)) (passing_apart n p.0 p.1)

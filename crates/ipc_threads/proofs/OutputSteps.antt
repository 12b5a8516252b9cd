-- What an output makes of the slots: those that hold a call which it names are changed, and no
-- other.
use Rattle.std.proofs.lemmas.Bool.{false_from_ne_true, cases_eq}
use Rattle.std.proofs.lemmas.List.{get_or-set_same, get_or-set_other, length-set}
use Rattle.std.proofs.Common.{is_some, ◌≡◌, ◌≢◌, refl, sym, ap, ◌∙◌, ℕ, ◌+◌, ◌<◌, add-zero, ◌==◌, ◌||◌, ◌&&◌, if◌then◌else◌, Bool, true, false, List, [], ◌∷◌, ◌++◌, length, Some, None, slice_set, ◌⊎◌, inl, inr}
use Rattle.ipc_words.specs.Limits.{table_slots}
use Rattle.ipc_words.specs.ThreadId.{nilthread}
use Rattle.ipc_history.specs.Entries.{names, number_in}
use Rattle.ipc_history.specs.Calls.{caller_of, calls_made}
use Rattle.ipc_history.specs.Phases.{is_over}
use Rattle.ipc_history.specs.Legal.{Legal, Follows}
use Rattle.ipc_history.specs.declared.entry.Entry.{Entry}
use Rattle.ipc_history.specs.declared.entry.Entry.TheVariants.{Written}
use Rattle.ipc_history.specs.declared.entry.Output.{Output}
use Rattle.ipc_history.specs.declared.entry.Output.TheVariants.{Began, Turned, Ended, Overflowed, Aborted, Failed}
use Rattle.ipc_words.specs.ThreadId.{number_of}
use Rattle.ipc_laws.proofs.Changing.{changes}
use Rattle.ipc_laws.proofs.Numbering.{numbers_push}
use Rattle.ipc_laws.proofs.Tests.{neither_left, neither_right}
use Rattle.ipc_laws.proofs.ThreadChanges.{live_threads_push}
use Rattle.ipc_threads.specs.Last.{last_of}
use Rattle.ipc_threads.proofs.LastEntries.{ends_with}
use Rattle.ipc_threads.proofs.LiveSlots.{live_alike, with_call_lives}
use Rattle.ipc_threads.specs.Slots.{Stands, slot_at, slot_of, slot_after, both_after, blank}
use Rattle.ipc_threads.specs.Steps.{call_after, next_phase, with_call, standing_in, holds, held_sender, no_sender, Names, names_two}
use Rattle.ipc_threads.specs.declared.slot.Phase.{Phase}
use Rattle.ipc_threads.specs.declared.slot.Phase.TheVariants.{Sending, Passing, Receiving, Taking}
use Rattle.ipc_threads.specs.Slot.{Slot}
use Rattle.ipc_threads.specs.declared.slot.Standing.{Standing}
use Rattle.ipc_threads.specs.declared.kept.KeptSlots.{KeptSlots}
use Rattle.ipc_threads.proofs.Holders.{call_of_slot, held_somewhere}
use Rattle.ipc_threads.proofs.OutputCalls.{named_only, no_sender_told, sender_told}
use Rattle.ipc_threads.proofs.SlotSteps.{plain_written, slot_step, last_kept}
use Rattle.ipc_threads.proofs.StandingSteps.{IsSender}
use Rattle.ipc_threads.proofs.Tables.{change_none, held, holds_it}

-- A call that an output does not name is left as it is
same_phase : (p : Phase) (caller moved : ℕ) → next_phase None false None (λ k. 0) caller moved p ≡ p
same_phase Sending caller moved = refl
same_phase (Passing m) caller moved = refl
same_phase Receiving caller moved = refl
same_phase (Taking k by bytes) caller moved = ap (Taking k by) (add-zero bytes)

pub same : (s : Standing) (caller moved : ℕ) → record s { moved = s.moved + 0; phase = next_phase None false None (λ k. 0) caller moved s.phase } ≡ s
same s caller moved = rw (add-zero s.moved, same_phase s.phase caller moved) refl

pub no_end : {X : Type 0} (f : Bool) (a b : X) → (if false || (f && false) then a else b) ≡ b
no_end true a b = refl
no_end false a b = refl

leaves : (output : Output) (moment caller moved : ℕ) (s : Standing) → names s.number (Written output) ≡ false → call_after (Written output) moment caller moved s ≡ Some s
leaves (Began k m) moment caller moved s h = rw (neither_left (k == s.number) (m == s.number) h, neither_right (k == s.number) (m == s.number) h) (no_end (s.from == nilthread) None (Some _) ∙ ap (λ s. Some s) (same s caller moved))
leaves (Turned m thread) moment caller moved s h = rw h (no_end (s.from == nilthread) None (Some _) ∙ ap (λ s. Some s) (same s caller moved))
leaves (Ended k m) moment caller moved s h = rw (neither_left (k == s.number) (m == s.number) h, neither_right (k == s.number) (m == s.number) h) (no_end (s.from == nilthread) None (Some _) ∙ ap (λ s. Some s) (same s caller moved))
leaves (Overflowed k m offset) moment caller moved s h = rw h (no_end (s.from == nilthread) None (Some _) ∙ ap (λ s. Some s) (same s caller moved))
leaves (Aborted k m count) moment caller moved s h = rw h (no_end (s.from == nilthread) None (Some _) ∙ ap (λ s. Some s) (same s caller moved))
leaves (Failed k code) moment caller moved s h = rw h (no_end (s.from == nilthread) None (Some _) ∙ ap (λ s. Some s) (same s caller moved))

pub calls_made_kept : (P : List Entry) (e : Entry) → number_in e ≡ None → calls_made (P ++ e ∷ []) ≡ calls_made P
unfolding calls_made
calls_made_kept P e none = ap length (numbers_push P e none)

-- two slots that hold one call are one
pub one_holder : (P : List Entry) (table : List Slot) → ((k : ℕ) → slot_at table k ≡ slot_of P k) → (n i k : ℕ) → holds (slot_at table i) n ≡ true → holds (slot_at table k) n ≡ true → i ≡ k
one_holder P table is n i k a b =
    let x = held (slot_at table i) n a in
    let y = held (slot_at table k) n b in
    let p = call_of_slot P i x.0 (ap standing_in (sym (is i)) ∙ x.1) in
    let q = call_of_slot P k y.0 (ap standing_in (sym (is k)) ∙ y.1) in
    let same : p.thread ≡ q.thread = sym p.caller ∙ (ap (caller_of P) (x.2 ∙ sym y.2) ∙ q.caller) in
    sym p.number ∙ (ap number_of same ∙ q.number)

-- so an open call is held at the place of its caller alone
pub caller_place : (P : List Entry) (slots : KeptSlots) → Legal P → Stands P slots → (n i : ℕ) → is_over P n ≡ false → holds (slot_at slots.table i) n ≡ true → i ≡ number_of (caller_of P n)
caller_place P slots legal stands n i o h = one_holder P slots.table stands.table n i (number_of (caller_of P n)) h (held_somewhere P legal slots.table stands.table n o)

module _ (P : List Entry) (output : Output) (legal : Legal P) (follows : Follows P (Written output)) (slots : KeptSlots) (stands : Stands P slots) (caller moved : ℕ) (from : IsSender P (Written output) legal follows caller moved) where
  abbrev after : Slot → Slot
  after = with_call (call_after (Written output) slots.moment caller moved)

  after_is : (k : ℕ) → after (slot_at slots.table k) ≡ slot_of (P ++ Written output ∷ []) k
  after_is k = rw (stands.table k, stands.moment) (sym (slot_step P (Written output) legal follows (plain_written output) caller moved from k))

  -- a slot that holds no call that is named
  other : (k : ℕ) → ((n : ℕ) → names n (Written output) ≡ true → holds (slot_at slots.table k) n ≡ true → ⊥) → slot_at slots.table k ≡ after (slot_at slots.table k)
  other k apart = sym (change_none (call_after (Written output) slots.moment caller moved) (slot_at slots.table k) (λ s e. leaves output slots.moment caller moved s (false_from_ne_true _ (λ named. apart s.number named (holds_it (slot_at slots.table k) s e)))))

  stands_after : (table : List Slot) → length table ≡ table_slots → ((k : ℕ) → slot_at table k ≡ after (slot_at slots.table k)) → Stands (P ++ Written output ∷ []) (record slots { table = table; last = last_of (Written output) })
  stands_after table size is = record {
    size = size;
    moment = stands.moment ∙ sym ((changes P (Written output)).moment);
    calls_made = stands.calls_made ∙ sym (calls_made_kept P (Written output) refl);
    live = live_alike table slots.table (size ∙ sym stands.size) (λ k. ap (λ slot. is_some slot.live) (is k) ∙ with_call_lives _ (slot_at slots.table k)) ∙ stands.live ∙ sym (live_threads_push P (Written output) refl (λ t. refl) (λ t. refl));
    top = stands.top;
    above = λ k h. last_kept P (Written output) k refl ∙ stands.above k h;
    table = λ k. is k ∙ after_is k;
    last = ends_with P (Written output);
  }

  -- one call is named
  pub one_changes : (n i : ℕ) → ((k : ℕ) → names k (Written output) ≡ true → k ≡ n) → i < table_slots → holds (slot_at slots.table i) n ≡ true → Stands (P ++ Written output ∷ []) (record slots { table = slice_set slots.table i (after (slot_at slots.table i)); last = last_of (Written output) })
  one_changes n i only within h = stands_after (slice_set slots.table i (after (slot_at slots.table i))) (length-set slots.table i _ ∙ stands.size) at
    where
      at : (k : ℕ) → slot_at (slice_set slots.table i (after (slot_at slots.table i))) k ≡ after (slot_at slots.table k)
      at k = elim (cases_eq k i) [ inl e ↦ rw e (get_or-set_same slots.table i _ blank (rw stands.size within)) | inr e ↦ get_or-set_other slots.table i k _ blank e ∙ other k (λ x named holder. e (one_holder P slots.table stands.table n k i (rw (← only x named) holder) h)) ]

  -- two calls are named
  pub two_changes : (n m i j : ℕ) → ((k : ℕ) → names k (Written output) ≡ true → (k ≡ n) ⊎ (k ≡ m)) → i < table_slots → j < table_slots → holds (slot_at slots.table i) n ≡ true → holds (slot_at slots.table j) m ≡ true → Stands (P ++ Written output ∷ []) (record slots { table = slice_set (slice_set slots.table i (after (slot_at slots.table i))) j (after (slot_at slots.table j)); last = last_of (Written output) })
  two_changes n m i j only within_i within_j hi hj = stands_after _ (length-set first j _ ∙ (length-set slots.table i _ ∙ stands.size)) at
    where
      first : List Slot
      first = slice_set slots.table i (after (slot_at slots.table i))

      unnamed : (k : ℕ) → k ≢ i → k ≢ j → (x : ℕ) → names x (Written output) ≡ true → holds (slot_at slots.table k) x ≡ true → ⊥
      unnamed k p q x named h = elim (only x named) [ inl e ↦ p (one_holder P slots.table stands.table n k i (rw (← e) h) hi) | inr e ↦ q (one_holder P slots.table stands.table m k j (rw (← e) h) hj) ]

      before : (k : ℕ) → k ≢ j → slot_at first k ≡ after (slot_at slots.table k)
      before k q = elim (cases_eq k i) [ inl e ↦ rw e (get_or-set_same slots.table i _ blank (rw stands.size within_i)) | inr p ↦ get_or-set_other slots.table i k _ blank p ∙ other k (unnamed k p q) ]

      at : (k : ℕ) → slot_at (slice_set first j (after (slot_at slots.table j))) k ≡ after (slot_at slots.table k)
      at k = elim (cases_eq k j) [ inl e ↦ rw e (get_or-set_same first j (after (slot_at slots.table j)) blank (rw (length-set slots.table i (after (slot_at slots.table i)) ∙ stands.size) within_j)) | inr q ↦ get_or-set_other first j k _ blank q ∙ before k q ]

-- so the changes of the program are right
pub noted_one : (P : List Entry) (output : Output) (slots : KeptSlots) (n i : ℕ) → Legal P → Follows P (Written output) → Stands P slots → Names output n n → names_two output ≡ false → i < table_slots → holds (slot_at slots.table i) n ≡ true → Stands (P ++ Written output ∷ []) (record slots { table = slice_set slots.table i (slot_after output slots no_sender (slot_at slots.table i)); last = last_of (Written output) })
noted_one P output slots n i legal follows stands is alone within h = one_changes P output legal follows slots stands 0 0 (no_sender_told P output legal follows alone 0 0) n i (λ k named. elim (named_only output n n is k named) [ inl e ↦ e | inr e ↦ e ]) within h

pub noted_both : (P : List Entry) (output : Output) (slots : KeptSlots) (n m i j : ℕ) → Legal P → Follows P (Written output) → Stands P slots → Names output n m → i < table_slots → j < table_slots → holds (slot_at slots.table i) n ≡ true → holds (slot_at slots.table j) m ≡ true → Stands (P ++ Written output ∷ []) (record slots { table = both_after output slots i j; last = last_of (Written output) })
noted_both P output slots n m i j legal follows stands is wi wj hi hj =
    let told : IsSender P (Written output) legal follows (held_sender (slot_at slots.table i)).caller (held_sender (slot_at slots.table i)).moved = rw (stands.table i) (sender_told P output legal follows n m i is (rw (← stands.table i) hi)) in
    two_changes P output legal follows slots stands (held_sender (slot_at slots.table i)).caller (held_sender (slot_at slots.table i)).moved told n m i j (named_only output n m is) wi wj hi hj

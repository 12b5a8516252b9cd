-- A transfer that begins and ends: two entries that are taken note of at once.
use Rattle.std.proofs.lemmas.Bool.{cases_eq, ne_eqb}
use Rattle.std.proofs.lemmas.List.{get_or-set_same, get_or-set_other, length-set}
use Rattle.std.proofs.Common.{is_some, ◌≡◌, ◌≢◌, refl, sym, ap, ◌∙◌, subst, ℕ, ◌<◌, ◌==◌, ◌||◌, ◌&&◌, add-zero, eq-eqb, if◌then◌else◌, Bool, true, false, List, [], ◌∷◌, ◌++◌, length, Option, Some, None, option_and_then, option_map, slice_set, inl, inr, arith}
use Rattle.ipc_words.specs.Limits.{table_slots}
use Rattle.ipc_words.specs.ThreadId.{nilthread, number_of}
use Rattle.ipc_history.specs.Calls.{caller_of}
use Rattle.ipc_history.specs.Phases.{is_over}
use Rattle.ipc_history.specs.Legal.{Legal, Follows}
use Rattle.ipc_history.specs.declared.entry.Entry.{Entry}
use Rattle.ipc_history.specs.declared.entry.Entry.TheVariants.{Written}
use Rattle.ipc_history.specs.declared.entry.Output.TheVariants.{Began, Ended}
use Rattle.ipc_laws.proofs.Growth.{caller_of_kept, open_is_called}
use Rattle.ipc_laws.proofs.OutputLemmas.{next_output_means}
use Rattle.ipc_laws.proofs.Pairing.{unsent_unpaired}
use Rattle.ipc_laws.proofs.PhaseParts.{Sends, meets_parts}
use Rattle.ipc_laws.proofs.Settling.{legal_push}
use Rattle.ipc_threads.specs.Changes.{HasNamed, HaveChanged, change_at}
use Rattle.ipc_threads.specs.Last.{last_of}
use Rattle.ipc_threads.specs.Passing.{passed, passed_in, passed_table}
use Rattle.ipc_threads.specs.Slots.{Stands, blank, both_after, slot_at}
use Rattle.ipc_threads.specs.Standings.{phase_of, standing_of}
use Rattle.ipc_threads.specs.Steps.{call_after, called_live, calling, held_sender, holds, live_with, standing_after, standing_in, with_call}
use Rattle.ipc_threads.specs.declared.kept.KeptSlots.{KeptSlots}
use Rattle.ipc_threads.specs.declared.last.Last.TheVariants.{Nothing}
use Rattle.ipc_threads.specs.declared.slot.Live.{Live}
use Rattle.ipc_threads.specs.declared.slot.Phase.TheVariants.{Sending, Passing}
use Rattle.ipc_threads.specs.declared.slot.Standing.{Standing}
use Rattle.ipc_threads.specs.Slot.{Slot}
use Rattle.ipc_threads.proofs.Changed.{holders_apart, named_apart, two_changed}
use Rattle.ipc_threads.proofs.Holders.{held_below, held_somewhere, slot_call}
use Rattle.ipc_threads.proofs.LiveSlots.{live_alike}
use Rattle.ipc_threads.proofs.Naming.{first_at, output_named, second_at}
use Rattle.ipc_threads.proofs.OutputCalls.{both_open}
use Rattle.ipc_threads.proofs.OutputSteps.{caller_place, no_end, noted_both}
use Rattle.ipc_threads.proofs.Recents.{looks}
use Rattle.ipc_threads.proofs.Tables.{held}

-- Two slots that were set
module _ (table : List Slot) (i j : ℕ) (x y : Slot) (wi : i < length table) (wj : j < length table) (apart : i ≢ j) where
  set_first : slot_at (slice_set (slice_set table i x) j y) i ≡ x
  set_first = get_or-set_other (slice_set table i x) j i y blank apart ∙ get_or-set_same table i x blank wi

  set_second : slot_at (slice_set (slice_set table i x) j y) j ≡ y
  set_second = get_or-set_same (slice_set table i x) j y blank (rw (length-set table i x) wj)

  set_beside : (k : ℕ) → k ≢ i → k ≢ j → slot_at (slice_set (slice_set table i x) j y) k ≡ slot_at table k
  set_beside k p q = get_or-set_other (slice_set table i x) j k y blank q ∙ get_or-set_other table i k x blank p

-- A call that two entries change
two_change : (f g : Standing → Option Standing) (last : Option Standing) (slot : Slot) (s : Standing) → standing_in slot ≡ Some s → option_and_then g (f s) ≡ last → with_call g (with_call f slot) ≡ calling last slot
two_change f g last slot s held e = ap (λ l. record slot { live = l }) (go slot.live held)
  where
    go : (o : Option Live) → option_and_then (λ l. l.call) o ≡ Some s → option_map (live_with g) (option_map (live_with f) o) ≡ option_map (called_live last) o
    go None h = refl
    go (Some l) h = ap (λ c. Some (record l { call = c })) (ap (λ c. option_and_then g (option_and_then f c)) h ∙ e)

-- of a waiting send: it passes its message, and then it waits to receive or is over
begun : (n m moment a b : ℕ) (s : Standing) → s.number ≡ n → s.phase ≡ Sending → call_after (Written (Began n m)) moment a b s ≡ Some (record s { phase = Passing m })
begun n m moment a b s number phase = no_end (s.from == nilthread) None (Some _) ∙ ap (λ s. Some s) (rw (phase, number, eq-eqb n n refl, add-zero s.moved) refl)

sent : (n m moment c d : ℕ) (s : Standing) → s.number ≡ n → s.phase ≡ Passing m → (m == n) ≡ false → call_after (Written (Ended n m)) moment c d s ≡ passed moment s
sent n m moment c d s number phase apart = rw (number, apart, phase, eq-eqb n n refl, add-zero s.moved) (go (s.from == nilthread) _)
  where
    go : {X : Type 0} (f : Bool) (x : X) → (if false || (f && true) then None else Some x) ≡ (if f then None else Some x)
    go true x = refl
    go false x = refl

sent_at_once : (n m moment a b c d : ℕ) (s : Standing) → s.number ≡ n → s.phase ≡ Sending → (m == n) ≡ false → option_and_then (call_after (Written (Ended n m)) moment c d) (call_after (Written (Began n m)) moment a b s) ≡ passed moment s
sent_at_once n m moment a b c d s number phase apart = ap (option_and_then (call_after (Written (Ended n m)) moment c d)) (begun n m moment a b s number phase) ∙ sent n m moment c d (record s { phase = Passing m }) number refl apart

-- of the call that it meets: it is over
closed_at_once : (n m moment a b c d : ℕ) (s : Standing) → s.number ≡ m → option_and_then (call_after (Written (Ended n m)) moment c d) (call_after (Written (Began n m)) moment a b s) ≡ None
closed_at_once n m moment a b c d s is = ap (option_and_then (call_after (Written (Ended n m)) moment c d)) (no_end (s.from == nilthread) None (Some (standing_after (Written (Began n m)) moment a b s))) ∙ rw (eq-eqb m s.number (sym is)) refl

-- a call whose send phase waits
sending_phase : (P : List Entry) (n : ℕ) → Legal P → Sends P n → phase_of P n ≡ Sending
unfolding phase_of
sending_phase P n legal sends = rw (sends.named, unsent_unpaired P legal n sends.unpaired, sends.unpaired) refl

-- A call that a slot holds
module _ (P : List Entry) (slots : KeptSlots) (legal : Legal P) (stands : Stands P slots) (k n : ℕ) (h : holds (slot_at slots.table k) n ≡ true) where
  pub held_within : k < table_slots
  held_within = let s = held (slot_at slots.table k) n h in let low = held_below P slots stands k s.0 s.1 in let top = stands.top in omega (arith, low, top)

  pub held_is : (s : Standing) → standing_in (slot_at slots.table k) ≡ Some s → s ≡ standing_of P n
  held_is s e = let is = slot_call P slots stands k n h s e in is.0.is ∙ ap (standing_of P) is.1

  pub held_open : is_over P n ≡ false
  held_open = let s = held (slot_at slots.table k) n h in let is = slot_call P slots stands k n h s.0 s.1 in subst (λ x. is_over P x ≡ false) is.1 is.0.opened

  pub held_place : k ≡ number_of (caller_of P n)
  held_place = caller_place P slots legal stands n k held_open h

module _ (P : List Entry) (n m i j : ℕ) (legal : Legal P) (begins : Follows P (Written (Began n m))) (ends : Follows (P ++ Written (Began n m) ∷ []) (Written (Ended n m))) (slots : KeptSlots) (stands : Stands P slots) (holds_one : holds (slot_at slots.table i) n ≡ true) (holds_two : holds (slot_at slots.table j) m ≡ true) where
  abbrev R : List Entry
  R = P ++ Written (Began n m) ∷ []

  abbrev S : List Entry
  S = R ++ Written (Ended n m) ∷ []

  legal_then : Legal R
  legal_then = legal_push P (Written (Began n m)) legal begins

  pub pass_legal : Legal S
  pass_legal = legal_push R (Written (Ended n m)) legal_then ends

  pub within_first : i < table_slots
  within_first = held_within P slots legal stands i n holds_one

  pub within_second : j < table_slots
  within_second = held_within P slots legal stands j m holds_two

  open_one : (is_over P n ≡ false) × (is_over P m ≡ false)
  open_one = both_open P (Began n m) begins n m (refl, refl)

  open_two : (is_over R n ≡ false) × (is_over R m ≡ false)
  open_two = both_open R (Ended n m) ends n m (refl, refl)

  other : n ≢ m
  other = named_apart P legal (Began n m) begins n m (refl, refl) refl

  apart : i ≢ j
  apart = holders_apart slots.table n m i j other holds_one holds_two

  place_one : i ≡ number_of (caller_of P n)
  place_one = held_place P slots legal stands i n holds_one

  place_two : j ≡ number_of (caller_of P m)
  place_two = held_place P slots legal stands j m holds_two

  -- the slots after each entry
  abbrev first : KeptSlots
  first = record slots { table = both_after (Began n m) slots i j; last = last_of (Written (Began n m)) }

  stands_one : Stands R first
  stands_one = noted_both P (Began n m) slots n m i j legal begins stands (refl, refl) within_first within_second holds_one holds_two

  holds_then : (x k : ℕ) → is_over P x ≡ false → is_over R x ≡ false → k ≡ number_of (caller_of P x) → holds (slot_at first.table k) x ≡ true
  holds_then x k opened still place = subst (λ k. holds (slot_at first.table k) x ≡ true) (ap number_of (caller_of_kept P (Written (Began n m) ∷ []) x (open_is_called P x opened)) ∙ sym place) (held_somewhere R legal_then first.table stands_one.table x still)

  abbrev second : KeptSlots
  second = record first { table = both_after (Ended n m) first i j; last = last_of (Written (Ended n m)) }

  stands_two : Stands S second
  stands_two = noted_both R (Ended n m) first n m i j legal_then ends stands_one (refl, refl) within_first within_second (holds_then n i open_one.0 open_two.0 place_one) (holds_then m j open_one.1 open_two.1 place_two)

  -- and what the program sets at once
  abbrev fused : KeptSlots
  fused = record slots { table = passed_table slots.moment slots.table i j; last = Nothing }

  size_one : length first.table ≡ length slots.table
  size_one = length-set _ j _ ∙ length-set slots.table i _

  size_two : length second.table ≡ length slots.table
  size_two = length-set _ j _ ∙ (length-set first.table i _ ∙ size_one)

  size_fused : length fused.table ≡ length slots.table
  size_fused = length-set _ j _ ∙ length-set slots.table i _

  in_first : i < length slots.table
  in_first = rw stands.size within_first

  in_second : j < length slots.table
  in_second = rw stands.size within_second

  turned : j ≢ i
  turned e = apart (sym e)

  -- what each entry makes of a call
  abbrev begin_it : Standing → Option Standing
  begin_it = call_after (Written (Began n m)) slots.moment (held_sender (slot_at slots.table i)).caller (held_sender (slot_at slots.table i)).moved

  abbrev end_it : Standing → Option Standing
  end_it = call_after (Written (Ended n m)) slots.moment (held_sender (slot_at first.table i)).caller (held_sender (slot_at first.table i)).moved

  sends : Sends P n
  unfolding Follows
  sends = (meets_parts P n m (next_output_means P (Began n m) begins).0).sends

  waits : (s : Standing) → standing_in (slot_at slots.table i) ≡ Some s → (s.number ≡ n) × (s.phase ≡ Sending)
  unfolding standing_of
  waits s e = let is = held_is P slots legal stands i n holds_one s e in (ap (λ s. s.number) is, ap (λ s. s.phase) is ∙ sending_phase P n legal sends)

  here : slot_at fused.table i ≡ slot_at second.table i
  here =
      let of = held (slot_at slots.table i) n holds_one in
      let is = waits of.0 of.1 in
      let left = set_first slots.table i j (calling (passed_in slots.moment (slot_at slots.table i)) (slot_at slots.table i)) (calling None (slot_at (slice_set slots.table i (calling (passed_in slots.moment (slot_at slots.table i)) (slot_at slots.table i))) j)) in_first in_second apart in
      let middle = set_first slots.table i j (with_call begin_it (slot_at slots.table i)) (with_call begin_it (slot_at slots.table j)) in_first in_second apart in
      let last = set_first first.table i j (with_call end_it (slot_at first.table i)) (with_call end_it (slot_at first.table j)) (rw size_one in_first) (rw size_one in_second) apart in
      let whole = two_change begin_it end_it (passed slots.moment of.0) (slot_at slots.table i) of.0 of.1 (sent_at_once n m slots.moment (held_sender (slot_at slots.table i)).caller (held_sender (slot_at slots.table i)).moved (held_sender (slot_at first.table i)).caller (held_sender (slot_at first.table i)).moved of.0 is.0 is.1 (ne_eqb m n (λ e. other (sym e)))) in
      left ∙ (ap (λ c. calling (option_and_then (passed slots.moment) c) (slot_at slots.table i)) of.1 ∙ (sym whole ∙ (ap (with_call end_it) (sym middle) ∙ sym last)))

  there : slot_at fused.table j ≡ slot_at second.table j
  there =
      let of = held (slot_at slots.table j) m holds_two in
      let left = set_second slots.table i j (calling (passed_in slots.moment (slot_at slots.table i)) (slot_at slots.table i)) (calling None (slot_at (slice_set slots.table i (calling (passed_in slots.moment (slot_at slots.table i)) (slot_at slots.table i))) j)) in_first in_second apart in
      let beside = get_or-set_other slots.table i j (calling (passed_in slots.moment (slot_at slots.table i)) (slot_at slots.table i)) blank turned in
      let middle = set_second slots.table i j (with_call begin_it (slot_at slots.table i)) (with_call begin_it (slot_at slots.table j)) in_first in_second apart in
      let last = set_second first.table i j (with_call end_it (slot_at first.table i)) (with_call end_it (slot_at first.table j)) (rw size_one in_first) (rw size_one in_second) apart in
      let whole = two_change begin_it end_it None (slot_at slots.table j) of.0 of.1 (closed_at_once n m slots.moment (held_sender (slot_at slots.table i)).caller (held_sender (slot_at slots.table i)).moved (held_sender (slot_at first.table i)).caller (held_sender (slot_at first.table i)).moved of.0 of.2) in
      left ∙ (ap (calling None) beside ∙ (sym whole ∙ (ap (with_call end_it) (sym middle) ∙ sym last)))

  elsewhere : (k : ℕ) → k ≢ i → k ≢ j → slot_at fused.table k ≡ slot_at second.table k
  elsewhere k p q =
      let left = set_beside slots.table i j (calling (passed_in slots.moment (slot_at slots.table i)) (slot_at slots.table i)) (calling None (slot_at (slice_set slots.table i (calling (passed_in slots.moment (slot_at slots.table i)) (slot_at slots.table i))) j)) in_first in_second apart k p q in
      let middle = set_beside slots.table i j (with_call begin_it (slot_at slots.table i)) (with_call begin_it (slot_at slots.table j)) in_first in_second apart k p q in
      let last = set_beside first.table i j (with_call end_it (slot_at first.table i)) (with_call end_it (slot_at first.table j)) (rw size_one in_first) (rw size_one in_second) apart k p q in
      left ∙ (sym middle ∙ sym last)

  same : (k : ℕ) → slot_at fused.table k ≡ slot_at second.table k
  same k = elim (cases_eq k i) [
    | inl e ↦ rw e here
    | inr p ↦ elim (cases_eq k j) [ inl e ↦ rw e there | inr q ↦ elsewhere k p q ]
  ]

  pub pass_stands : Stands S (record fused { recent = i })
  pass_stands = looks S fused i (record {
    size = size_fused ∙ stands.size;
    moment = stands_two.moment;
    calls_made = stands_two.calls_made;
    live = live_alike fused.table second.table (size_fused ∙ sym size_two) (λ k. ap (λ slot. is_some slot.live) (same k)) ∙ stands_two.live;
    top = stands_two.top;
    above = stands_two.above;
    table = λ k. same k ∙ stands_two.table k;
    last = stands_two.last;
  })

  pub pass_changed : HaveChanged slots.table fused.table (record { first = Some (change_at slots.table i); second = Some (change_at slots.table j) })
  pass_changed = two_changed slots.table i j _ _ within_first within_second apart

  pub pass_named : HasNamed P (Written (Began n m)) (record { first = Some (change_at slots.table i); second = Some (change_at slots.table j) })
  pass_named = output_named P (Began n m) n m (record { first = Some (change_at slots.table i); second = Some (change_at slots.table j) }) begins (refl, refl) (first_at slots.table i j _ place_one) (second_at slots.table i j _ place_two)

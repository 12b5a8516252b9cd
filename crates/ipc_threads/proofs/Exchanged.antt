-- A call, the transfer that it begins, and its end: three entries that are taken note of at once.
use Rattle.std.proofs.lemmas.Bool.{cases_eq}
use Rattle.std.proofs.lemmas.List.{get_or-set_same, get_or-set_other, length-set}
use Rattle.std.proofs.lemmas.Option.{none-some}
use Rattle.std.proofs.Common.{is_some, ◌≡◌, ◌≢◌, refl, sym, ap, ◌∙◌, subst, ℕ, ◌<◌, ◌==◌, ◌||◌, ◌&&◌, eq-eqb, if◌then◌else◌, Bool, true, false, List, [], ◌∷◌, ◌++◌, length, Option, Some, None, option_and_then, option_map, slice_set, inl, inr, arith}
use Rattle.std.proofs.lemmas.Bool.{eqb-false, ne_eqb}
use Rattle.ipc_words.specs.Limits.{table_slots}
use Rattle.ipc_words.specs.ThreadId.{nilthread, number_of}
use Rattle.ipc_words.specs.MsgTag.{propagates}
use Rattle.ipc_history.specs.CallParts.{CallParts}
use Rattle.ipc_history.specs.Calls.{caller_of}
use Rattle.ipc_history.specs.Threads.{now}
use Rattle.ipc_history.specs.Phases.{is_over}
use Rattle.ipc_history.specs.Legal.{Legal, Follows}
use Rattle.ipc_history.specs.declared.entry.Entry.{Entry}
use Rattle.ipc_history.specs.declared.entry.Entry.TheVariants.{Given, Written}
use Rattle.ipc_history.specs.declared.entry.Input.TheVariants.{Called}
use Rattle.ipc_history.specs.declared.entry.Output.TheVariants.{Began, Ended}
use Rattle.ipc_laws.specs.Exchange.{Reaches}
use Rattle.ipc_laws.proofs.ExchangeParts.{exchange_begins, exchange_caller, exchange_ends, exchange_legal, receiver_open}
use Rattle.ipc_laws.proofs.Growth.{caller_of_kept, open_is_called}
use Rattle.ipc_laws.proofs.OpenCalls.{caller_lives}
use Rattle.ipc_laws.proofs.Settling.{legal_push}
use Rattle.ipc_threads.specs.Changes.{HaveExchanged}
use Rattle.ipc_threads.specs.Last.{last_of}
use Rattle.ipc_threads.specs.Slots.{Stands, blank, both_after, exchanged_table, live_at, slot_at, slot_of}
use Rattle.ipc_threads.specs.Standings.{entered, exchanged_call, exchanged_standing}
use Rattle.ipc_threads.specs.Steps.{call_after, called_live, calling, held_sender, holds, live_with, standing_in, standing_after, with_call}
use Rattle.ipc_threads.specs.declared.kept.KeptSlots.{KeptSlots}
use Rattle.ipc_threads.specs.declared.last.Last.TheVariants.{Nothing}
use Rattle.ipc_threads.specs.declared.slot.Live.{Live}
use Rattle.ipc_threads.specs.declared.slot.Standing.{Standing}
use Rattle.ipc_threads.specs.Slot.{Slot}
use Rattle.ipc_threads.proofs.CallSteps.{alive, idle, new_caller, noted_called}
use Rattle.ipc_threads.proofs.Changed.{holders_apart, named_apart}
use Rattle.ipc_threads.proofs.Holders.{held_somewhere, live_of_at, slot_of_call}
use Rattle.ipc_threads.proofs.LiveSlots.{live_alike}
use Rattle.ipc_threads.proofs.OutputCalls.{both_open}
use Rattle.ipc_threads.proofs.OutputSteps.{no_end, noted_both}
use Rattle.ipc_threads.proofs.Recents.{looks}
use Rattle.ipc_threads.proofs.Tables.{held}
use Rattle.ipc_threads.proofs.ThreadSteps.{live_within}

-- Two slots that were set
module _ (table : List Slot) (i j : ℕ) (x y : Slot) (wi : i < length table) (wj : j < length table) (apart : i ≢ j) where
  set_first : slot_at (slice_set (slice_set table i x) j y) i ≡ x
  set_first = get_or-set_other (slice_set table i x) j i y blank apart ∙ get_or-set_same table i x blank wi

  set_second : slot_at (slice_set (slice_set table i x) j y) j ≡ y
  set_second = get_or-set_same (slice_set table i x) j y blank (rw (length-set table i x) wj)

  set_beside : (k : ℕ) → k ≢ i → k ≢ j → slot_at (slice_set (slice_set table i x) j y) k ≡ slot_at table k
  set_beside k p q = get_or-set_other (slice_set table i x) j k y blank q ∙ get_or-set_other table i k x blank p

  set_size : length (slice_set (slice_set table i x) j y) ≡ length table
  set_size = length-set (slice_set table i x) j y ∙ length-set table i x

-- A call that two entries change
two_follow : (f g : Standing → Option Standing) (first last : Option Standing) (slot : Slot) → option_and_then g (option_and_then f first) ≡ last → with_call g (with_call f (calling first slot)) ≡ calling last slot
two_follow f g first last slot e = ap (λ l. record slot { live = l }) (go slot.live)
  where
    go : (o : Option Live) → option_map (live_with g) (option_map (live_with f) (option_map (called_live first) o)) ≡ option_map (called_live last) o
    go None = refl
    go (Some l) = ap (λ c. Some (record l { call = c })) e

two_close : (f g : Standing → Option Standing) (slot : Slot) (s : Standing) → standing_in slot ≡ Some s → option_and_then g (f s) ≡ None → with_call g (with_call f slot) ≡ calling None slot
two_close f g slot s held e = ap (λ l. record slot { live = l }) (go slot.live held)
  where
    go : (o : Option Live) → option_and_then (λ l. l.call) o ≡ Some s → option_map (live_with g) (option_map (live_with f) o) ≡ option_map (called_live None) o
    go None h = absurd (none-some s h)
    go (Some l) h = ap (λ c. Some (record l { call = c })) (ap (λ c. option_and_then g (option_and_then f c)) h ∙ e)

calling_none : (slot : Slot) → standing_in (calling None slot) ≡ None
calling_none slot = go slot.live
  where
    go : (o : Option Live) → option_and_then (λ l. l.call) (option_map (called_live None) o) ≡ None
    go None = refl
    go (Some l) = refl

and_right : (a b : Bool) → b ≡ false → (a && b) ≡ false
and_right a b h = grind arith

and_first : (a b c : Bool) → a ≡ false → (a && b && c) ≡ false
and_first a b c h = grind arith

-- of the call itself: it passes its message, and then it waits to receive or is over
sent_at_once : (P : List Entry) (n t r moment a b c d : ℕ) (call : CallParts) → (r == n) ≡ false → (call.to == nilthread) ≡ false → propagates call.tag ≡ false → option_and_then (call_after (Written (Ended n r)) moment c d) (option_and_then (call_after (Written (Began n r)) moment a b) (entered P n t call)) ≡ exchanged_call moment n t call
sent_at_once P n t r moment a b c d call apart sends itself = rw (and_right (call.from == nilthread) (call.to == nilthread) sends, sends, and_first (propagates call.tag) _ _ itself) (ap (option_and_then (call_after (Written (Ended n r)) moment c d)) (no_end (call.from == nilthread) None (Some _)) ∙ rw (eq-eqb n n refl, apart) (go (call.from == nilthread)))
  where
    go : (f : Bool) → (if false || (f && true) then None else Some (exchanged_standing moment n t call)) ≡ (if f then None else Some (exchanged_standing moment n t call))
    go true = refl
    go false = refl

-- of the call that it meets: it is over
closed_at_once : (n r moment a b c d : ℕ) (s : Standing) → s.number ≡ r → option_and_then (call_after (Written (Ended n r)) moment c d) (call_after (Written (Began n r)) moment a b s) ≡ None
closed_at_once n r moment a b c d s is = ap (option_and_then (call_after (Written (Ended n r)) moment c d)) (no_end (s.from == nilthread) None (Some (standing_after (Written (Began n r)) moment a b s))) ∙ rw (eq-eqb r s.number (sym is)) refl

module _ (P : List Entry) (n t r : ℕ) (call : CallParts) (legal : Legal P) (follows : Follows P (Given (Called n t call))) (reaches : Reaches P t call r) (slots : KeptSlots) (stands : Stands P slots) where
  abbrev Q : List Entry
  Q = P ++ Given (Called n t call) ∷ []

  abbrev R : List Entry
  R = Q ++ Written (Began n r) ∷ []

  abbrev S : List Entry
  S = R ++ Written (Ended n r) ∷ []

  begins : Follows Q (Written (Began n r))
  begins = exchange_begins P n t r call legal follows reaches

  ends : Follows R (Written (Ended n r))
  ends = exchange_ends P n t r call legal follows reaches

  opened : is_over P r ≡ false
  opened = receiver_open P n t r call legal follows reaches

  abbrev i : ℕ
  i = number_of t

  abbrev j : ℕ
  j = number_of call.to

  legal_one : Legal Q
  legal_one = legal_push P (Given (Called n t call)) legal follows

  legal_two : Legal R
  legal_two = legal_push Q (Written (Began n r)) legal_one begins

  within_first : number_of t < table_slots
  within_first = live_within P slots legal stands t (alive P n t call legal follows)

  pub within_second : number_of call.to < table_slots
  within_second = rw reaches.to (live_within P slots legal stands (caller_of P r) (caller_lives P legal r opened))

  -- the slots after each entry
  abbrev first : KeptSlots
  first = record slots { table = slice_set slots.table (number_of t) (calling (entered P n t call) (slot_at slots.table (number_of t))); calls_made = n; last = Nothing }

  stands_one : Stands Q first
  stands_one = noted_called P n t call legal follows slots stands within_first

  caller_one : caller_of Q n ≡ t
  caller_one = new_caller P n t call legal follows

  caller_two : caller_of Q r ≡ call.to
  caller_two = caller_of_kept P (Given (Called n t call) ∷ []) r (open_is_called P r opened) ∙ sym reaches.to

  holds_one : holds (slot_at first.table (number_of t)) n ≡ true
  holds_one = subst (λ u. holds (slot_at first.table (number_of u)) n ≡ true) caller_one (held_somewhere Q legal_one first.table stands_one.table n (both_open Q (Began n r) begins n r (refl, refl)).0)

  holds_two : holds (slot_at first.table (number_of call.to)) r ≡ true
  holds_two = subst (λ u. holds (slot_at first.table (number_of u)) r ≡ true) caller_two (held_somewhere Q legal_one first.table stands_one.table r (both_open Q (Began n r) begins n r (refl, refl)).1)

  other : n ≢ r
  other = named_apart Q legal_one (Began n r) begins n r (refl, refl) refl

  apart : number_of t ≢ number_of call.to
  apart = holders_apart first.table n r (number_of t) (number_of call.to) other holds_one holds_two

  abbrev second : KeptSlots
  second = record first { table = both_after (Began n r) first (number_of t) (number_of call.to); last = last_of (Written (Began n r)) }

  stands_two : Stands R second
  stands_two = noted_both Q (Began n r) first n r (number_of t) (number_of call.to) legal_one begins stands_one (refl, refl) within_first within_second holds_one holds_two

  open_one : (is_over Q n ≡ false) × (is_over Q r ≡ false)
  open_one = both_open Q (Began n r) begins n r (refl, refl)

  open_two : (is_over R n ≡ false) × (is_over R r ≡ false)
  open_two = both_open R (Ended n r) ends n r (refl, refl)

  holds_first : holds (slot_at second.table (number_of t)) n ≡ true
  holds_first = subst (λ u. holds (slot_at second.table (number_of u)) n ≡ true) (caller_of_kept Q (Written (Began n r) ∷ []) n (open_is_called Q n open_one.0) ∙ caller_one) (held_somewhere R legal_two second.table stands_two.table n open_two.0)

  holds_second : holds (slot_at second.table (number_of call.to)) r ≡ true
  holds_second = subst (λ u. holds (slot_at second.table (number_of u)) r ≡ true) (caller_of_kept Q (Written (Began n r) ∷ []) r (open_is_called Q r open_one.1) ∙ caller_two) (held_somewhere R legal_two second.table stands_two.table r open_two.1)

  abbrev third : KeptSlots
  third = record second { table = both_after (Ended n r) second (number_of t) (number_of call.to); last = last_of (Written (Ended n r)) }

  stands_three : Stands S third
  stands_three = noted_both R (Ended n r) second n r (number_of t) (number_of call.to) legal_two ends stands_two (refl, refl) within_first within_second holds_first holds_second

  -- and what the program sets at once
  abbrev fused : KeptSlots
  fused = record slots { table = exchanged_table slots.table (number_of t) (number_of call.to) (exchanged_call slots.moment n t call); calls_made = n; last = Nothing }

  size_one : length first.table ≡ length slots.table
  size_one = length-set slots.table (number_of t) _

  size_two : length second.table ≡ length slots.table
  size_two = length-set _ (number_of call.to) _ ∙ (length-set first.table (number_of t) _ ∙ size_one)

  in_first : number_of t < length slots.table
  in_first = rw stands.size within_first

  in_second : number_of call.to < length slots.table
  in_second = rw stands.size within_second

  turned : number_of call.to ≢ number_of t
  turned e = apart (sym e)

  holds_there : holds (slot_at slots.table (number_of call.to)) r ≡ true
  holds_there = ap (λ slot. holds slot r) (sym (get_or-set_other slots.table (number_of t) (number_of call.to) (calling (entered P n t call) (slot_at slots.table (number_of t))) blank turned)) ∙ holds_two

  here : slot_at fused.table (number_of t) ≡ slot_at third.table (number_of t)
  here =
      let T = slots.table in
      let U = first.table in
      let V = second.table in
      let left = set_first T (number_of t) (number_of call.to) (calling (exchanged_call slots.moment n t call) (slot_at T (number_of t))) (calling None (slot_at (slice_set T (number_of t) (calling (exchanged_call slots.moment n t call) (slot_at T (number_of t)))) (number_of call.to))) in_first in_second apart in
      let last = set_first V (number_of t) (number_of call.to) (with_call (call_after (Written (Ended n r)) slots.moment (held_sender (slot_at V (number_of t))).caller (held_sender (slot_at V (number_of t))).moved) (slot_at V (number_of t))) (with_call (call_after (Written (Ended n r)) slots.moment (held_sender (slot_at V (number_of t))).caller (held_sender (slot_at V (number_of t))).moved) (slot_at V (number_of call.to))) (rw size_two in_first) (rw size_two in_second) apart in
      let middle = set_first U (number_of t) (number_of call.to) (with_call (call_after (Written (Began n r)) slots.moment (held_sender (slot_at U (number_of t))).caller (held_sender (slot_at U (number_of t))).moved) (slot_at U (number_of t))) (with_call (call_after (Written (Began n r)) slots.moment (held_sender (slot_at U (number_of t))).caller (held_sender (slot_at U (number_of t))).moved) (slot_at U (number_of call.to))) (rw size_one in_first) (rw size_one in_second) apart in
      let begun = get_or-set_same T (number_of t) (calling (entered P n t call) (slot_at T (number_of t))) blank in_first in
      let g = with_call (call_after (Written (Ended n r)) slots.moment (held_sender (slot_at V (number_of t))).caller (held_sender (slot_at V (number_of t))).moved) in
      let h = with_call (call_after (Written (Began n r)) slots.moment (held_sender (slot_at U (number_of t))).caller (held_sender (slot_at U (number_of t))).moved) in
      let whole = two_follow (call_after (Written (Began n r)) slots.moment (held_sender (slot_at U (number_of t))).caller (held_sender (slot_at U (number_of t))).moved) (call_after (Written (Ended n r)) slots.moment (held_sender (slot_at V (number_of t))).caller (held_sender (slot_at V (number_of t))).moved) (entered P n t call) (exchanged_call slots.moment n t call) (slot_at T (number_of t)) (sent_at_once P n t r slots.moment (held_sender (slot_at U (number_of t))).caller (held_sender (slot_at U (number_of t))).moved (held_sender (slot_at V (number_of t))).caller (held_sender (slot_at V (number_of t))).moved call (ne_eqb r n (λ e. other (sym e))) reaches.sends reaches.itself) in
      left ∙ (sym whole ∙ (ap g (ap h (sym begun)) ∙ (ap g (sym middle) ∙ sym last)))

  there : slot_at fused.table (number_of call.to) ≡ slot_at third.table (number_of call.to)
  there =
      let T = slots.table in
      let U = first.table in
      let V = second.table in
      let left = set_second T (number_of t) (number_of call.to) (calling (exchanged_call slots.moment n t call) (slot_at T (number_of t))) (calling None (slot_at (slice_set T (number_of t) (calling (exchanged_call slots.moment n t call) (slot_at T (number_of t)))) (number_of call.to))) in_first in_second apart in
      let beside = get_or-set_other T (number_of t) (number_of call.to) (calling (exchanged_call slots.moment n t call) (slot_at T (number_of t))) blank turned in
      let last = set_second V (number_of t) (number_of call.to) (with_call (call_after (Written (Ended n r)) slots.moment (held_sender (slot_at V (number_of t))).caller (held_sender (slot_at V (number_of t))).moved) (slot_at V (number_of t))) (with_call (call_after (Written (Ended n r)) slots.moment (held_sender (slot_at V (number_of t))).caller (held_sender (slot_at V (number_of t))).moved) (slot_at V (number_of call.to))) (rw size_two in_first) (rw size_two in_second) apart in
      let middle = set_second U (number_of t) (number_of call.to) (with_call (call_after (Written (Began n r)) slots.moment (held_sender (slot_at U (number_of t))).caller (held_sender (slot_at U (number_of t))).moved) (slot_at U (number_of t))) (with_call (call_after (Written (Began n r)) slots.moment (held_sender (slot_at U (number_of t))).caller (held_sender (slot_at U (number_of t))).moved) (slot_at U (number_of call.to))) (rw size_one in_first) (rw size_one in_second) apart in
      let begun = get_or-set_other T (number_of t) (number_of call.to) (calling (entered P n t call) (slot_at T (number_of t))) blank turned in
      let g = with_call (call_after (Written (Ended n r)) slots.moment (held_sender (slot_at V (number_of t))).caller (held_sender (slot_at V (number_of t))).moved) in
      let h = with_call (call_after (Written (Began n r)) slots.moment (held_sender (slot_at U (number_of t))).caller (held_sender (slot_at U (number_of t))).moved) in
      let of = held (slot_at T (number_of call.to)) r holds_there in
      let whole = two_close (call_after (Written (Began n r)) slots.moment (held_sender (slot_at U (number_of t))).caller (held_sender (slot_at U (number_of t))).moved) (call_after (Written (Ended n r)) slots.moment (held_sender (slot_at V (number_of t))).caller (held_sender (slot_at V (number_of t))).moved) (slot_at T (number_of call.to)) of.0 of.1 (closed_at_once n r slots.moment (held_sender (slot_at U (number_of t))).caller (held_sender (slot_at U (number_of t))).moved (held_sender (slot_at V (number_of t))).caller (held_sender (slot_at V (number_of t))).moved of.0 of.2) in
      left ∙ (ap (calling None) beside ∙ (sym whole ∙ (ap g (ap h (sym begun)) ∙ (ap g (sym middle) ∙ sym last))))

  elsewhere : (k : ℕ) → k ≢ number_of t → k ≢ number_of call.to → slot_at fused.table k ≡ slot_at third.table k
  elsewhere k p q =
      let T = slots.table in
      let U = first.table in
      let V = second.table in
      let left = set_beside T (number_of t) (number_of call.to) (calling (exchanged_call slots.moment n t call) (slot_at T (number_of t))) (calling None (slot_at (slice_set T (number_of t) (calling (exchanged_call slots.moment n t call) (slot_at T (number_of t)))) (number_of call.to))) in_first in_second apart k p q in
      let last = set_beside V (number_of t) (number_of call.to) (with_call (call_after (Written (Ended n r)) slots.moment (held_sender (slot_at V (number_of t))).caller (held_sender (slot_at V (number_of t))).moved) (slot_at V (number_of t))) (with_call (call_after (Written (Ended n r)) slots.moment (held_sender (slot_at V (number_of t))).caller (held_sender (slot_at V (number_of t))).moved) (slot_at V (number_of call.to))) (rw size_two in_first) (rw size_two in_second) apart k p q in
      let middle = set_beside U (number_of t) (number_of call.to) (with_call (call_after (Written (Began n r)) slots.moment (held_sender (slot_at U (number_of t))).caller (held_sender (slot_at U (number_of t))).moved) (slot_at U (number_of t))) (with_call (call_after (Written (Began n r)) slots.moment (held_sender (slot_at U (number_of t))).caller (held_sender (slot_at U (number_of t))).moved) (slot_at U (number_of call.to))) (rw size_one in_first) (rw size_one in_second) apart k p q in
      let begun = get_or-set_other T (number_of t) k (calling (entered P n t call) (slot_at T (number_of t))) blank p in
      left ∙ (sym begun ∙ (sym middle ∙ sym last))

  same : (k : ℕ) → slot_at fused.table k ≡ slot_at third.table k
  same k = elim (cases_eq k (number_of t)) [
    | inl e ↦ rw e here
    | inr p ↦ elim (cases_eq k (number_of call.to)) [ inl e ↦ rw e there | inr q ↦ elsewhere k p q ]
  ]

  size_third : length third.table ≡ length slots.table
  size_third = length-set _ (number_of call.to) _ ∙ (length-set second.table (number_of t) _ ∙ size_two)

  size_fused : length fused.table ≡ length slots.table
  size_fused = length-set _ (number_of call.to) _ ∙ length-set slots.table (number_of t) _

  pub exchanged_stands : Stands S fused
  exchanged_stands = record {
    size = size_fused ∙ stands.size;
    moment = stands_three.moment;
    calls_made = stands_three.calls_made;
    live = live_alike fused.table third.table (size_fused ∙ sym size_third) (λ k. ap (λ slot. is_some slot.live) (same k)) ∙ stands_three.live;
    top = stands_three.top;
    above = stands_three.above;
    table = λ k. same k ∙ stands_three.table k;
    last = stands_three.last;
  }

  pub exchanged_legal : Legal S
  exchanged_legal = exchange_legal P n t r call legal follows reaches

  -- the caller had no open call
  exchanged_free : standing_in (slot_at slots.table (number_of t)) ≡ None
  unfolding slot_of live_at
  exchanged_free = ap standing_in (stands.table (number_of t)) ∙ rw (live_of_at P legal t (alive P n t call legal follows), idle P n t call legal follows) refl

  exchanged_has : (call_then : Option Standing) → HaveExchanged slots.table (exchanged_table slots.table (number_of t) (number_of call.to) call_then) (number_of t) (number_of call.to)
  exchanged_has call_then =
      let T = slots.table in
      let U = slice_set T (number_of t) (calling call_then (slot_at T (number_of t))) in
      record {
        within = within_first;
        apart = ne_eqb (number_of t) (number_of call.to) apart;
        free = exchanged_free;
        over = ap standing_in (set_second T (number_of t) (number_of call.to) (calling call_then (slot_at T (number_of t))) (calling None (slot_at U (number_of call.to))) in_first in_second apart) ∙ calling_none (slot_at U (number_of call.to));
        elsewhere = λ k p q. set_beside T (number_of t) (number_of call.to) (calling call_then (slot_at T (number_of t))) (calling None (slot_at U (number_of call.to))) in_first in_second apart k (eqb-false k (number_of t) p) (eqb-false k (number_of call.to) q);
      }

  -- as the program says it
  pub exchange_noted : (place there_place : ℕ) (after : Option Standing) → place ≡ number_of t → there_place ≡ number_of call.to → after ≡ exchanged_call (now P) n t call → Stands S (record slots { table = exchanged_table slots.table place there_place after; calls_made = n; recent = place; last = Nothing })
  exchange_noted place there_place after p q e = rw (p, q, e, ← stands.moment) (looks S fused (number_of t) exchanged_stands)

  pub exchange_has : (place there_place : ℕ) (after : Option Standing) → place ≡ number_of t → there_place ≡ number_of call.to → HaveExchanged slots.table (exchanged_table slots.table place there_place after) (number_of t) (number_of call.to)
  exchange_has place there_place after p q = rw (p, q) (exchanged_has after)

  caller_three : caller_of S n ≡ t
  caller_three = exchange_caller P n t r call legal follows reaches

  -- where it is open, its slot holds it
  pub exchange_held : (kept : KeptSlots) → Stands S kept → is_over S n ≡ false → is_some (standing_in (slot_at kept.table (number_of t))) ≡ true
  exchange_held kept stand still = subst (λ u. is_some (standing_in (slot_at kept.table (number_of u))) ≡ true) caller_three (ap (λ slot. is_some (standing_in slot)) (stand.table (number_of (caller_of S n))) ∙ ap is_some (slot_of_call S exchanged_legal n still))

-- One event more in the counts.
use Rattle.std.proofs.Common.{◌≡◌, refl, sym, ap, ◌∙◌, subst, ℕ, ◌+◌, ◌-◌, ◌^◌, List, [], ◌∷◌, ◌++◌, Option, Some, None, Bool, true, false, cond, append-nil, arith, unwrap_or}
use Rattle.std.specs.Prelude.{◌&&◌, ◌==◌, count_by, filter, filter_map, min, sum_by}
use Rattle.std.specs.BTreeMap.{BTreeMap, Updates, UpdatesBy, get, is_at}
use Rattle.std.specs.Cmp.{tied_then}
use Rattle.std.specs.List.{cons_option}
use Rattle.std.specs.Ordering.{is_eq, nat_cmp}
use Rattle.std.proofs.lemmas.Bool.{and_parts, eqb-true}
use Rattle.std.proofs.lemmas.Bool.Decides.{nat_tests}
use Rattle.std.proofs.lemmas.List.Elements.{filter-append, filter_map-append}
use Rattle.std.proofs.lemmas.List.Sums.{sum_by-append}
use Rattle.l4sh_look.specs.Groups.{Pair, compare_pairs, is_of}
use Rattle.l4sh_look.specs.Rows.{bytes_in, bytes_of, is_a_call, is_a_failure, is_a_message, is_call, is_failure, is_message, received_in, received_of, sent_in, sent_of}
use Rattle.l4sh_look.specs.Runs.{AreHeld}
use Rattle.l4sh_look.specs.Tallies.{AddsEvent, AddsTo, IsCounted, IsTally, IsTallyOf}
use Rattle.l4sh_look.specs.declared.counts.Counts.{Counts}
use Rattle.l4sh_look.specs.declared.event.Event.{Event}
use Rattle.l4sh_look.specs.declared.event.Happening.TheVariants.{Call, Message, Failure}
use Rattle.l4sh_look.specs.declared.tally.Tally.{Tally}
use Rattle.l4sh_look.specs.declared.times.Times.{Times}

sum_push : (f : Event → ℕ) (events : List Event) (e : Event) → sum_by f (events ++ e ∷ []) ≡ sum_by f events + f e
sum_push f events e = let all = sum_by-append f events (e ∷ []) in omega (arith, all)

yes : (p : Event → Bool) (events : List Event) (e : Event) → p e ≡ true → count_by p (events ++ e ∷ []) ≡ count_by p events + 1
yes p events e is = sum_push (λ x. cond (p x) 1 0) events e ∙ ap (λ b. count_by p events + cond b 1 0) is

no : (p : Event → Bool) (events : List Event) (e : Event) → p e ≡ false → count_by p (events ++ e ∷ []) ≡ count_by p events
no p events e is = let one = sum_push (λ x. cond (p x) 1 0) events e ∙ ap (λ b. count_by p events + cond b 1 0) is in omega (arith, one)

some : (h : Event → Option ℕ) (events : List Event) (e : Event) (time : ℕ) → h e ≡ Some time → filter_map h (events ++ e ∷ []) ≡ filter_map h events ++ time ∷ []
some h events e time is = filter_map-append h events (e ∷ []) ∙ ap (λ l. filter_map h events ++ l) (of (h e) is)
  where
    of : (found : Option ℕ) → found ≡ Some time → cons_option found [] ≡ time ∷ []
    of found same = rw same refl

none : (h : Event → Option ℕ) (events : List Event) (e : Event) → h e ≡ None → filter_map h (events ++ e ∷ []) ≡ filter_map h events
none h events e is = filter_map-append h events (e ∷ []) ∙ ap (λ l. filter_map h events ++ l) (of (h e) is) ∙ append-nil (filter_map h events)
  where
    of : (found : Option ℕ) → found ≡ None → cons_option found [] ≡ []
    of found same = rw same refl

module _ (events : List Event) (e : Event) (tally : Tally) (was : IsTally events tally) where
  same_bytes : bytes_in e ≡ 0 → min (sum_by bytes_in events) (2 ^ 64 - 1) ≡ min (sum_by bytes_in (events ++ e ∷ [])) (2 ^ 64 - 1)
  same_bytes is = let more = sum_push bytes_in events e in omega (arith, more, is)

  pub call_more : e.what ≡ Call → (n : ℕ) → n ≡ tally.calls + 1 → IsTally (events ++ e ∷ []) (record tally { calls = n })
  call_more is n more = record {
    calls = more ∙ ap (λ k. k + 1) was.calls ∙ sym (yes is_call events e (ap is_a_call is));
    messages = was.messages ∙ sym (no is_message events e (ap is_a_message is));
    bytes = was.bytes ∙ same_bytes (ap bytes_of is);
    failures = was.failures ∙ sym (no is_failure events e (ap is_a_failure is));
    sent = subst (λ times. AreHeld times tally.sent) (sym (none sent_in events e (ap sent_of is))) was.sent;
    received = subst (λ times. AreHeld times tally.received) (sym (none received_in events e (ap received_of is))) was.received;
  }

  pub failure_more : e.what ≡ Failure → (n : ℕ) → n ≡ tally.failures + 1 → IsTally (events ++ e ∷ []) (record tally { failures = n })
  failure_more is n more = record {
    calls = was.calls ∙ sym (no is_call events e (ap is_a_call is));
    messages = was.messages ∙ sym (no is_message events e (ap is_a_message is));
    bytes = was.bytes ∙ same_bytes (ap bytes_of is);
    failures = more ∙ ap (λ k. k + 1) was.failures ∙ sym (yes is_failure events e (ap is_a_failure is));
    sent = subst (λ times. AreHeld times tally.sent) (sym (none sent_in events e (ap sent_of is))) was.sent;
    received = subst (λ times. AreHeld times tally.received) (sym (none received_in events e (ap received_of is))) was.received;
  }

  pub message_more : (bytes sent received : ℕ) → e.what ≡ Message bytes sent received → (n total : ℕ) (held_sent held_received : Times) → n ≡ tally.messages + 1
      → total ≡ min (tally.bytes + bytes) (2 ^ 64 - 1)
      → ((times : List ℕ) → AreHeld times tally.sent → AreHeld (times ++ sent ∷ []) held_sent)
      → ((times : List ℕ) → AreHeld times tally.received → AreHeld (times ++ received ∷ []) held_received)
      → IsTally (events ++ e ∷ []) (record tally { messages = n; bytes = total; sent = held_sent; received = held_received })
  message_more bytes sent received is n total held_sent held_received more sum sends receives = record {
    calls = was.calls ∙ sym (no is_call events e (ap is_a_call is));
    messages = more ∙ ap (λ k. k + 1) was.messages ∙ sym (yes is_message events e (ap is_a_message is));
    bytes =
        let before = was.bytes in
        let now = sum_push bytes_in events e in
        let own : bytes_in e ≡ bytes = ap bytes_of is in
        omega (arith, sum, before, now, own);
    failures = was.failures ∙ sym (no is_failure events e (ap is_a_failure is));
    sent = subst (λ times. AreHeld times held_sent) (sym (some sent_in events e sent (ap sent_of is))) (sends (filter_map sent_in events) was.sent);
    received = subst (λ times. AreHeld times held_received) (sym (some received_in events e received (ap received_of is))) (receives (filter_map received_in events) was.received);
  }

-- a tally of no event where none was
pub taken : (found : Option Tally) (fresh : Tally) → IsTally [] fresh → (events : List Event) → IsTallyOf events found → IsTally events (unwrap_or found fresh)
taken None fresh first events is = subst (λ l. IsTally l fresh) (sym is) first
taken (Some tally) fresh first events is = is

same_numbers : (x y : ℕ) → is_eq (nat_cmp x y) ≡ (x == y)
same_numbers x y = grind (arith, nat_tests)

-- the pair of an event is equal to those that the event is of
at_pair : (event : Event) (pair : Pair) → is_at (compare_pairs (event.from, event.to)) pair ≡ is_of pair event
at_pair event pair =
    sym (tied_then (nat_cmp event.from pair.0) (nat_cmp event.to pair.1))
    ∙ ap (λ b. b && is_eq (nat_cmp event.to pair.1)) (same_numbers event.from pair.0)
    ∙ ap (λ b. (event.from == pair.0) && b) (same_numbers event.to pair.1)

same_pair : (event : Event) (a b : ℕ) → is_of (a, b) event ≡ true → (event.from ≡ a) × (event.to ≡ b)
same_pair event a b is =
    let parts = and_parts (event.from == a) (event.to == b) is in
    (eqb-true event.from a parts.0, eqb-true event.to b parts.1)

module _ (old mid new : BTreeMap Pair Tally) (event : Event) (tally : Tally) (a b : ℕ) (from : a ≡ event.from) (to : b ≡ event.to) where
  at : (pair : Pair) → is_at (compare_pairs (a, b)) pair ≡ is_of pair event
  at pair = rw (from, to) (at_pair event pair)

  -- the tally of a pair was taken out, and put back with one more
  pub added : UpdatesBy compare_pairs (compare_pairs (a, b)) old mid None → Updates compare_pairs mid new (a, b) (Some tally)
      → ((events : List Event) → IsTallyOf events (get compare_pairs old (a, b)) → IsTally (events ++ event ∷ []) tally) → AddsEvent old new event
  added out put is = λ pair. of (is_of pair event) pair refl
    where
      at_key : (x y : ℕ) → event.from ≡ x → event.to ≡ y → (events : List Event) → IsTallyOf events (get compare_pairs old (x, y)) → IsTallyOf (events ++ event ∷ []) (get compare_pairs new (x, y))
      at_key x y ex ey = let ax : a ≡ x = from ∙ ex in let by : b ≡ y = to ∙ ey in
          rw (← ax, ← by) (λ events was. subst (IsTallyOf (events ++ event ∷ [])) (sym put.1) (is events was))

      of : (t : Bool) (pair : Pair) → is_of pair event ≡ t → AddsTo (is_of pair event) (get compare_pairs old pair) (get compare_pairs new pair) event
      of true (x, y) same = let e = same_pair event x y same in rw same (at_key x y e.0 e.1)
      of false pair other =
          let apart = at pair ∙ other in
          rw other (put.2 pair apart ∙ out.2 pair apart)

-- one event more, of its pair and of all
pub counted_more : (events : List Event) (event : Event) (old new : Counts) → IsCounted events old → AddsEvent old.groups new.groups event
    → IsTally (events ++ event ∷ []) new.all → IsCounted (events ++ event ∷ []) new
counted_more events event old new was adds all = record {
  pairs = λ pair. subst (λ l. IsTallyOf l (get compare_pairs new.groups pair)) (sym (filter-append (is_of pair) events (event ∷ [])))
      (of pair (is_of pair event) (adds pair));
  all = all;
}
  where
    of : (pair : Pair) (b : Bool) → AddsTo b (get compare_pairs old.groups pair) (get compare_pairs new.groups pair) event
        → IsTallyOf (filter (is_of pair) events ++ cond b (event ∷ []) []) (get compare_pairs new.groups pair)
    of pair true to = to (filter (is_of pair) events) (was.pairs pair)
    of pair false same = subst (λ l. IsTallyOf l (get compare_pairs new.groups pair)) (sym (append-nil (filter (is_of pair) events)))
        (subst (IsTallyOf (filter (is_of pair) events)) (sym same) (was.pairs pair))

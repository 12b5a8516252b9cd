-- A call of words that reaches a receiver: its transfer begins and ends, and then nothing comes
-- where its receive phase rests.
use Rattle.std.proofs.lemmas.Bool.{false≢true, false_from_ne_true, true_from_ne_false, or_cases, or_right, leb-true}
use Rattle.std.proofs.lemmas.Option.{none-some, same_Some}
use Rattle.std.proofs.Common.{◌≡◌, ◌≢◌, refl, sym, ap, ◌∙◌, subst, ℕ, ◌+◌, ◌==◌, ◌||◌, ◌&&◌, not, eq-eqb, eqb-true, nat_le, Bool, true, false, List, [], ◌∷◌, ◌++◌, Option, Some, None, inl, inr, ◌⊎◌, arith}
use Rattle.std.specs.List.{list_any}
use Rattle.std.specs.Option.{option_map_or}
use Rattle.ipc_words.specs.ThreadId.{nilthread, anythread, anylocalthread}
use Rattle.ipc_words.specs.Time.{span}
use Rattle.ipc_history.specs.CallParts.{CallParts}
use Rattle.ipc_history.specs.Words.{before}
use Rattle.ipc_history.specs.Entries.{names, closes, ends, ends_send}
use Rattle.ipc_history.specs.Calls.{numbers, call_at, is_called, caller_of, to_of, from_of, receive_period_of, message_size}
use Rattle.ipc_history.specs.Threads.{now, is_live, was_opened, space_of}
use Rattle.ipc_history.specs.Phases.{is_sent, is_over, receiver_of, sender_of, is_sending, is_receiving, is_transferring, moved_bytes}
use Rattle.ipc_history.specs.Matching.{shown_sender, from_specifier, accepts, matches}
use Rattle.ipc_history.specs.Timing.{before_sent, receive_start, is_past, is_due, is_due_at}
use Rattle.ipc_history.specs.NextOutput.{turn_after, end_of, is_receive_partner_gone, meeting, next_output}
use Rattle.ipc_history.specs.Legal.{Legal, Quiet, Follows}
use Rattle.ipc_history.specs.Settled.{Continued, Settled}
use Rattle.ipc_history.specs.declared.entry.Entry.{Entry}
use Rattle.ipc_history.specs.declared.entry.Entry.TheVariants.{Given, Written}
use Rattle.ipc_history.specs.declared.entry.Input.TheVariants.{Called}
use Rattle.ipc_history.specs.declared.entry.Output.{Output}
use Rattle.ipc_history.specs.declared.entry.Output.TheVariants.{Began, Ended, Failed}
use Rattle.ipc_laws.specs.Locality.{Possible, Touched}
use Rattle.ipc_laws.specs.Locality.Possible.{Ends, LosesReceiver, LosesSender, LeftSending, LeftReceiving, Meets, Expires}
use Rattle.ipc_laws.specs.Locality.Touched.{Named, Lost, Due}
use Rattle.ipc_laws.proofs.Changing.{any_push, changes, others_unchanged}
use Rattle.ipc_laws.proofs.Comes.{comes, later_output}
use Rattle.ipc_laws.proofs.Endings.{live_opened}
use Rattle.ipc_laws.proofs.EntryLeaves.{is_new, shown_opened, space_kept}
use Rattle.ipc_laws.proofs.EntryTouches.{entries_touch, meeting_names}
use Rattle.ipc_laws.proofs.Growth.{caller_of_kept, is_called_kept, open_is_called, receiver_of_kept, to_of_kept}
use Rattle.ipc_laws.proofs.Befores.{shown_kept}
use Rattle.ipc_laws.proofs.Moving.{moved_within, size_same, transferring_whole}
use Rattle.ipc_laws.proofs.Order.{closed_over}
use Rattle.ipc_laws.proofs.Pairing.{sender_of_receiver, unended}
use Rattle.ipc_laws.proofs.PhaseParts.{left_running, meets_parts, partner_gone_sends, passes_parts, sends_parts}
use Rattle.ipc_laws.proofs.Settling.{continued_push, continued_settled, continued_start, legal_push, written_follows}
use Rattle.ipc_laws.proofs.Steps.{call_at_written, number_of_open}
use Rattle.ipc_laws.proofs.Tests.{both, left, not_both}
use Rattle.ipc_laws.proofs.ThreadChanges.{is_live_push, was_opened_push}
use Rattle.ipc_laws.proofs.Finds.{absent}
use Rattle.ipc_laws.proofs.Passing.{possible_end}
use Rattle.ipc_laws.specs.Exchange.{Exchanges, Reaches, Rests, lets_in}
use Rattle.ipc_laws.proofs.Calling.{alive, apart, around_called, caller_here, here, legal_called, next_begins, no_bytes, opened_here, receiver_opened, shown_here, unpaired, unsending, unsent, wanted_here}
use Rattle.ipc_laws.proofs.Giving.{after_output, before_all, end_is, first_is, names_open, passes_or_takes}

-- what is not over stays so, where an entry neither closes it nor ends its send
nothing_added : (a b c d : Bool) → a ≡ false → b ≡ false → c ≡ false → d ≡ false → (a || b || c || d) ≡ false
nothing_added a b c d p q r s = grind arith

last_added : (a b c d : Bool) → d ≡ true → (a || b || c || d) ≡ true
last_added a b c d h = grind arith

and_first : (a b : Bool) → a ≡ false → (a && b) ≡ false
and_first a b h = grind arith

and_last : (a b : Bool) → b ≡ false → (a && b) ≡ false
and_last a b h = grind arith

or_none : (a b : Bool) → a ≡ false → b ≡ false → (a || b) ≡ false
or_none a b p q = grind arith

eqb_turned : (a b : ℕ) → (a == b) ≡ false → (b == a) ≡ false
eqb_turned a b h = false_from_ne_true (b == a) (λ same. not_both (eq-eqb a b (sym (eqb-true b a same))) h)

stays_there : (a x y l : Bool) → (x || y || l) ≡ true → (a && not x && not y && not l) ≡ false
stays_there a x y l h = grind arith

-- a period that begins now is not past, unless it is no time
pub not_past : (moment period : ℕ) → span period ≢ Some 0 → is_past moment moment period ≡ false
unfolding is_past
not_past moment period some = go (span period) refl
  where
    go : (o : Option ℕ) → span period ≡ o → option_map_or (λ micros. nat_le (moment + micros) moment) o false ≡ false
    go None e = refl
    go (Some micros) e = false_from_ne_true (nat_le (moment + micros) moment) (λ past. some (e ∙ ap (λ k. Some k) (let below = leb-true (moment + micros) moment past in omega (arith, below))))

module _ (P : List Entry) (n t : ℕ) (call : CallParts) (legal : Legal P) (follows : Follows P (Given (Called n t call))) (r : ℕ) (reaches : Reaches P t call r) where
  abbrev C : Entry
  C = Given (Called n t call)

  abbrev Q : List Entry
  Q = P ++ Given (Called n t call) ∷ []

  legal_one : Legal Q
  legal_one = legal_called P n t call legal follows

  around_one : (o : Output) → Possible Q o → names n (Written o) ≡ true
  around_one = around_called P n t call legal follows

  begins : next_output Q ≡ Some (Began n r)
  begins = next_begins P n t call legal follows r reaches

  other : (n == r) ≡ false
  other = apart P n t call legal follows r reaches

  other_turned : (r == n) ≡ false
  other_turned = eqb_turned n r other

  open_one : is_over Q n ≡ false
  open_one = opened_here P n t call legal follows r reaches

  -- The transfer has begun

  abbrev B : Entry
  B = Written (Began n r)

  abbrev R : List Entry
  R = Q ++ Written (Began n r) ∷ []

  follows_two : Follows Q B
  follows_two = written_follows Q (Began n r) begins

  legal_two : Legal R
  legal_two = legal_push Q B legal_one follows_two

  still_open : (k : ℕ) → is_over Q k ≡ false → is_over R k ≡ false
  still_open k o = (changes Q B).over k (open_is_called Q k o) ∙ nothing_added (is_over Q k) false false ((from_of Q k == nilthread) && false) o refl refl (and_last (from_of Q k == nilthread) false refl)

  open_two : is_over R n ≡ false
  open_two = still_open n open_one

  open_there : is_over R r ≡ false
  open_there = still_open r (receiver_opened P n t call legal follows r reaches)

  pair_two : receiver_of R n ≡ Some r
  pair_two = (changes Q B).receiver n ∙ rw (unpaired P n t call legal follows, eq-eqb n n refl) refl

  runs : list_any (ends n r) R ≡ false
  runs = any_push (ends n r) Q B ∙ or_none (list_any (ends n r) Q) false (unended Q n r (unsent P n t call legal follows)) refl

  passes : is_transferring R n r ≡ true
  passes = transferring_whole R n r (record { pair = pair_two; running = runs; opened = open_two; opened_too = open_there })

  size_two : message_size R n ≡ 0
  size_two = size_same Q R n (call_at_written Q (Began n r) n) ∙ no_bytes P n t call legal follows r reaches

  moved_two : moved_bytes R n ≡ message_size R n
  moved_two = let within = moved_within R legal_two n in omega (arith, within, size_two)

  ends_it : end_of R n ≡ Some (Ended n r)
  unfolding end_of
  ends_it = rw (pair_two, passes, eq-eqb (moved_bytes R n) (message_size R n) moved_two) refl

  -- all that is possible names the one or the other
  abbrev OfEither : Output → Type 0
  OfEither o = (names n (Written o) ≡ true) ⊎ (names r (Written o) ≡ true)

  of_either : (o : Output) (j : ℕ) → ((n == j) || (r == j)) ≡ true → names j (Written o) ≡ true → OfEither o
  of_either o j a b = elim (or_cases (n == j) (r == j) a) [
    | inl x ↦ inl (subst (λ j. names j (Written o) ≡ true) (sym (eqb-true n j x)) b)
    | inr y ↦ inr (subst (λ j. names j (Written o) ≡ true) (sym (eqb-true r j y)) b)
  ]

  around_two : (o : Output) → Possible R o → OfEither o
  around_two o possible = elim (entries_touch Q B legal_one follows_two o possible) [ inl before ↦ inl (around_one o before) | inr touched ↦ go touched ]
    where
      go : Touched Q B o → OfEither o
      go (Named j a b) = of_either o j a b
      go (Lost thread j code b why is) = absurd (false≢true b)
      go (Due moment j comes due is) = absurd (none-some moment comes)

  sender_there : sender_of R r ≡ Some n
  sender_there = sender_of_receiver R legal_two n r pair_two

  -- so that no other transfer has to end
  ends_alone : (k : ℕ) (o : Output) → end_of R k ≡ Some o → o ≡ Ended n r
  ends_alone k o e =
      let p = end_is R k o e in
      let m = p.0 in
      let transfer : is_transferring R k m ≡ true = p.1 in
      let pair = (passes_parts R k m transfer).pair in
      let from : k ≡ n → o ≡ Ended n r = (λ same. (let its : m ≡ r = same_Some m r (sym pair ∙ (ap (receiver_of R) same ∙ pair_two)) in p.3 ∙ (ap (λ k. Ended k m) same ∙ ap (Ended n) its))) in
      elim (around_two (Ended k m) (Ends k m transfer p.2 refl)) [
        | inl a ↦ elim (or_cases (k == n) (m == n) a) [
          | inl x ↦ from (eqb-true k n x)
          | inr y ↦ absurd (passes_or_takes R legal_two n r k passes (subst (λ m. is_transferring R k m ≡ true) (eqb-true m n y) transfer))
        ]
        | inr b ↦ elim (or_cases (k == r) (m == r) b) [
          | inl x ↦ absurd (passes_or_takes R legal_two r m n (subst (λ k. is_transferring R k m ≡ true) (eqb-true k r x) transfer) passes)
          | inr y ↦ from (same_Some k n (sym (sender_of_receiver R legal_two k r (subst (λ m. receiver_of R k ≡ Some m) (eqb-true m r y) pair)) ∙ sender_there))
        ]
      ]

  called_one : is_called Q n ≡ true
  called_one = open_is_called Q n open_one

  called_two : is_called R n ≡ true
  called_two = open_is_called R n open_two

  turns_none : turn_after R B ≡ None
  unfolding turn_after
  turns_none = rw (shown_kept Q (B ∷ []) n called_one, shown_here P n t call legal follows r reaches, caller_of_kept Q (B ∷ []) n called_one, caller_here P n t call legal follows, eq-eqb t t refl) refl

  ends_next : next_output R ≡ Some (Ended n r)
  ends_next = after_output Q (Began n r) turns_none ∙ rw (first_is (end_of R) (numbers R) n (Ended n r) (number_of_open R n open_two) ends_it ends_alone) refl

  -- The transfer has ended

  abbrev E : Entry
  E = Written (Ended n r)

  abbrev S : List Entry
  S = R ++ Written (Ended n r) ∷ []

  follows_three : Follows R E
  follows_three = written_follows R (Ended n r) ends_next

  legal_three : Legal S
  legal_three = legal_push R E legal_two follows_three

  closed_there : is_over S r ≡ true
  closed_there = closed_over S r (any_push (closes r) R E ∙ or_right (list_any (closes r) R) (closes r E) (eq-eqb r r refl))

  around_three : (o : Output) → Possible S o → names n (Written o) ≡ true
  around_three o possible = elim either [ inl a ↦ a | inr b ↦ not_both closed_there (names_open S o possible r b) ]
    where
      go : Touched R E o → OfEither o
      go (Named j a b) = of_either o j a b
      go (Lost thread j code b why is) = absurd (false≢true b)
      go (Due moment j comes due is) = absurd (none-some moment comes)

      either : OfEither o
      either = elim (entries_touch R E legal_two follows_three o possible) [ inl before ↦ around_two o before | inr touched ↦ go touched ]

  continued : Continued Q S
  continued = continued_push Q R (Ended n r) (continued_push Q Q (Began n r) (continued_start Q) begins) ends_next

  quiet_where : ((o : Output) → Possible S o → ⊥) → Quiet S
  unfolding turn_after
  quiet_where none = after_output R (Ended n r) refl ∙ absent (later_output S) (λ o e. none o (comes S o e))

  -- Without a receive phase nothing comes

  from_two : from_of R n ≡ call.from
  unfolding from_of
  from_two = rw (call_at_written Q (Began n r) n, here P n t call legal follows) refl

  over_three : call.from ≡ nilthread → is_over S n ≡ true
  over_three none = (changes R E).over n called_two ∙ last_added (is_over R n) (closes n E) false ((from_of R n == nilthread) && ends_send n E) (both _ _ (eq-eqb (from_of R n) nilthread (from_two ∙ none)) (eq-eqb n n refl))

  sent_alone : call.from ≡ nilthread → (o : Output) → Possible S o → ⊥
  sent_alone none o possible = not_both (over_three none) (names_open S o possible n (around_three o possible))

  -- What the transfer has left behind

  pair_three : receiver_of S n ≡ Some r
  pair_three = receiver_of_kept R (E ∷ []) n r pair_two

  unsending_two : sender_of R n ≡ None
  unsending_two = (changes Q B).sender n ∙ rw (unsending P n t call legal follows, other_turned) refl

  unsending_three : sender_of S n ≡ None
  unsending_three = (changes R E).sender n ∙ rw unsending_two refl

  ended_three : list_any (ends n r) S ≡ true
  ended_three = any_push (ends n r) R E ∙ or_right (list_any (ends n r) R) (ends n r E) (both _ _ (eq-eqb n n refl) (eq-eqb r r refl))

  wanted_three : from_specifier S n ≡ call.from
  wanted_three = (changes R E).wanted n called_two ∙ ((changes Q B).wanted n called_one ∙ wanted_here P n t call legal follows)

  caller_three : caller_of S n ≡ t
  caller_three = caller_of_kept R (E ∷ []) n called_two ∙ (caller_of_kept Q (B ∷ []) n called_one ∙ caller_here P n t call legal follows)

  -- and no transfer has to end
  none_ends : (k m : ℕ) → Possible S (Ended k m) → ⊥
  none_ends k m possible =
      let p = passes_parts S k m (possible_end S k m possible).0 in
      elim (or_cases (k == n) (m == n) (around_three (Ended k m) possible)) [
        | inl x ↦ (
            let same : k ≡ n = eqb-true k n x in
            let its : m ≡ r = same_Some m r (sym p.pair ∙ (ap (receiver_of S) same ∙ pair_three)) in
            not_both ended_three (subst (λ m. list_any (ends n m) S ≡ false) its (subst (λ k. list_any (ends k m) S ≡ false) same p.running)))
        | inr y ↦ none-some k (sym unsending_three ∙ sender_of_receiver S legal_three k n (subst (λ m. receiver_of S k ≡ Some m) (eqb-true m n y) p.pair))
      ]

  -- With one it waits to receive

  module _ (rests : Rests P t call) where
    live_three : (x : ℕ) → is_live S x ≡ is_live P x
    live_three x = is_live_push R E x refl refl ∙ (is_live_push Q B x refl refl ∙ is_live_push P C x refl refl)

    partner_stays : is_receive_partner_gone S n ≡ false
    unfolding is_receive_partner_gone
    partner_stays = rw (wanted_three, live_three call.from) (stays_there (is_receiving S n) (call.from == anythread) (call.from == anylocalthread) (is_live P call.from) rests.partner)

    -- it is not due

    call_three : call_at S n ≡ Some (t, call)
    call_three = call_at_written R (Ended n r) n ∙ (call_at_written Q (Began n r) n ∙ here P n t call legal follows)

    unsent_two : is_sent R n ≡ false
    unsent_two = (changes Q B).sent n ∙ or_none (is_sent Q n) false (unsent P n t call legal follows) refl

    start_three : receive_start S n ≡ now S
    unfolding receive_start before_sent to_of is_sent
    start_three = rw (call_three, reaches.sends) (ap now (before_all (ends_send n) R E unsent_two (eq-eqb n n refl)) ∙ sym ((changes R E).moment))

    unsending_now : is_sending S n ≡ false
    unsending_now = false_from_ne_true (is_sending S n) (λ sends. none-some r (sym (sends_parts S n n sends).unpaired ∙ pair_three))

    period_three : receive_period_of S n ≡ call.receive_period
    unfolding receive_period_of
    period_three = rw call_three refl

    not_due : is_due S n ≡ false
    unfolding is_due is_due_at
    not_due = rw (start_three, period_three) (or_none _ _ (and_first (is_sending S n) _ unsending_now) (and_last (is_receiving S n) _ (not_past (now S) call.receive_period rests.patient)))

    -- nobody that it lets in waits for it

    called_before : (k : ℕ) → is_called S k ≡ true → (n == k) ≡ false → is_called P k ≡ true
    unfolding is_called
    called_before k there apart_from = true_from_ne_false _ (λ absent_there. not_both (is_new P C k absent_there there_one) apart_from)
      where
        there_one : is_called Q k ≡ true
        there_one = rw (call_at_written R (Ended n r) k, call_at_written Q (Began n r) k) at there

    opened_two : (x : ℕ) → was_opened P x ≡ true → (was_opened Q x ≡ true) × (was_opened R x ≡ true)
    opened_two x o =
        let one : was_opened Q x ≡ true = was_opened_push P C x refl ∙ o in
        (one, was_opened_push Q B x refl ∙ one)

    space_three : (x : ℕ) → was_opened P x ≡ true → space_of S x ≡ space_of P x
    space_three x o = let more = opened_two x o in space_kept R E x more.1 ∙ (space_kept Q B x more.0 ∙ space_kept P C x o)

    lets_in_is : (x : ℕ) → was_opened P x ≡ true → accepts S n x ≡ lets_in P call.from t x
    unfolding accepts
    lets_in_is x o = rw (wanted_three, caller_three, space_three x o, space_three t (live_opened P t (alive P n t call legal follows))) refl

    sends_there : (k : ℕ) → matches S k n ≡ true → is_sending S k ≡ true
    unfolding matches
    sends_there k h = left _ _ (left _ _ (left _ _ (left _ _ h)))

    nobody : (k : ℕ) → matches S k n ≡ true → ⊥
    nobody k meets =
        let p = meets_parts S k n meets in
        let not_it : (n == k) ≡ false = false_from_ne_true (n == k) (λ same. none-some r (sym p.sends.unpaired ∙ (ap (receiver_of S) (sym (eqb-true n k same)) ∙ pair_three))) in
        let not_there : (r == k) ≡ false = false_from_ne_true (r == k) (λ same. not_both (ap (is_over S) (sym (eqb-true r k same)) ∙ closed_there) p.sends.opened) in
        let known = called_before k (open_is_called S k p.sends.opened) not_it in
        let known_one = is_called_kept P (C ∷ []) k known in
        let known_two = is_called_kept Q (B ∷ []) k known_one in
        let one = others_unchanged P C k known not_it refl in
        let two = others_unchanged Q B k known_one (or_none (n == k) (r == k) not_it not_there) refl in
        let three = others_unchanged R E k known_two (or_none (n == k) (r == k) not_it not_there) refl in
        let sends : is_sending P k ≡ true = sym one.sending ∙ (sym two.sending ∙ (sym three.sending ∙ sends_there k meets)) in
        let to : to_of P k ≡ t = sym (to_of_kept P (C ∷ []) k known) ∙ (sym (to_of_kept Q (B ∷ []) k known_one) ∙ (sym (to_of_kept R (E ∷ []) k known_two) ∙ (p.same ∙ caller_three))) in
        let shown : shown_sender S k ≡ shown_sender P k = three.shown ∙ (two.shown ∙ one.shown) in
        let let_in : lets_in P call.from t (shown_sender P k) ≡ true = sym (lets_in_is (shown_sender P k) (shown_opened P legal k known)) ∙ (ap (accepts S n) (sym shown) ∙ p.wanted) in
        not_both let_in (rests.alone k sends to)

    none_comes : (o : Output) → Possible S o → ⊥
    none_comes o possible = go possible
      where
        named : names n (Written o) ≡ true
        named = around_three o possible

        -- an output that names it
        of_it : (x : Output) → o ≡ x → names n (Written x) ≡ true
        of_it x is = subst (λ x. names n (Written x) ≡ true) is named

        go : Possible S o → ⊥
        go (Ends k m transfer full is) = none_ends k m (Ends k m transfer full refl)
        go (LosesReceiver k gone is) =
            let same : k ≡ n = eqb-true k n (of_it (Failed k _) is) in
            none-some r (sym (partner_gone_sends S k gone).unpaired ∙ (ap (receiver_of S) same ∙ pair_three))
        go (LosesSender k gone is) =
            let same : k ≡ n = eqb-true k n (of_it (Failed k _) is) in
            not_both (ap (is_receive_partner_gone S) (sym same) ∙ gone) partner_stays
        go (LeftSending k m pair gone is) =
            let same : k ≡ n = eqb-true k n (of_it (Failed k _) is) in
            let its : m ≡ r = same_Some m r (sym pair ∙ (ap (receiver_of S) same ∙ pair_three)) in
            not_both ended_three (subst (λ m. list_any (ends n m) S ≡ false) its (subst (λ k. list_any (ends k m) S ≡ false) same (left_running S k k m m gone)))
        go (LeftReceiving k j pair gone is) =
            let same : k ≡ n = eqb-true k n (of_it (Failed k _) is) in
            none-some j (sym unsending_three ∙ (ap (sender_of S) (sym same) ∙ pair))
        go (Meets k m meets is) = elim (or_cases (k == n) (m == n) (sym (meeting_names S k m n) ∙ of_it (meeting S k m) is)) [
          | inl x ↦ none-some r (sym (meets_parts S k m meets).sends.unpaired ∙ (ap (receiver_of S) (eqb-true k n x) ∙ pair_three))
          | inr y ↦ nobody k (subst (λ m. matches S k m ≡ true) (eqb-true m n y) meets)
        ]
        go (Expires k due is) =
            let same : k ≡ n = eqb-true k n (of_it (Failed k _) is) in
            not_both (ap (is_due S) (sym same) ∙ due) not_due

  settles : (call.from ≡ nilthread) ⊎ Rests P t call → Settled Q S
  settles why = continued_settled Q S continued (quiet_where (none why))
    where
      none : (call.from ≡ nilthread) ⊎ Rests P t call → (o : Output) → Possible S o → ⊥
      none (inl without) = sent_alone without
      none (inr rests) = none_comes rests

  pub exchanges : Exchanges P n t call r
  exchanges = record { begins = begins; ends = ends_next; continued = continued; around = around_three; none_ends = none_ends; settled = settles }

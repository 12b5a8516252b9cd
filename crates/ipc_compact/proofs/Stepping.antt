-- With one entry added to both, two histories that agree still agree.
use Rattle.std.proofs.lemmas.Bool.{false≢true, true≢false, false_from_ne_true}
use Rattle.std.proofs.lemmas.Option.{none-some, same_Some}
use Rattle.std.proofs.lemmas.List.{length-append}
use Rattle.std.proofs.Common.{◌≡◌, refl, sym, ap, ◌∙◌, subst, ℕ, ◌+◌, ◌==◌, eqb-true, eq-eqb, Bool, true, false, not, ◌&&◌, ◌||◌, List, [], ◌∷◌, ◌++◌, length, Option, Some, None, is_some, unwrap_or, if◌then◌else◌, arith}
use Rattle.std.specs.List.{list_any}
use Rattle.std.specs.Option.{option_map_or, option_or}
use Rattle.ipc_words.specs.ThreadId.{nilthread, version_of}
use Rattle.ipc_words.specs.Version.{next_version_of}
use Rattle.ipc_history.specs.CallParts.{CallParts}
use Rattle.ipc_history.specs.Words.{first_some, last_some, before}
use Rattle.ipc_history.specs.Entries.{moment_in, names, calls, call_in, closes, ends, ends_send, opens, breaks, space_in, thread_in, receiver_in, sender_in, turned_in, count_in}
use Rattle.ipc_history.specs.Calls.{numbers, calls_made, call_at, is_called, caller_of, to_of, from_of, tag_of, originator_of}
use Rattle.ipc_history.specs.Threads.{now, is_live, is_taken, has_broken, was_opened, space_of, next_version}
use Rattle.ipc_history.specs.Phases.{is_sent, is_over, receiver_of, sender_of}
use Rattle.ipc_history.specs.Matching.{before_call, is_propagated, shown_sender}
use Rattle.ipc_history.specs.Timing.{before_sent, receive_start}
use Rattle.ipc_history.specs.Legal.{Legal, Follows}
use Rattle.ipc_history.specs.declared.entry.Entry.{Entry}
use Rattle.ipc_history.specs.declared.entry.Entry.TheVariants.{Given, Written}
use Rattle.ipc_history.specs.declared.entry.Input.TheVariants.{At, Opened, Called, Exreg, Broke, Moved}
use Rattle.ipc_history.specs.declared.entry.Output.TheVariants.{Began, Ended}
use Rattle.ipc_laws.specs.Changes.{Changes}
use Rattle.ipc_laws.proofs.Befores.{before_call_kept, propagated_kept, receive_start_kept, shown_kept}
use Rattle.ipc_laws.proofs.Changing.{any_push, changes}
use Rattle.ipc_laws.proofs.Endings.{live_unbroken}
use Rattle.ipc_laws.proofs.Growth.{call_at_kept, caller_of_kept, to_of_kept, is_called_kept, open_is_called, was_open}
use Rattle.ipc_laws.proofs.Histories.{named_open}
use Rattle.ipc_laws.proofs.Numbering.{numbers_push, numbers_push_called, number_was_called}
use Rattle.ipc_laws.proofs.OpenCalls.{caller_lives}
use Rattle.ipc_laws.proofs.Pairing.{pair_called, receiver_of_sender}
use Rattle.ipc_laws.proofs.Places.{any_place}
use Rattle.ipc_laws.proofs.Settling.{legal_push}
use Rattle.ipc_laws.proofs.WordLemmas.{first_some_push, last_some_push, option_or_none}
use Rattle.ipc_threads.proofs.Spaces.{shown_space}
use Rattle.ipc_compact.specs.Agree.{Agree, SameCall, SamePartner}
use Rattle.ipc_compact.proofs.SameCompact.{among_numbers}
use Rattle.ipc_compact.proofs.SameRules.{numbers_same}
use Rattle.ipc_compact.proofs.LiveNumbers.{taken_same}
use Rattle.ipc_compact.proofs.NewCall as new
use Rattle.ipc_threads.proofs.ThreadSteps.{unopened, broken_opened, no_space}
use Rattle.ipc_compact.proofs.Reading.{before_all}

-- Of one entry

abbrev counts : Entry → ℕ
counts (Given (Called n thread call)) = 1
counts _ = 0

plus_none : (k : ℕ) → k ≡ k + 0
plus_none k = omega arith

made_push : (P : List Entry) (e : Entry) → calls_made (P ++ e ∷ []) ≡ calls_made P + counts e
unfolding calls_made
made_push P (Given (Called n thread call)) = ap length (numbers_push_called P n thread call) ∙ length-append (numbers P) (n ∷ [])
made_push P (Given (At moment)) = ap length (numbers_push P (Given (At moment)) refl) ∙ plus_none (length (numbers P))
made_push P (Given (Opened thread space)) = ap length (numbers_push P (Given (Opened thread space)) refl) ∙ plus_none (length (numbers P))
made_push P (Given (Exreg thread target control)) = ap length (numbers_push P (Given (Exreg thread target control)) refl) ∙ plus_none (length (numbers P))
made_push P (Given (Broke thread)) = ap length (numbers_push P (Given (Broke thread)) refl) ∙ plus_none (length (numbers P))
made_push P (Given (Moved n count)) = ap length (numbers_push P (Given (Moved n count)) refl) ∙ plus_none (length (numbers P))
made_push P (Written output) = ap length (numbers_push P (Written output) refl) ∙ plus_none (length (numbers P))

opens_space : (t : ℕ) (e : Entry) → opens t e ≡ false → space_in t e ≡ None
opens_space t (Given (Opened u space)) h = rw h refl
opens_space t _ h = refl

fresh : (P : List Entry) (e : Entry) → Legal P → Follows P e → (t : ℕ) → opens t e ≡ true → was_opened P t ≡ false
fresh P (Given (Opened u space)) legal follows t h = subst (λ t. was_opened P t ≡ false) (eqb-true u t h) (unopened P u space legal follows)
fresh P (Given (At moment)) legal follows t h = absurd (false≢true h)
fresh P (Given (Called n thread call)) legal follows t h = absurd (false≢true h)
fresh P (Given (Exreg thread target control)) legal follows t h = absurd (false≢true h)
fresh P (Given (Broke thread)) legal follows t h = absurd (false≢true h)
fresh P (Given (Moved n count)) legal follows t h = absurd (false≢true h)
fresh P (Written output) legal follows t h = absurd (false≢true h)

begun_with : (n m : ℕ) (e : Entry) → receiver_in n e ≡ Some m → (names m e ≡ true) × (calls m e ≡ false)
begun_with n m (Written (Began k j)) h = go (k == n) h
  where
    second : (a b : Bool) → b ≡ true → (a || b) ≡ true
    second a b h = grind arith

    go : (b : Bool) → (if b then Some j else None) ≡ Some m → (((k == m) || (j == m)) ≡ true) × (false ≡ false)
    go true h = (second (k == m) (j == m) (eq-eqb j m (same_Some j m h)), refl)
    go false h = absurd (none-some m h)
begun_with n m _ h = absurd (none-some m h)

begun_by : (n k : ℕ) (e : Entry) → sender_in n e ≡ Some k → (names k e ≡ true) × (calls k e ≡ false)
begun_by n k (Written (Began i j)) h = go (j == n) h
  where
    first : (a b : Bool) → a ≡ true → (a || b) ≡ true
    first a b h = grind arith

    go : (b : Bool) → (if b then Some i else None) ≡ Some k → (((i == k) || (j == k)) ≡ true) × (false ≡ false)
    go true h = (first (i == k) (j == k) (eq-eqb i k (same_Some i k h)), refl)
    go false h = absurd (none-some k h)
begun_by n k _ h = absurd (none-some k h)

before_push : (p : Entry → Bool) (xs : List Entry) (x : Entry) → list_any p xs ≡ false → before p (xs ++ x ∷ []) ≡ (if p x then xs else xs ++ x ∷ [])
before_push p [] x h = refl
before_push p (y ∷ xs) x h = go (before_push p xs x) (p y) refl
  where
    inside : (b : Bool) → y ∷ (if b then xs else xs ++ x ∷ []) ≡ (if b then y ∷ xs else y ∷ (xs ++ x ∷ []))
    inside true = refl
    inside false = refl

    go : (list_any p xs ≡ false → before p (xs ++ x ∷ []) ≡ (if p x then xs else xs ++ x ∷ [])) → (b : Bool) → p y ≡ b → (if b then [] else y ∷ before p (xs ++ x ∷ [])) ≡ (if p x then y ∷ xs else y ∷ (xs ++ x ∷ []))
    go again true is = absurd (true≢false (sym (rw is refl) ∙ h))
    go again false is = ap (λ l. y ∷ l) (again (rw is at h)) ∙ inside (p x)

late : (P : List Entry) (e : Entry) (n : ℕ) → is_called P n ≡ true → (to_of P n == nilthread) ≡ false → is_sent P n ≡ false → receive_start (P ++ e ∷ []) n ≡ now (if ends_send n e then P else P ++ e ∷ [])
unfolding receive_start before_sent is_sent
late P e n c to unsent = rw (to_of_kept P (e ∷ []) n c, to) (ap now (before_push (ends_send n) P e unsent))

uncalled_over : (P : List Entry) (n : ℕ) → is_called P n ≡ false → is_over P n ≡ true
uncalled_over P n h = go (is_over P n) refl
  where
    go : (b : Bool) → is_over P n ≡ b → is_over P n ≡ true
    go true o = o
    go false o = absurd (true≢false (sym (open_is_called P n o) ∙ h))

not_called : (P : List Entry) (e : Entry) (n : ℕ) → is_called P n ≡ false → calls n e ≡ false → is_called (P ++ e ∷ []) n ≡ false
unfolding is_called
not_called P e n h other = rw ((changes P e).call n, none_in n e other, option_or_none (call_at P n)) h
  where
    none_in : (n : ℕ) (e : Entry) → calls n e ≡ false → call_in n e ≡ None
    none_in n (Given (Called k t c)) h = rw h refl
    none_in n (Given (At moment)) h = refl
    none_in n (Given (Opened thread space)) h = refl
    none_in n (Given (Exreg thread target control)) h = refl
    none_in n (Given (Broke thread)) h = refl
    none_in n (Given (Moved k count)) h = refl
    none_in n (Written output) h = refl

space_push : (P : List Entry) (e : Entry) (t : ℕ) → opens t e ≡ false → space_of (P ++ e ∷ []) t ≡ space_of P t
unfolding space_of
space_push P e t h =
    let same : first_some (space_in t) (P ++ e ∷ []) ≡ first_some (space_in t) P = first_some_push (space_in t) P e ∙ (ap (option_or (first_some (space_in t) P)) (opens_space t e h) ∙ option_or_none (first_some (space_in t) P)) in
    ap (λ o. unwrap_or o 0) same

space_new : (P : List Entry) (e : Entry) (t : ℕ) → was_opened P t ≡ false → space_of (P ++ e ∷ []) t ≡ unwrap_or (space_in t e) 0
unfolding space_of was_opened
space_new P e t h =
    let same : first_some (space_in t) (P ++ e ∷ []) ≡ space_in t e = first_some_push (space_in t) P e ∙ ap (λ o. option_or o (space_in t e)) (no_space P t h) in
    ap (λ o. unwrap_or o 0) same

over_first : (b c d : Bool) → (true || b || c || d) ≡ true
over_first b c d = refl

any_weaker : (p q : Entry → Bool) → ((e : Entry) → p e ≡ true → q e ≡ true) → (xs : List Entry) → list_any q xs ≡ false → list_any p xs ≡ false
any_weaker p q w [] h = refl
any_weaker p q w (x ∷ xs) h = go (any_weaker p q w xs (right_no _ _ h)) (p x) refl
  where
    right_no : (a b : Bool) → (a || b) ≡ false → b ≡ false
    right_no a b h = grind arith

    left_no : (a b : Bool) → (a || b) ≡ false → a ≡ false
    left_no a b h = grind arith

    go : list_any p xs ≡ false → (b : Bool) → p x ≡ b → (p x || list_any p xs) ≡ false
    go again true is = absurd (true≢false (sym (w x is) ∙ left_no _ _ h))
    go again false is = rw is again

ends_sends : (n m : ℕ) (e : Entry) → ends n m e ≡ true → ends_send n e ≡ true
ends_sends n m (Written (Ended k j)) h = first _ _ h
  where
    first : (a b : Bool) → (a && b) ≡ true → a ≡ true
    first a b h = grind arith
ends_sends n m _ h = absurd (false≢true h)

ends_closes : (k n : ℕ) (e : Entry) → ends k n e ≡ true → closes n e ≡ true
ends_closes k n (Written (Ended i j)) h = second _ _ h
  where
    second : (a b : Bool) → (a && b) ≡ true → b ≡ true
    second a b h = grind arith
ends_closes k n _ h = absurd (false≢true h)

-- what a new call begins with
start_new : (P : List Entry) (n : ℕ) → is_sent P n ≡ false → receive_start P n ≡ now (if to_of P n == nilthread then before_call P n else P)
unfolding receive_start before_sent is_sent
start_new P n unsent = rw (before_all (ends_send n) P unsent) refl

is_some_called : (P : List Entry) (n : ℕ) (x : ℕ × CallParts) → call_at P n ≡ Some x → is_called P n ≡ true
unfolding is_called
is_some_called P n x h = ap is_some h

no_ends : (P : List Entry) (n m : ℕ) → is_sent P n ≡ false → list_any (ends n m) P ≡ false
unfolding is_sent
no_ends P n m unsent = any_weaker (ends n m) (ends_send n) (ends_sends n m) P unsent

pub record NewSame (P Q P' Q' : List Entry) (n : ℕ) : Type 0 where
  pub over : is_over P' n ≡ is_over Q' n
  pub call : is_over P' n ≡ false → SameCall P' Q' n
  pub unpaired : receiver_of P' n ≡ None
  pub unsending : sender_of P' n ≡ None

module _ (P Q : List Entry) (n t : ℕ) (call : CallParts) (legal : Legal P) (legal' : Legal Q) (follows : Follows P (Given (Called n t call))) (follows' : Follows Q (Given (Called n t call))) (agree : Agree P Q) where
  abbrev P1 : List Entry
  P1 = P ++ Given (Called n t call) ∷ []

  abbrev Q1 : List Entry
  Q1 = Q ++ Given (Called n t call) ∷ []

  same_propagation : (o : ℕ) (p : Bool) → (p && is_live P o && (space_of P o == space_of P t)) ≡ (p && is_live Q o && (space_of Q o == space_of Q t))
  same_propagation o p = go (is_live P o) refl
    where
      none : (a b c : Bool) → (a && false && b) ≡ (a && false && c)
      none a b c = grind arith

      go : (b : Bool) → is_live P o ≡ b → (p && is_live P o && (space_of P o == space_of P t)) ≡ (p && is_live Q o && (space_of Q o == space_of Q t))
      go true l = rw (agree.space o l, agree.space t (new.alive P n t call legal follows), agree.live o) refl
      go false l = rw (l, sym (agree.live o) ∙ l) (none p _ _)

  shown_new : shown_sender P1 n ≡ shown_sender Q1 n
  unfolding shown_sender is_propagated tag_of originator_of caller_of
  shown_new = rw (new.before_it P n t call legal follows, new.before_it Q n t call legal' follows', new.here P n t call legal follows, new.here Q n t call legal' follows', same_propagation call.originator _) refl

  propagated_new : is_propagated P1 n ≡ is_propagated Q1 n
  unfolding is_propagated tag_of originator_of caller_of
  propagated_new = rw (
    new.before_it P n t call legal follows,
    new.before_it Q n t call legal' follows',
    new.here P n t call legal follows,
    new.here Q n t call legal' follows',
    same_propagation call.originator _,
  ) refl

  to_new : to_of P1 n ≡ to_of Q1 n
  unfolding to_of
  to_new = rw (new.here P n t call legal follows, new.here Q n t call legal' follows') refl

  moment_new : now P1 ≡ now Q1
  moment_new = (changes P (Given (Called n t call))).moment ∙ (agree.moment ∙ sym ((changes Q (Given (Called n t call))).moment))

  begun_new : now (before_call P1 n) ≡ now (before_call Q1 n)
  begun_new = ap now (new.before_it P n t call legal follows) ∙ (agree.moment ∙ sym (ap now (new.before_it Q n t call legal' follows')))

  started_new : receive_start P1 n ≡ receive_start Q1 n
  started_new = start_new P1 n (new.unsent P n t call legal follows) ∙ (rw to_new (go (to_of Q1 n == nilthread)) ∙ sym (start_new Q1 n (new.unsent Q n t call legal' follows')))
    where
      go : (b : Bool) → now (if b then before_call P1 n else P1) ≡ now (if b then before_call Q1 n else Q1)
      go true = begun_new
      go false = moment_new

  pub new_same : ((t : ℕ) → is_live P1 t ≡ true → space_of P1 t ≡ space_of Q1 t) → NewSame P Q P1 Q1 n
  new_same spaces = record {
    over = new.over P n t call legal follows ∙ sym (new.over Q n t call legal' follows');
    call = λ o. record {
      call = new.here P n t call legal follows ∙ sym (new.here Q n t call legal' follows');
      receiver = new.unpaired P n t call legal follows ∙ sym (new.unpaired Q n t call legal' follows');
      sender = new.unsending P n t call legal follows ∙ sym (new.unsending Q n t call legal' follows');
      sent = new.unsent P n t call legal follows ∙ sym (new.unsent Q n t call legal' follows');
      bytes = new.unmoved P n t call legal follows ∙ sym (new.unmoved Q n t call legal' follows');
      wanted = new.wanted P n t call legal follows ∙ sym (new.wanted Q n t call legal' follows');
      propagated = propagated_new;
      shown = shown_new;
      space =
          shown_space P1 (legal_push P _ legal follows) n (is_some_called P1 n (t, call) (new.here P n t call legal follows))
          ∙ (spaces (caller_of P1 n) (caller_lives P1 (legal_push P _ legal follows) n o)
          ∙ (ap (space_of Q1) (new.new_caller P n t call legal follows ∙ sym (new.new_caller Q n t call legal' follows'))
          ∙ sym (shown_space Q1 (legal_push Q _ legal' follows') n (is_some_called Q1 n (t, call) (new.here Q n t call legal' follows')))));
      begun = begun_new;
      started = started_new;
      ended = λ m. no_ends P1 n m (new.unsent P n t call legal follows) ∙ sym (no_ends Q1 n m (new.unsent Q n t call legal' follows'));
      got = λ k. any_weaker (ends k n) (closes n) (ends_closes k n) P1 (new.unclosed P n t call legal follows) ∙ sym (any_weaker (ends k n) (closes n) (ends_closes k n) Q1 (new.unclosed Q n t call legal' follows'));
    };
    unpaired = new.unpaired P n t call legal follows;
    unsending = new.unsending P n t call legal follows;
  }

-- One more entry

module _ (P Q : List Entry) (e : Entry) (legal : Legal P) (legal' : Legal Q) (follows : Follows P e) (follows' : Follows Q e) (agree : Agree P Q) where
  abbrev P2 : List Entry
  P2 = P ++ e ∷ []

  abbrev Q2 : List Entry
  Q2 = Q ++ e ∷ []

  p : Changes P e
  p = changes P e

  q : Changes Q e
  q = changes Q e

  legal2 : Legal P2
  legal2 = legal_push P e legal follows

  legal2' : Legal Q2
  legal2' = legal_push Q e legal' follows'

  pub called_other : (n : ℕ) → is_called P n ≡ true → is_called Q n ≡ true
  called_other n c =
      let at = any_place (λ k. k == n) (numbers Q) (subst (λ ns. list_any (λ k. k == n) ns ≡ true) (numbers_same P Q legal legal' agree) (among_numbers P n c)) in
      subst (λ k. is_called Q k ≡ true) (eqb-true at.0 n at.2) (number_was_called Q at.0 at.1)

  broken_fresh : (P : List Entry) → Legal P → (t : ℕ) → was_opened P t ≡ false → has_broken P t ≡ false
  broken_fresh P legal t h = false_from_ne_true (has_broken P t) (λ b. true≢false (sym (broken_opened P legal t b) ∙ h))

  live2 : (t : ℕ) → is_live P2 t ≡ is_live Q2 t
  unfolding is_live
  live2 t = rw (p.opened t, p.broken t, q.opened t, q.broken t) (go (opens t e) refl)
    where
      rest : (w k b : Bool) → ((w || false) && not (k || b)) ≡ ((w && not k) && not b)
      rest w k b = grind arith

      go : (o : Bool) → opens t e ≡ o → ((was_opened P t || opens t e) && not (has_broken P t || breaks t e)) ≡ ((was_opened Q t || opens t e) && not (has_broken Q t || breaks t e))
      go true is =
          let f = fresh P e legal follows t is in
          let f' = fresh Q e legal' follows' t is in
          rw (f, f', broken_fresh P legal t f, broken_fresh Q legal' t f') refl
      go false is = rw is (rest (was_opened P t) (has_broken P t) (breaks t e) ∙ (ap (λ l. l && not (breaks t e)) (agree.live t) ∙ sym (rest (was_opened Q t) (has_broken Q t) (breaks t e))))

  live_was : (t : ℕ) → is_live P2 t ≡ true → opens t e ≡ false → is_live P t ≡ true
  unfolding is_live
  live_was t l is = before_it (was_opened P t) (has_broken P t) (opens t e) (breaks t e) (rw (p.opened t, p.broken t) at l) is
    where
      before_it : (w k o b : Bool) → ((w || o) && not (k || b)) ≡ true → o ≡ false → (w && not k) ≡ true
      before_it w k o b h g = grind arith

  space2 : (t : ℕ) → is_live P2 t ≡ true → space_of P2 t ≡ space_of Q2 t
  space2 t l = go (opens t e) refl
    where
      go : (o : Bool) → opens t e ≡ o → space_of P2 t ≡ space_of Q2 t
      go true is = space_new P e t (fresh P e legal follows t is) ∙ sym (space_new Q e t (fresh Q e legal' follows' t is))
      go false is = space_push P e t is ∙ (agree.space t (live_was t l is) ∙ sym (space_push Q e t is))

  version2 : (k : ℕ) → next_version P2 k ≡ next_version Q2 k
  unfolding next_version
  version2 k = rw (last_some_push (thread_in k) P e, last_some_push (thread_in k) Q e) (go (thread_in k e))
    where
      same_before : option_map_or (λ thread. next_version_of (version_of thread)) (last_some (thread_in k) P) (Some 1) ≡ option_map_or (λ thread. next_version_of (version_of thread)) (last_some (thread_in k) Q) (Some 1)
      same_before = agree.version k

      go : (o : Option ℕ) → option_map_or (λ thread. next_version_of (version_of thread)) (option_or o (last_some (thread_in k) P)) (Some 1) ≡ option_map_or (λ thread. next_version_of (version_of thread)) (option_or o (last_some (thread_in k) Q)) (Some 1)
      go None = same_before
      go (Some t) = refl

  taken2 : (k : ℕ) → is_taken P2 k ≡ is_taken Q2 k
  taken2 = taken_same P2 Q2 live2

  -- a call that is new
  newly : (n : ℕ) → is_called P n ≡ false → calls n e ≡ true → NewSame P Q P2 Q2 n
  newly n none enters = at e refl enters
    where
      at : (x : Entry) → e ≡ x → calls n x ≡ true → NewSame P Q P2 Q2 n
      at (Given (Called k t call)) is h =
          let same : Given (Called k t call) ≡ Given (Called n t call) = ap (λ k. Given (Called k t call)) (eqb-true k n h) in
          let all : e ≡ Given (Called n t call) = is ∙ same in
          subst (λ x. ((t : ℕ) → is_live (P ++ x ∷ []) t ≡ true → space_of (P ++ x ∷ []) t ≡ space_of (Q ++ x ∷ []) t) → NewSame P Q (P ++ x ∷ []) (Q ++ x ∷ []) n) (sym all)
          (new_same P Q n t call legal legal' (subst (Follows P) all follows) (subst (Follows Q) all follows') agree) space2
      at (Given (At moment)) is h = absurd (false≢true h)
      at (Given (Opened thread space)) is h = absurd (false≢true h)
      at (Given (Exreg thread target control)) is h = absurd (false≢true h)
      at (Given (Broke thread)) is h = absurd (false≢true h)
      at (Given (Moved k count)) is h = absurd (false≢true h)
      at (Written output) is h = absurd (false≢true h)

  caller_same : (n : ℕ) → is_over P n ≡ false → (caller_of P n ≡ caller_of Q n) × (from_of P n ≡ from_of Q n) × (to_of P n ≡ to_of Q n)
  unfolding caller_of from_of to_of
  caller_same n o = let it = agree.calls n o in (rw it.call refl, rw it.call refl, rw it.call refl)

  over_called : (n : ℕ) → is_called P n ≡ true → is_over P2 n ≡ is_over Q2 n
  over_called n c = p.over n c ∙ (go (is_over P n) refl ∙ sym (q.over n (called_other n c)))
    where
      go : (b : Bool) → is_over P n ≡ b → (is_over P n || closes n e || breaks (caller_of P n) e || ((from_of P n == nilthread) && ends_send n e)) ≡ (is_over Q n || closes n e || breaks (caller_of Q n) e || ((from_of Q n == nilthread) && ends_send n e))
      go true o = rw (o, sym (agree.over n) ∙ o) refl
      go false o = let it = caller_same n o in rw (agree.over n, it.0, it.1) refl

  uncalled_other : (n : ℕ) → is_called P n ≡ false → is_called Q n ≡ false
  uncalled_other n h = false_from_ne_true (is_called Q n) (λ c.
      let at = any_place (λ k. k == n) (numbers P) (subst (λ ns. list_any (λ k. k == n) ns ≡ true) (sym (numbers_same P Q legal legal' agree)) (among_numbers Q n c)) in
      true≢false (sym (subst (λ k. is_called P k ≡ true) (eqb-true at.0 n at.2) (number_was_called P at.0 at.1)) ∙ h))

  over2 : (n : ℕ) → is_over P2 n ≡ is_over Q2 n
  over2 n = go (is_called P n) refl (calls n e) refl
    where
      go : (b : Bool) → is_called P n ≡ b → (a : Bool) → calls n e ≡ a → is_over P2 n ≡ is_over Q2 n
      go true c a is = over_called n c
      go false c true is = (newly n c is).over
      go false c false is = uncalled_over P2 n (not_called P e n c is) ∙ sym (uncalled_over Q2 n (not_called Q e n (uncalled_other n c) is))

  started2 : (n : ℕ) → is_called P n ≡ true → is_over P n ≡ false → receive_start P2 n ≡ receive_start Q2 n
  started2 n c o = go (to_of P n == nilthread) refl (is_sent P n) refl
    where
      it : SameCall P Q n
      it = agree.calls n o

      c' : is_called Q n ≡ true
      c' = called_other n c

      moment2 : now P2 ≡ now Q2
      moment2 = p.moment ∙ (ap (unwrap_or (moment_in e)) agree.moment ∙ sym q.moment)

      to : (to_of Q n == nilthread) ≡ (to_of P n == nilthread)
      to = ap (λ t. t == nilthread) (sym (caller_same n o).2)

      or_first : (a b : Bool) → a ≡ true → (a || b) ≡ true
      or_first a b h = grind arith

      or_second : (a b : Bool) → b ≡ true → (a || b) ≡ true
      or_second a b h = grind arith

      chosen : (b : Bool) → now (if b then P else P2) ≡ now (if b then Q else Q2)
      chosen true = agree.moment
      chosen false = moment2

      go : (a : Bool) → (to_of P n == nilthread) ≡ a → (b : Bool) → is_sent P n ≡ b → receive_start P2 n ≡ receive_start Q2 n
      go true a b s = receive_start_kept P (e ∷ []) n c (or_first _ _ a) ∙ (it.started ∙ sym (receive_start_kept Q (e ∷ []) n c' (or_first _ _ (to ∙ a))))
      go false a true s = receive_start_kept P (e ∷ []) n c (or_second _ _ s) ∙ (it.started ∙ sym (receive_start_kept Q (e ∷ []) n c' (or_second _ _ (sym it.sent ∙ s))))
      go false a false s = late P e n c a s ∙ (chosen (ends_send n e) ∙ sym (late Q e n c' (to ∙ a) (sym it.sent ∙ s)))

  old_call : (n : ℕ) → is_called P n ≡ true → is_over P2 n ≡ false → SameCall P2 Q2 n
  old_call n c o2 =
      let o = was_open P (e ∷ []) n c o2 in
      let c' = called_other n c in
      let it = agree.calls n o in
      record {
        call = call_at_kept P (e ∷ []) n c ∙ (it.call ∙ sym (call_at_kept Q (e ∷ []) n c'));
        receiver = p.receiver n ∙ (ap (λ o. option_or o (receiver_in n e)) it.receiver ∙ sym (q.receiver n));
        sender = p.sender n ∙ (ap (λ o. option_or o (sender_in n e)) it.sender ∙ sym (q.sender n));
        sent = p.sent n ∙ (ap (λ b. b || ends_send n e) it.sent ∙ sym (q.sent n));
        bytes = p.bytes n ∙ (ap (λ k. k + count_in n e) it.bytes ∙ sym (q.bytes n));
        wanted = p.wanted n c ∙ (ap (unwrap_or (turned_in n e)) it.wanted ∙ sym (q.wanted n c'));
        propagated = propagated_kept P (e ∷ []) n c ∙ (it.propagated ∙ sym (propagated_kept Q (e ∷ []) n c'));
        shown = shown_kept P (e ∷ []) n c ∙ (it.shown ∙ sym (shown_kept Q (e ∷ []) n c'));
        space =
            shown_space P2 legal2 n (is_called_kept P (e ∷ []) n c)
            ∙ (space2 (caller_of P2 n) (caller_lives P2 legal2 n o2)
            ∙ (ap (space_of Q2) (caller_of_kept P (e ∷ []) n c ∙ ((caller_same n o).0 ∙ sym (caller_of_kept Q (e ∷ []) n c')))
            ∙ sym (shown_space Q2 legal2' n (is_called_kept Q (e ∷ []) n c'))));
        begun = ap now (before_call_kept P (e ∷ []) n c) ∙ (it.begun ∙ sym (ap now (before_call_kept Q (e ∷ []) n c')));
        started = started2 n c o;
        ended = λ m. any_push (ends n m) P e ∙ (ap (λ b. b || ends n m e) (it.ended m) ∙ sym (any_push (ends n m) Q e));
        got = λ m. any_push (ends m n) P e ∙ (ap (λ b. b || ends m n e) (it.got m) ∙ sym (any_push (ends m n) Q e));
      }

  calls2 : (n : ℕ) → is_over P2 n ≡ false → SameCall P2 Q2 n
  calls2 n o = go (is_called P n) refl (calls n e) refl
    where
      go : (b : Bool) → is_called P n ≡ b → (a : Bool) → calls n e ≡ a → SameCall P2 Q2 n
      go true c a is = old_call n c o
      go false c true is = (newly n c is).call o
      go false c false is = absurd (true≢false (sym (uncalled_over P2 n (not_called P e n c is)) ∙ o))

  -- the other call of a transfer
  partner2 : (m : ℕ) → is_called P m ≡ true → SamePartner P Q m → SamePartner P2 Q2 m
  partner2 m c it =
      let c' = called_other m c in
      let by = caller_of_kept P (e ∷ []) m c in
      let by' = caller_of_kept Q (e ∷ []) m c' in
      record {
        caller = by ∙ (it.caller ∙ sym by');
        broken =
            ap (has_broken P2) by
            ∙ (p.broken (caller_of P m)
            ∙ (ap (λ b. b || breaks (caller_of P m) e) it.broken
            ∙ (ap (λ t. has_broken Q (caller_of Q m) || breaks t e) it.caller
            ∙ (sym (q.broken (caller_of Q m)) ∙ ap (has_broken Q2) (sym by')))));
        bytes = p.bytes m ∙ (ap (λ k. k + count_in m e) it.bytes ∙ sym (q.bytes m));
      }

  open_partner : (m : ℕ) → is_over P m ≡ false → SamePartner P Q m
  open_partner m o = record {
    caller = (caller_same m o).0;
    broken = live_unbroken P (caller_of P m) (caller_lives P legal m o) ∙ sym (live_unbroken Q (caller_of Q m) (caller_lives Q legal' m (sym (agree.over m) ∙ o)));
    bytes = (agree.calls m o).bytes;
  }

  receivers2 : (n m : ℕ) → is_over P2 n ≡ false → receiver_of P2 n ≡ Some m → SamePartner P2 Q2 m
  receivers2 n m o2 h = go (is_called P n) refl (calls n e) refl
    where
      from : is_over P n ≡ false → (r : Option ℕ) → receiver_of P n ≡ r → option_or r (receiver_in n e) ≡ Some m → SamePartner P2 Q2 m
      from o (Some k) r g = let is : receiver_of P n ≡ Some m = r ∙ g in partner2 m (pair_called P legal n m is).1 (agree.receivers n m o is)
      from o None r g = let b = begun_with n m e g in let om = named_open P e follows m b.0 b.1 in partner2 m (open_is_called P m om) (open_partner m om)

      go : (b : Bool) → is_called P n ≡ b → (a : Bool) → calls n e ≡ a → SamePartner P2 Q2 m
      go true c a is = from (was_open P (e ∷ []) n c o2) (receiver_of P n) refl (sym (p.receiver n) ∙ h)
      go false c true is = absurd (none-some m (sym (newly n c is).unpaired ∙ h))
      go false c false is = absurd (true≢false (sym (uncalled_over P2 n (not_called P e n c is)) ∙ o2))

  senders2 : (n k : ℕ) → is_over P2 n ≡ false → sender_of P2 n ≡ Some k → SamePartner P2 Q2 k
  senders2 n k o2 h = go (is_called P n) refl (calls n e) refl
    where
      from : is_over P n ≡ false → (r : Option ℕ) → sender_of P n ≡ r → option_or r (sender_in n e) ≡ Some k → SamePartner P2 Q2 k
      from o (Some j) r g = let is : sender_of P n ≡ Some k = r ∙ g in partner2 k (pair_called P legal k n (receiver_of_sender P legal k n is)).0 (agree.senders n k o is)
      from o None r g = let b = begun_by n k e g in let ok = named_open P e follows k b.0 b.1 in partner2 k (open_is_called P k ok) (open_partner k ok)

      go : (b : Bool) → is_called P n ≡ b → (a : Bool) → calls n e ≡ a → SamePartner P2 Q2 k
      go true c a is = from (was_open P (e ∷ []) n c o2) (sender_of P n) refl (sym (p.sender n) ∙ h)
      go false c true is = absurd (none-some k (sym (newly n c is).unsending ∙ h))
      go false c false is = absurd (true≢false (sym (uncalled_over P2 n (not_called P e n c is)) ∙ o2))

  pub stepped : Agree P2 Q2
  stepped = record {
    moment = p.moment ∙ (ap (unwrap_or (moment_in e)) agree.moment ∙ sym q.moment);
    made = made_push P e ∙ (ap (λ k. k + counts e) agree.made ∙ sym (made_push Q e));
    over = over2;
    live = live2;
    space = space2;
    taken = taken2;
    version = version2;
    calls = calls2;
    receivers = receivers2;
    senders = senders2;
  }

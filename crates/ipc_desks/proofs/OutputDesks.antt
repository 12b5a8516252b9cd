-- What an output that ends a call makes of the desks.
use Rattle.std.proofs.lemmas.Bool.{false_from_ne_true, ne_eqb, cases_eq, or_cases}
use Rattle.std.proofs.lemmas.Option.{none-some, same_Some}
use Rattle.std.proofs.Common.{◌≡◌, ◌≢◌, refl, sym, ap, ◌∙◌, ℕ, ◌+◌, ◌*◌, ◌≤◌, Bool, true, false, ◌||◌, ◌&&◌, ◌==◌, not, eqb-true, eq-eqb, if◌then◌else◌, cond, nat_le, option_map, List, [], ◌∷◌, ◌++◌, length, Option, Some, None, unwrap_or, inl, inr, ◌⊎◌, arith}
use Rattle.std.specs.Option.{option_map_or}
use Rattle.ipc_words.specs.Limits.{max_string_bytes}
use Rattle.ipc_words.specs.ThreadId.{nilthread, number_of}
use Rattle.std.proofs.lemmas.List.Sums.{sum_by-cons}
use Rattle.ipc_items.specs.declared.buffer_list.Substring.{Substring}
use Rattle.ipc_items.specs.Buffers.{capacity}
use Rattle.ipc_items.specs.Fit.{overflow_offset}
use Rattle.ipc_items.specs.Strings.{size_of}
use Rattle.ipc_laws.proofs.Normal.{normal_message, moves_fit}
use Rattle.ipc_history.specs.Entries.{closes, ends_send}
use Rattle.ipc_history.specs.Calls.{caller_of, from_of, to_of, buffers_of, strings_of, message_size}
use Rattle.ipc_history.specs.Threads.{has_broken, now}
use Rattle.ipc_history.specs.Phases.{is_over, is_sent}
use Rattle.ipc_history.specs.Matching.{matches}
use Rattle.ipc_history.specs.Outcomes.{failure, nothing, received, outcome_in, outcome_of, timed}
use Rattle.ipc_history.specs.Legal.{Legal, Follows}
use Rattle.ipc_history.specs.declared.entry.Entry.{Entry}
use Rattle.ipc_history.specs.declared.entry.Entry.TheVariants.{Written}
use Rattle.ipc_history.specs.declared.entry.Output.{Output}
use Rattle.ipc_history.specs.declared.entry.Output.TheVariants.{Ended, Overflowed, Aborted, Failed}
use Rattle.ipc_laws.proofs.Befores.{propagated_kept, shown_kept}
use Rattle.ipc_laws.proofs.Changing.{changes}
use Rattle.ipc_laws.proofs.EndMoments.{end_moment_new}
use Rattle.ipc_laws.proofs.Growth.{buffers_of_kept, caller_of_kept, open_is_called, open_is_not_closed, open_lives, strings_of_kept, tag_of_kept, words_of_kept}
use Rattle.ipc_laws.proofs.OneLive.{one_live}
use Rattle.ipc_laws.proofs.OneOpen.{one_open}
use Rattle.ipc_laws.proofs.OnePhase.{passes_apart, receiver_turned, sends_apart}
use Rattle.ipc_laws.proofs.OpenCalls.{caller_lives}
use Rattle.ipc_laws.proofs.OutputLemmas.{next_output_means}
use Rattle.ipc_laws.proofs.PhaseParts.{Passes, meets_parts, passes_parts}
use Rattle.ipc_laws.proofs.Tests.{not_both, left, right}
use Rattle.ipc_laws.proofs.ThreadChanges.{has_broken_push, is_live_push}
use Rattle.ipc_laws.proofs.Told.{told_none}
use Rattle.ipc_laws.proofs.WordLemmas.{first_some_push}
use Rattle.ipc_threads.specs.Slots.{live_of}
use Rattle.ipc_threads.proofs.Holders.{live_of_is}
use Rattle.ipc_threads.proofs.OutputCalls.{both_open}
use Rattle.ipc_threads.proofs.SlotSteps.{live_kept}
use Rattle.ipc_desks.specs.CallsOf.{is_among, last_call}
use Rattle.ipc_desks.specs.Desks.{Keeps, desk_at, desk_of, is_unsent, message_at}
use Rattle.ipc_desks.specs.Finishes.{finishes, is_named}
use Rattle.ipc_desks.specs.Messages.{message_of}
use Rattle.ipc_desks.specs.Steps.{Changed, Failing, Moved, finished, emptied, unbuffered}
use Rattle.ipc_desks.specs.declared.desk.Desk.{Desk}
use Rattle.ipc_desks.proofs.LastCalls.{last_is}
use Rattle.ipc_desks.proofs.DeskSteps.{desk_here, desk_open, desk_same, keeps_step}
use Rattle.ipc_desks.proofs.Finishing.{Ended as HasEnded, ended_finished, finished_ended, same_tests}

pub some_name : (t u : ℕ) (o : Option ℕ) → t ≡ u → (option_map_or (λ x. x == u) (Some t) false || option_map_or (λ x. x == u) o false) ≡ true
some_name t u o h = rw (h, eq-eqb u u refl) refl

pub second_name : (t u : ℕ) (o : Option ℕ) → t ≡ u → (option_map_or (λ x. x == u) o false || option_map_or (λ x. x == u) (Some t) false) ≡ true
second_name t u o h = rw (h, eq-eqb u u refl) (last (option_map_or (λ x. x == u) o false))
  where
    last : (b : Bool) → (b || true) ≡ true
    last true = refl
    last false = refl

-- a desk at which nobody waits for a call that is taken
pub untaken : (P : List Entry) (taken : List ℕ) (desks : List Desk) (n : ℕ) → Keeps P taken desks → is_over P n ≡ false → is_among n taken ≡ false
untaken P taken desks n keeps o = false_from_ne_true _ (λ among. not_both (keeps.over n among) o)

module _ (P : List Entry) (output : Output) (legal : Legal P) (follows : Follows P (Written output)) where
  abbrev e : Entry
  e = Written output

  abbrev Q : List Entry
  Q = P ++ Written output ∷ []

  pub lives : (k : ℕ) → live_of Q k ≡ live_of P k
  lives k = live_kept P e k refl (λ u h. is_live_push P e u refl refl)

  over_when : (n : ℕ) → is_over P n ≡ false → is_over Q n ≡ (closes n e || ((from_of P n == nilthread) && ends_send n e))
  over_when n o = (changes P e).over n (open_is_called P n o) ∙ rw o (drop (closes n e) ((from_of P n == nilthread) && ends_send n e))
    where
      drop : (a b : Bool) → (false || a || false || b) ≡ (a || b)
      drop a b = grind arith

  -- what is told of a call that it ends
  unbroken : (n : ℕ) → is_over P n ≡ false → has_broken Q (caller_of Q n) ≡ false
  unbroken n o = ap (has_broken Q) (caller_of_kept P (e ∷ []) n (open_is_called P n o)) ∙ (has_broken_push P e (caller_of P n) refl ∙ open_lives P n o)

  told_now : (n : ℕ) → is_over P n ≡ false → is_over Q n ≡ true → outcome_of Q n ≡ Some (timed (now P) (unwrap_or (outcome_in Q n e) (nothing n)))
  unfolding outcome_of
  told_now n o over = rw (over, unbroken n o, end_moment_new P e n o (unbroken n o) over, first_some_push (outcome_in Q n) P e, told_none Q n P (open_is_not_closed P n o)) refl

  sent_message : (n : ℕ) → is_over Q n ≡ true → message_at Q n ≡ None
  unfolding is_unsent
  sent_message n over = rw over refl

  -- the desk of a call that it ends
  pub desk_ended : (taken : List ℕ) (n : ℕ) → is_over P n ≡ false → is_among n taken ≡ false → is_over Q n ≡ true → desk_of Q taken (number_of (caller_of P n)) ≡ finished (timed (now P) (unwrap_or (outcome_in Q n e) (nothing n))) (desk_of P taken (number_of (caller_of P n)))
  desk_ended taken n o among over = desk_here P e legal follows taken refl n o (lives (number_of (caller_of P n))) ∙ rw (sent_message n over, among, over, told_now n o over) refl

  -- a call that stands at another desk is another call
  pub apart_call : (k n t x : ℕ) → k ≢ number_of (caller_of P n) → live_of P k ≡ Some t → last_call P t ≡ Some x → n ≢ x
  apart_call k n t x apart live last same = apart (sym (live_of_is P k t live).number ∙ ap number_of (sym (last_is P legal t x last).0 ∙ ap (caller_of P) (sym same)))

  -- the desk of a number whose call it doesn't end
  pub desk_beside : (taken : List ℕ) (k : ℕ) → ((t x : ℕ) → live_of P k ≡ Some t → last_call P t ≡ Some x → (closes x e ≡ false) × (ends_send x e ≡ false)) → desk_of Q taken k ≡ desk_of P taken k
  desk_beside taken k leaves = desk_same P e legal follows taken refl k (lives k) (λ t h. (refl, λ x l. leaves t x h l))

  pub finishes_it : (n : ℕ) → is_over P n ≡ false → is_over Q n ≡ true → (t : ℕ) → caller_of P n ≡ t → finishes P e t ≡ true
  finishes_it n o over t is = ap (finishes P e) (sym is) ∙ ended_finished P e legal follows refl (λ k. refl) n o over (is_live_push P e (caller_of P n) refl refl ∙ caller_lives P legal n o)

  pub finished_is : (t : ℕ) → finishes P e t ≡ true → HasEnded P e t
  finished_is t h = finished_ended P e legal follows refl (λ n. refl) t h

  pub ended_by : (t : ℕ) (x : HasEnded P e t) → (closes x.number e || ((from_of P x.number == nilthread) && ends_send x.number e)) ≡ true
  ended_by t x = sym (over_when x.number x.opened) ∙ x.over

  pub over_closed : (n : ℕ) → is_over P n ≡ false → closes n e ≡ true → is_over Q n ≡ true
  over_closed n o h = over_when n o ∙ rw h refl

-- A failure

module _ (P : List Entry) (n code : ℕ) (legal : Legal P) (follows : Follows P (Written (Failed n code))) where
  abbrev F : List Entry
  F = P ++ Written (Failed n code) ∷ []

  pub failed_open : is_over P n ≡ false
  failed_open = (both_open P (Failed n code) follows n n (refl, refl)).0

  over_failed : is_over F n ≡ true
  over_failed = over_closed P (Failed n code) legal follows n failed_open (eq-eqb n n refl)

  pub failed_keeps : (taken : List ℕ) (old new : List Desk) → Keeps P taken old → Changed (number_of (caller_of P n)) (finished (timed (now P) (failure n code))) old new → Keeps F taken new
  failed_keeps taken old new keeps changed = keeps_step P (Written (Failed n code)) legal follows taken refl old new keeps (changed.size ∙ keeps.size) table
    where
      mine : desk_of F taken (number_of (caller_of P n)) ≡ finished (timed (now P) (failure n code)) (desk_of P taken (number_of (caller_of P n)))
      mine = desk_ended P (Failed n code) legal follows taken n failed_open (untaken P taken old n keeps failed_open) over_failed ∙ rw (eq-eqb n n refl) refl

      table : (k : ℕ) → desk_at new k ≡ desk_of F taken k
      table k = elim (cases_eq k (number_of (caller_of P n))) [
        | inl is ↦ rw is (changed.here ∙ (ap (finished (timed (now P) (failure n code))) (keeps.table (number_of (caller_of P n))) ∙ sym mine))
        | inr p ↦ changed.beside k p ∙ (keeps.table k ∙ sym (desk_beside P (Failed n code) legal follows taken k (λ t x live last. (ne_eqb n x (apart_call P (Failed n code) legal follows k n t x p live last), refl))))
      ]

  pub failed_finishes : (t : ℕ) → is_named (record { first = Some (caller_of P n); second = None }) t ≡ finishes P (Written (Failed n code)) t
  failed_finishes t = same_tests _ _ (λ h. finishes_it P (Failed n code) legal follows n failed_open over_failed t (eqb-true _ _ (first _ h))) (λ h.
      let x = finished_is P (Failed n code) legal follows t h in
      let same : n ≡ x.number = eqb-true n x.number (only _ _ (ended_by P (Failed n code) legal follows t x)) in
      some_name (caller_of P n) t None (ap (caller_of P) same ∙ x.caller))
    where
      first : (a : Bool) → (a || false) ≡ true → a ≡ true
      first a h = grind arith

      only : (a b : Bool) → (a || (b && false)) ≡ true → a ≡ true
      only a b h = grind arith

-- Two calls that fail together

pub matching_apart : (P : List Entry) → Legal P → (n m : ℕ) → matches P n m ≡ true → n ≢ m
matching_apart P legal n m h same =
    let p = meets_parts P n m h in
    sends_apart P legal n p.sends (rw same p.receives.turned)

pub passing_apart : (P : List Entry) → Legal P → (n m : ℕ) → Passes P n m → n ≢ m
passing_apart P legal n m p same = passes_apart P legal n m p.pair p.running (rw same (receiver_turned P legal n m p.pair))

-- two open calls stand at two desks
pub places_apart : (P : List Entry) → Legal P → (n m : ℕ) → is_over P n ≡ false → is_over P m ≡ false → n ≢ m → number_of (caller_of P n) ≢ number_of (caller_of P m)
places_apart P legal n m o p apart same = apart (one_open P legal n m o p (one_live P legal (caller_of P n) (caller_of P m) (caller_lives P legal n o) (caller_lives P legal m p) same))

-- an output that closes both and nothing else
pub record ClosesBoth (output : Output) (n m code : ℕ) : Type 0 where
  pub closing : (x : ℕ) → closes x (Written output) ≡ ((n == x) || (m == x))
  pub unsent : (x : ℕ) → ends_send x (Written output) ≡ false
  pub tells : (H : List Entry) (x : ℕ) → outcome_in H x (Written output) ≡ (if n == x then Some (failure x code) else (if m == x then Some (failure x (code + 1)) else None))

module _ (P : List Entry) (output : Output) (n m code : ℕ) (legal : Legal P) (follows : Follows P (Written output)) (both : ClosesBoth output n m code) (sends : is_over P n ≡ false) (receives : is_over P m ≡ false) (apart : n ≢ m) where
  abbrev B : List Entry
  B = P ++ Written output ∷ []

  over_first : is_over B n ≡ true
  over_first = over_closed P output legal follows n sends (both.closing n ∙ rw (eq-eqb n n refl) refl)

  over_second : is_over B m ≡ true
  over_second = over_closed P output legal follows m receives (both.closing m ∙ rw (eq-eqb m m refl) (or_true (n == m)))
    where
      or_true : (b : Bool) → (b || true) ≡ true
      or_true true = refl
      or_true false = refl

  pub both_keep : (taken : List ℕ) (old new : List Desk) → Keeps P taken old → Failing (number_of (caller_of P n)) (number_of (caller_of P m)) (timed (now P) (failure n code)) (timed (now P) (failure m (code + 1))) old new → Keeps B taken new
  both_keep taken old new keeps failing = keeps_step P (Written output) legal follows taken refl old new keeps (failing.size ∙ keeps.size) table
    where
      i : ℕ
      i = number_of (caller_of P n)

      j : ℕ
      j = number_of (caller_of P m)

      at_first : desk_of B taken (number_of (caller_of P n)) ≡ finished (timed (now P) (failure n code)) (desk_of P taken (number_of (caller_of P n)))
      at_first = desk_ended P output legal follows taken n sends (untaken P taken old n keeps sends) over_first ∙ rw (both.tells B n, eq-eqb n n refl) refl

      at_second : desk_of B taken (number_of (caller_of P m)) ≡ finished (timed (now P) (failure m (code + 1))) (desk_of P taken (number_of (caller_of P m)))
      at_second = desk_ended P output legal follows taken m receives (untaken P taken old m keeps receives) over_second ∙ rw (both.tells B m, ne_eqb n m apart, eq-eqb m m refl) refl

      neither : (x : ℕ) → n ≢ x → m ≢ x → ((n == x) || (m == x)) ≡ false
      neither x p q = rw (ne_eqb n x p, ne_eqb m x q) refl

      other : (k : ℕ) → k ≢ number_of (caller_of P n) → k ≢ number_of (caller_of P m) → desk_at new k ≡ desk_of B taken k
      other k p q = failing.beside k p q ∙ (keeps.table k ∙ sym (desk_beside P output legal follows taken k (λ t x live last. (both.closing x ∙ neither x (apart_call P output legal follows k n t x p live last) (apart_call P output legal follows k m t x q live last), both.unsent x))))

      table : (k : ℕ) → desk_at new k ≡ desk_of B taken k
      table k = elim (cases_eq k (number_of (caller_of P n))) [
        | inl is ↦ rw is (failing.sender (places_apart P legal n m sends receives apart) ∙ (ap (finished (timed (now P) (failure n code))) (keeps.table (number_of (caller_of P n))) ∙ sym at_first))
        | inr p ↦ elim (cases_eq k (number_of (caller_of P m))) [
          | inl is ↦ rw is (failing.receiver ∙ (ap (finished (timed (now P) (failure m (code + 1)))) (keeps.table (number_of (caller_of P m))) ∙ sym at_second))
          | inr q ↦ other k p q
        ]
      ]

  pub both_finish : (t : ℕ) → is_named (record { first = Some (caller_of P n); second = Some (caller_of P m) }) t ≡ finishes P (Written output) t
  both_finish t = same_tests _ _ (λ h. elim (or_cases _ _ h) [
    | inl a ↦ finishes_it P output legal follows n sends over_first t (eqb-true _ _ a)
    | inr b ↦ finishes_it P output legal follows m receives over_second t (eqb-true _ _ b)
  ]) (λ h.
      let x = finished_is P output legal follows t h in
      elim (or_cases _ _ (only (closes x.number (Written output)) (from_of P x.number == nilthread) _ _ (both.closing x.number) (both.unsent x.number) (ended_by P output legal follows t x))) [
        | inl a ↦ some_name (caller_of P n) t (Some (caller_of P m)) (ap (caller_of P) (eqb-true n x.number a) ∙ x.caller)
        | inr b ↦ second_name (caller_of P m) t (Some (caller_of P n)) (ap (caller_of P) (eqb-true m x.number b) ∙ x.caller)
      ])
    where
      only : (a f s c : Bool) → a ≡ c → s ≡ false → (a || (f && s)) ≡ true → c ≡ true
      only a f s c p q h = grind arith

pub overflow_closes : (n m offset : ℕ) → ClosesBoth (Overflowed n m offset) n m (0x8 + 16 * offset)
overflow_closes n m offset = record { closing = λ x. refl; unsent = λ x. refl; tells = λ H x. one_more (n == x) (m == x) x }
  where
    one_more : (a b : Bool) (x : ℕ) → (if a then Some (failure x (0x8 + 16 * offset)) else (if b then Some (failure x (0x9 + 16 * offset)) else None)) ≡ (if a then Some (failure x (0x8 + 16 * offset)) else (if b then Some (failure x (0x8 + 16 * offset + 1)) else None))
    one_more true b x = refl
    one_more false true x = ap (λ code. Some (failure x code)) (omega arith)
    one_more false false x = refl

pub abort_closes : (n m count : ℕ) → ClosesBoth (Aborted n m count) n m (0xe + 16 * count)
abort_closes n m count = record { closing = λ x. refl; unsent = λ x. refl; tells = λ H x. one_more (n == x) (m == x) x }
  where
    one_more : (a b : Bool) (x : ℕ) → (if a then Some (failure x (0xe + 16 * count)) else (if b then Some (failure x (0xf + 16 * count)) else None)) ≡ (if a then Some (failure x (0xe + 16 * count)) else (if b then Some (failure x (0xe + 16 * count + 1)) else None))
    one_more true b x = refl
    one_more false true x = ap (λ code. Some (failure x code)) (omega arith)
    one_more false false x = refl

pub overflow_apart : (P : List Entry) (n m offset : ℕ) → Legal P → Follows P (Written (Overflowed n m offset)) → n ≢ m
unfolding Follows
overflow_apart P n m offset legal follows = matching_apart P legal n m (next_output_means P (Overflowed n m offset) follows).0

pub abort_apart : (P : List Entry) (n m count : ℕ) → Legal P → Follows P (Written (Aborted n m count)) → n ≢ m
unfolding Follows
abort_apart P n m count legal follows = passing_apart P legal n m (passes_parts P n m (next_output_means P (Aborted n m count) follows).0)

-- A transfer that ends well

module _ (P : List Entry) (n m : ℕ) (legal : Legal P) (follows : Follows P (Written (Ended n m))) where
  abbrev E : List Entry
  E = P ++ Written (Ended n m) ∷ []

  pub passes : Passes P n m
  unfolding Follows
  passes = passes_parts P n m (next_output_means P (Ended n m) follows).0

  pub ended_apart : n ≢ m
  ended_apart = passing_apart P legal n m passes

  over_receiver : is_over E m ≡ true
  over_receiver = over_closed P (Ended n m) legal follows m passes.opened_too (eq-eqb m m refl)

  over_sender : is_over E n ≡ (from_of P n == nilthread)
  over_sender = over_when P (Ended n m) legal follows n passes.opened ∙ rw (ne_eqb m n (λ g. ended_apart (sym g)), eq-eqb n n refl) (and_true (from_of P n == nilthread))
    where
      and_true : (b : Bool) → (false || (b && true)) ≡ b
      and_true true = refl
      and_true false = refl

  received_same : received E n m ≡ received P n m
  received_same =
      let cn = open_is_called P n passes.opened in
      let cm = open_is_called P m passes.opened_too in
      let R = Written (Ended n m) ∷ [] in
      rw (tag_of_kept P R n cn, propagated_kept P R n cn, strings_of_kept P R n cn, shown_kept P R n cn, caller_of_kept P R n cn, words_of_kept P R n cn, buffers_of_kept P R m cm) refl

  sent_now : is_sent E n ≡ true
  sent_now = (changes P (Written (Ended n m))).sent n ∙ rw (eq-eqb n n refl) (or_true (is_sent P n))
    where
      or_true : (b : Bool) → (b || true) ≡ true
      or_true true = refl
      or_true false = refl

  no_message : message_at E n ≡ None
  unfolding is_unsent
  no_message = rw sent_now (gone (is_over E n) (to_of E n == nilthread))
    where
      gone : (a b : Bool) → (if not (a || true || b) then Some (message_of E n) else None) ≡ None
      gone true b = refl
      gone false b = refl

  module _ (taken : List ℕ) (old new : List Desk) (keeps : Keeps P taken old) where
    among_n : is_among n taken ≡ false
    among_n = untaken P taken old n keeps passes.opened

    at_receiver : desk_of E taken (number_of (caller_of P m)) ≡ finished (timed (now P) (received P n m)) (desk_of P taken (number_of (caller_of P m)))
    at_receiver = desk_ended P (Ended n m) legal follows taken m passes.opened_too (untaken P taken old m keeps passes.opened_too) over_receiver ∙ rw (eq-eqb m m refl) (ap (λ o. finished (timed (now P) o) (desk_of P taken (number_of (caller_of P m)))) received_same)

    at_sender_over : (from_of P n == nilthread) ≡ true → desk_of E taken (number_of (caller_of P n)) ≡ finished (timed (now P) (nothing n)) (desk_of P taken (number_of (caller_of P n)))
    at_sender_over nil = desk_ended P (Ended n m) legal follows taken n passes.opened among_n (over_sender ∙ nil) ∙ rw (ne_eqb m n (λ g. ended_apart (sym g))) refl

    at_sender_open : (from_of P n == nilthread) ≡ false → desk_of E taken (number_of (caller_of P n)) ≡ emptied (desk_of P taken (number_of (caller_of P n)))
    at_sender_open waits = desk_here P (Written (Ended n m)) legal follows taken refl n passes.opened (lives P (Ended n m) legal follows (number_of (caller_of P n))) ∙ rw (desk_open P legal taken n passes.opened) (rw (no_message, among_n, over_sender, waits, passes.opened, buffers_of_kept P (Written (Ended n m) ∷ []) n (open_is_called P n passes.opened)) refl)

    other : (k : ℕ) → k ≢ number_of (caller_of P n) → k ≢ number_of (caller_of P m) → desk_of E taken k ≡ desk_of P taken k
    other k p q = desk_beside P (Ended n m) legal follows taken k (λ t x live last. (ne_eqb m x (apart_call P (Ended n m) legal follows k m t x q live last), ne_eqb n x (apart_call P (Ended n m) legal follows k n t x p live last)))

    places : number_of (caller_of P n) ≢ number_of (caller_of P m)
    places = places_apart P legal n m passes.opened passes.opened_too ended_apart

    module _ (moved told : List Desk) (moves : Moved (number_of (caller_of P n)) (number_of (caller_of P m)) old moved) (tells : Changed (number_of (caller_of P m)) (finished (timed (now P) (received P n m))) moved told) where
      told_receiver : desk_at told (number_of (caller_of P m)) ≡ desk_of E taken (number_of (caller_of P m))
      told_receiver = tells.here ∙ (ap (finished (timed (now P) (received P n m))) (moves.receiver places) ∙ (ap (λ d. finished (timed (now P) (received P n m)) (unbuffered d)) (keeps.table (number_of (caller_of P m))) ∙ sym at_receiver))

      told_sender : desk_at told (number_of (caller_of P n)) ≡ emptied (desk_of P taken (number_of (caller_of P n)))
      told_sender = tells.beside (number_of (caller_of P n)) places ∙ (moves.sender places ∙ ap emptied (keeps.table (number_of (caller_of P n))))

      told_other : (k : ℕ) → k ≢ number_of (caller_of P n) → k ≢ number_of (caller_of P m) → desk_at told k ≡ desk_of E taken k
      told_other k p q = tells.beside k q ∙ (moves.beside k p q ∙ (keeps.table k ∙ sym (other k p q)))

      -- the sender waits on
      pub ended_keeps_open : (from_of P n == nilthread) ≡ false → Keeps E taken told
      ended_keeps_open waits = keeps_step P (Written (Ended n m)) legal follows taken refl old told keeps (tells.size ∙ (moves.size ∙ keeps.size)) (λ k. elim (cases_eq k (number_of (caller_of P n))) [
        | inl is ↦ rw is (told_sender ∙ sym (at_sender_open waits))
        | inr p ↦ elim (cases_eq k (number_of (caller_of P m))) [ inl is ↦ rw is told_receiver | inr q ↦ told_other k p q ]
      ])

      -- or its call is over
      pub ended_keeps_over : (from_of P n == nilthread) ≡ true → Changed (number_of (caller_of P n)) (finished (timed (now P) (nothing n))) told new → Keeps E taken new
      ended_keeps_over nil changed = keeps_step P (Written (Ended n m)) legal follows taken refl old new keeps (changed.size ∙ (tells.size ∙ (moves.size ∙ keeps.size))) (λ k. elim (cases_eq k (number_of (caller_of P n))) [
        | inl is ↦ rw is (changed.here ∙ (ap (finished (timed (now P) (nothing n))) told_sender ∙ sym (at_sender_over nil)))
        | inr p ↦ changed.beside k p ∙ elim (cases_eq k (number_of (caller_of P m))) [ inl is ↦ rw is told_receiver | inr q ↦ told_other k p q ]
      ])

  pub ended_finishes : (t : ℕ) → ((from_of P n == nilthread) ≡ true → is_named (record { first = Some (caller_of P n); second = Some (caller_of P m) }) t ≡ finishes P (Written (Ended n m)) t) × ((from_of P n == nilthread) ≡ false → is_named (record { first = None; second = Some (caller_of P m) }) t ≡ finishes P (Written (Ended n m)) t)
  ended_finishes t = (
    λ nil. same_tests _ _ (λ h. elim (or_cases _ _ h) [
      | inl a ↦ finishes_it P (Ended n m) legal follows n passes.opened (over_sender ∙ nil) t (eqb-true _ _ a)
      | inr b ↦ finishes_it P (Ended n m) legal follows m passes.opened_too over_receiver t (eqb-true _ _ b)
    ]) (λ h. elim (which h) [
      | inl a ↦ second_name (caller_of P m) t (Some (caller_of P n)) a
      | inr b ↦ some_name (caller_of P n) t (Some (caller_of P m)) b.1
    ]),
    λ waits. same_tests _ _ (λ h. finishes_it P (Ended n m) legal follows m passes.opened_too over_receiver t (eqb-true _ _ h)) (λ h. elim (which h) [
      | inl a ↦ second_name (caller_of P m) t None a
      | inr b ↦ not_both b.0 waits
    ]),
  )
    where
      which : finishes P (Written (Ended n m)) t ≡ true → (caller_of P m ≡ t) ⊎ (((from_of P n == nilthread) ≡ true) × (caller_of P n ≡ t))
      which h =
          let x = finished_is P (Ended n m) legal follows t h in
          elim (or_cases _ _ (ended_by P (Ended n m) legal follows t x)) [
            | inl a ↦ inl (ap (caller_of P) (eqb-true m x.number a) ∙ x.caller)
            | inr b ↦ (let same : n ≡ x.number = eqb-true n x.number (right _ _ b) in inr (rw same (left _ _ b), ap (caller_of P) same ∙ x.caller))
          ]

-- Offsets and counts are within a message

overflow_within : (strings : List (List ℕ)) (buffers : List (List Substring)) (offset : ℕ) → overflow_offset strings buffers ≡ Some offset → offset ≤ size_of strings
overflow_within [] buffers offset h = absurd (none-some offset h)
overflow_within (s ∷ strings) [] offset h = let e : 0 ≡ offset = same_Some 0 offset h in omega arith
overflow_within (s ∷ strings) (b ∷ buffers) offset h = go (nat_le (length s) (capacity b)) (overflow_offset strings buffers) (λ x. overflow_within strings buffers x) h
  where
    go : (t : Bool) (o : Option ℕ) → ((x : ℕ) → o ≡ Some x → x ≤ size_of strings) → cond t (option_map (λ x. length s + x) o) (Some 0) ≡ Some offset → offset ≤ size_of (s ∷ strings)
    go true None rest h = absurd (none-some offset h)
    go true (Some x) rest h =
        let same : length s + x ≡ offset = same_Some _ offset h in
        omega (arith, sum_by-cons (λ (s : List ℕ). length s) s strings, rest x refl)
    go false o rest h = let same : 0 ≡ offset = same_Some 0 offset h in omega arith

pub small_offset : (P : List Entry) (n m offset : ℕ) → Legal P → Follows P (Written (Overflowed n m offset)) → offset ≤ max_string_bytes
unfolding Follows message_size
small_offset P n m offset legal follows = omega (arith, overflow_within (strings_of P n) (buffers_of P m) offset (next_output_means P (Overflowed n m offset) follows).1, (normal_message P legal n).size)

pub small_count : (P : List Entry) (n m count : ℕ) → Legal P → Follows P (Written (Aborted n m count)) → count ≤ max_string_bytes
unfolding Follows
small_count P n m count legal follows = let c = (next_output_means P (Aborted n m count) follows).1 in omega (arith, c, moves_fit P legal n)

pub overflow_open : (P : List Entry) (n m offset : ℕ) → Follows P (Written (Overflowed n m offset)) → (is_over P n ≡ false) × (is_over P m ≡ false)
overflow_open P n m offset follows = both_open P (Overflowed n m offset) follows n m (refl, refl)

pub abort_open : (P : List Entry) (n m count : ℕ) → Follows P (Written (Aborted n m count)) → (is_over P n ≡ false) × (is_over P m ≡ false)
abort_open P n m count follows = both_open P (Aborted n m count) follows n m (refl, refl)

pub ended_open : (P : List Entry) (n m : ℕ) → Follows P (Written (Ended n m)) → (is_over P n ≡ false) × (is_over P m ≡ false)
ended_open P n m follows = both_open P (Ended n m) follows n m (refl, refl)

pub not_not : (b : Bool) → not b ≡ false → b ≡ true
not_not true h = refl
not_not false h = sym h

-- A transfer of a message without strings ends as soon as it has begun, wherever it begins.
use Rattle.std.proofs.lemmas.Bool.{false≢true, or_cases}
use Rattle.std.proofs.lemmas.Option.{none-some, same_Some}
use Rattle.std.proofs.Common.{◌≡◌, refl, sym, ap, ◌∙◌, subst, ℕ, ◌==◌, ◌||◌, ◌&&◌, eq-eqb, eqb-true, Bool, true, false, List, [], ◌∷◌, ◌++◌, Option, Some, None, option_and_then, inl, inr, arith}
use Rattle.std.specs.List.{list_any}
use Rattle.std.specs.Option.{option_or}
use Rattle.ipc_words.specs.ThreadId.{nilthread}
use Rattle.ipc_words.specs.Control.{stops_receive, stops_send}
use Rattle.ipc_items.specs.Fit.{overflow_offset}
use Rattle.ipc_history.specs.Words.{first_some, last}
use Rattle.ipc_history.specs.Entries.{ends}
use Rattle.ipc_history.specs.Calls.{numbers, caller_of, from_of, strings_of, buffers_of, message_size}
use Rattle.ipc_history.specs.Threads.{is_live, space_of}
use Rattle.ipc_history.specs.Phases.{receiver_of, sender_of, open_call, is_over, is_sending, is_transferring, is_receiving, moved_bytes}
use Rattle.ipc_history.specs.Matching.{shown_sender, from_specifier}
use Rattle.ipc_history.specs.NextOutput.{abort_send, abort_receive, stop, stop_send, stop_receive, stop_after, turn_after, end_of, partner_gone_of, meeting, meeting_of, timeout_of, next_output}
use Rattle.ipc_history.specs.Legal.{Legal, Follows}
use Rattle.ipc_history.specs.declared.entry.Entry.{Entry}
use Rattle.ipc_history.specs.declared.entry.Entry.TheVariants.{Given, Written}
use Rattle.ipc_history.specs.declared.entry.Input.TheVariants.{Exreg}
use Rattle.ipc_history.specs.declared.entry.Output.{Output}
use Rattle.ipc_history.specs.declared.entry.Output.TheVariants.{Began, Ended, Overflowed}
use Rattle.ipc_laws.specs.Locality.{Possible, Touched}
use Rattle.ipc_laws.specs.Locality.Possible.{Ends, LosesReceiver, LosesSender, LeftSending, LeftReceiving, Meets, Expires}
use Rattle.ipc_laws.specs.Locality.Touched.{Named, Lost, Due}
use Rattle.ipc_laws.proofs.Befores.{shown_kept}
use Rattle.ipc_laws.proofs.Changing.{any_push, changes}
use Rattle.ipc_laws.proofs.EntryTouches.{entries_touch}
use Rattle.ipc_laws.proofs.Gives.{Gives, Gives-and_then, Gives-first, Gives-if, Gives-or, map_or_cases}
use Rattle.ipc_laws.proofs.Gives.Gives.{Nothing, This}
use Rattle.ipc_laws.proofs.Growth.{caller_of_kept, open_is_called}
use Rattle.ipc_laws.proofs.Moving.{moved_within, size_same, transferring_whole}
use Rattle.ipc_laws.proofs.OutputLemmas.{next_output_means}
use Rattle.ipc_laws.proofs.Pairing.{sender_of_receiver, unended, unsent_unpaired}
use Rattle.ipc_laws.proofs.PhaseParts.{meets_parts, passes_parts}
use Rattle.ipc_laws.proofs.Places.{first_none}
use Rattle.ipc_laws.proofs.Settling.{legal_push, written_follows}
use Rattle.ipc_laws.proofs.Steps.{call_at_written, number_of_open}
use Rattle.ipc_laws.proofs.Giving.{after_output, end_is, first_is, passes_or_takes}

-- An output that begins no transfer

abbrev BeginsNone : Output → Type 0
BeginsNone o = (a b : ℕ) → o ≡ Began a b → ⊥

module _ (P : List Entry) where
  stop_begins_none : (control c : ℕ) → Gives BeginsNone (stop P control c)
  unfolding stop stop_send stop_receive abort_send abort_receive
  stop_begins_none control c = Gives-or
      (Gives-if (stops_send control) _ _ (λ s. Gives-if (is_sending P c) _ _ (λ p. This (λ a b e. absurd (cc))) (λ n. Gives-and_then _ (receiver_of P c) (λ m r. Gives-if (is_transferring P c m) _ _ (λ t. This (λ a b e. absurd (cc))) (λ t. Nothing)))) (λ s. Nothing))
      (Gives-if (stops_receive control) _ _ (λ s. Gives-if (is_receiving P c) _ _ (λ p. This (λ a b e. absurd (cc))) (λ n. Gives-and_then _ (sender_of P c) (λ k r. Gives-if (is_transferring P k c) _ _ (λ t. This (λ a b e. absurd (cc))) (λ t. Nothing)))) (λ s. Nothing))

  stop_after_none : (e : Entry) → Gives BeginsNone (stop_after P e)
  unfolding stop_after
  stop_after_none (Given (Exreg thread target control)) = Gives-if (is_live P target && (space_of P target == space_of P thread)) _ _ (λ p. Gives-and_then _ (open_call P target) (λ c e. stop_begins_none control c)) (λ q. Nothing)
  stop_after_none _ = Nothing

  turn_after_none : (e : Entry) → Gives BeginsNone (turn_after P e)
  unfolding turn_after
  turn_after_none (Written (Began n m)) = Gives-if (shown_sender P n == caller_of P n) _ _ (λ p. Nothing) (λ q. Gives-and_then _ (open_call P (shown_sender P n)) (λ r o. Gives-if (is_receiving P r && (from_specifier P r == caller_of P n)) _ _ (λ p. This (λ a b e. absurd (cc))) (λ q. Nothing)))
  turn_after_none _ = Nothing

  end_none : (k : ℕ) → (o : Output) → end_of P k ≡ Some o → BeginsNone o
  end_none k o given a b e = clash (end_is P k o given).0 (sym (end_is P k o given).3 ∙ e)
    where
      clash : (m : ℕ) → Ended k m ≡ Began a b → ⊥
      clash m same = absurd (cc)

  ends_none : Gives BeginsNone (first_some (end_of P) (numbers P))
  ends_none = Gives-first (end_of P) (numbers P) (λ k. each k (end_of P k) refl)
    where
      each : (k : ℕ) (o : Option Output) → end_of P k ≡ o → Gives BeginsNone (end_of P k)
      each k None e = subst (λ o. Gives BeginsNone o) (sym e) Nothing
      each k (Some x) e = subst (λ o. Gives BeginsNone o) (sym e) (This (end_none k x e))

  -- what stands before the later ones gives nothing
  none_before : (n m : ℕ) (a rest : Option Output) → Gives BeginsNone a → option_or a rest ≡ Some (Began n m) → (a ≡ None) × (rest ≡ Some (Began n m))
  none_before n m None rest gives e = (refl, e)
  none_before n m (Some x) rest (This none) e = absurd (none n m (same_Some x (Began n m) e))

  -- so where a transfer begins none has to end
  pub none_ends : (n m : ℕ) → next_output P ≡ Some (Began n m) → first_some (end_of P) (numbers P) ≡ None
  unfolding next_output
  none_ends n m begins =
      let gone = first_some (partner_gone_of P) (numbers P) in
      let meetings = first_some (meeting_of P) (numbers P) in
      let expiries = first_some (timeout_of P) (numbers P) in
      let ended = first_some (end_of P) (numbers P) in
      let turns = option_and_then (turn_after P) (last P) in
      let stops = option_and_then (stop_after P) (last P) in
      let after = none_before n m stops (option_or turns (option_or ended (option_or gone (option_or meetings expiries)))) (Gives-and_then _ (last P) (λ e l. stop_after_none e)) begins in
      let later = none_before n m turns (option_or ended (option_or gone (option_or meetings expiries))) (Gives-and_then _ (last P) (λ e l. turn_after_none e)) after.1 in
      (none_before n m ended (option_or gone (option_or meetings expiries)) ends_none later.1).0

-- a possible end is that of a transfer that has all its bytes copied
pub possible_end : (P : List Entry) (k j : ℕ) → Possible P (Ended k j) → (is_transferring P k j ≡ true) × (moved_bytes P k ≡ message_size P k)
unfolding meeting
possible_end P k j (Ends a b transfer full is) =
    let first : k ≡ a = cc in
    let second : j ≡ b = cc in
    (rw (first, second) transfer, rw first full)
possible_end P k j (LosesReceiver a gone is) = absurd (cc)
possible_end P k j (LosesSender a gone is) = absurd (cc)
possible_end P k j (LeftSending a b pair gone is) = absurd (cc)
possible_end P k j (LeftReceiving a b pair gone is) = absurd (cc)
possible_end P k j (Meets a b meets is) = absurd (map_or_cases (λ o. Ended k j ≡ o → ⊥) (λ offset. Overflowed a b offset) (overflow_offset (strings_of P a) (buffers_of P b)) (Began a b) (λ fits e. absurd (cc)) (λ offset at e. absurd (cc)) is)
possible_end P k j (Expires a due is) = absurd (cc)

nothing_added : (a b c d : Bool) → a ≡ false → b ≡ false → c ≡ false → d ≡ false → (a || b || c || d) ≡ false
nothing_added a b c d p q r s = grind arith

and_last : (a b : Bool) → b ≡ false → (a && b) ≡ false
and_last a b h = grind arith

or_none : (a b : Bool) → a ≡ false → b ≡ false → (a || b) ≡ false
or_none a b p q = grind arith

module _ (Q : List Entry) (n m : ℕ) (legal : Legal Q) (begins : next_output Q ≡ Some (Began n m)) (empty : message_size Q n ≡ 0) (itself : shown_sender Q n ≡ caller_of Q n) where
  abbrev B : Entry
  B = Written (Began n m)

  abbrev R : List Entry
  R = Q ++ Written (Began n m) ∷ []

  follows : Follows Q B
  follows = written_follows Q (Began n m) begins

  legal_then : Legal R
  legal_then = legal_push Q B legal follows

  still_open : (k : ℕ) → is_over Q k ≡ false → is_over R k ≡ false
  still_open k o = (changes Q B).over k (open_is_called Q k o) ∙ nothing_added (is_over Q k) false false ((from_of Q k == nilthread) && false) o refl refl (and_last (from_of Q k == nilthread) false refl)

  opened : is_over R n ≡ false
  opened = still_open n (meets_parts Q n m (next_output_means Q (Began n m) begins).0).sends.opened

  opened_too : is_over R m ≡ false
  opened_too = still_open m (meets_parts Q n m (next_output_means Q (Began n m) begins).0).receives.opened

  unpaired : receiver_of Q n ≡ None
  unpaired = (meets_parts Q n m (next_output_means Q (Began n m) begins).0).sends.unpaired

  pair : receiver_of R n ≡ Some m
  pair = (changes Q B).receiver n ∙ rw (unpaired, eq-eqb n n refl) refl

  runs : list_any (ends n m) R ≡ false
  runs = any_push (ends n m) Q B ∙ or_none (list_any (ends n m) Q) false (unended Q n m (unsent_unpaired Q legal n unpaired)) refl

  passes : is_transferring R n m ≡ true
  passes = transferring_whole R n m (record { pair = pair; running = runs; opened = opened; opened_too = opened_too })

  size : message_size R n ≡ 0
  size = size_same Q R n (call_at_written Q (Began n m) n) ∙ empty

  moved : moved_bytes R n ≡ message_size R n
  moved = let within = moved_within R legal_then n in omega (arith, within, size)

  ends_it : end_of R n ≡ Some (Ended n m)
  unfolding end_of
  ends_it = rw (pair, passes, eq-eqb (moved_bytes R n) (message_size R n) moved) refl

  -- a transfer that was there had bytes left
  none_had : (k j : ℕ) → Possible Q (Ended k j) → ⊥
  unfolding end_of
  none_had k j possible =
      let p = possible_end Q k j possible in
      let q = passes_parts Q k j p.0 in
      let gives : end_of Q k ≡ Some (Ended k j) = rw (q.pair, p.0, eq-eqb (moved_bytes Q k) (message_size Q k) p.1) refl in
      none-some (Ended k j) (sym (first_none (end_of Q) (numbers Q) k (number_of_open Q k q.opened) (none_ends Q n m begins)) ∙ gives)

  alone : (k : ℕ) (o : Output) → end_of R k ≡ Some o → o ≡ Ended n m
  alone k o e =
      let p = end_is R k o e in
      let j = p.0 in
      let transfer : is_transferring R k j ≡ true = p.1 in
      let its = (passes_parts R k j transfer).pair in
      let from : k ≡ n → o ≡ Ended n m = (λ same. (let receiver : j ≡ m = same_Some j m (sym its ∙ (ap (receiver_of R) same ∙ pair)) in p.3 ∙ (ap (λ k. Ended k j) same ∙ ap (Ended n) receiver))) in
      let of_sender : ((k == n) || (j == n)) ≡ true → o ≡ Ended n m = (λ h. elim (or_cases (k == n) (j == n) h) [
        | inl x ↦ from (eqb-true k n x)
        | inr y ↦ absurd (passes_or_takes R legal_then n m k passes (subst (λ j. is_transferring R k j ≡ true) (eqb-true j n y) transfer))
      ]) in
      let of_receiver : ((k == m) || (j == m)) ≡ true → o ≡ Ended n m = (λ h. elim (or_cases (k == m) (j == m) h) [
        | inl x ↦ absurd (passes_or_takes R legal_then m j n (subst (λ k. is_transferring R k j ≡ true) (eqb-true k m x) transfer) passes)
        | inr y ↦ from (same_Some k n (sym (sender_of_receiver R legal_then k m (subst (λ j. receiver_of R k ≡ Some j) (eqb-true j m y) its)) ∙ sender_of_receiver R legal_then n m pair))
      ]) in
      elim (entries_touch Q B legal follows (Ended k j) (Ends k j transfer p.2 refl)) [ inl before ↦ absurd (none_had k j before) | inr touched ↦ go j of_sender of_receiver touched ]
    where
      go : (j : ℕ) → (((k == n) || (j == n)) ≡ true → o ≡ Ended n m) → (((k == m) || (j == m)) ≡ true → o ≡ Ended n m) → Touched Q B (Ended k j) → o ≡ Ended n m
      go j sender receiver (Named i a b) = elim (or_cases (n == i) (m == i) a) [
        | inl x ↦ sender (subst (λ i. ((k == i) || (j == i)) ≡ true) (sym (eqb-true n i x)) b)
        | inr y ↦ receiver (subst (λ i. ((k == i) || (j == i)) ≡ true) (sym (eqb-true m i y)) b)
      ]
      go j sender receiver (Lost thread i code b why is) = absurd (false≢true b)
      go j sender receiver (Due moment i comes due is) = absurd (none-some moment comes)

  turns_none : turn_after R B ≡ None
  unfolding turn_after
  turns_none =
      let called = open_is_called Q n (meets_parts Q n m (next_output_means Q (Began n m) begins).0).sends.opened in
      rw (shown_kept Q (B ∷ []) n called, caller_of_kept Q (B ∷ []) n called, itself, eq-eqb (caller_of Q n) (caller_of Q n) refl) refl

  pub ends_next : next_output R ≡ Some (Ended n m)
  ends_next = after_output Q (Began n m) turns_none ∙ rw (first_is (end_of R) (numbers R) n (Ended n m) (number_of_open R n opened) ends_it alone) refl

-- What a pair says of its message: it is whole, and which sender it shows.
use Rattle.std.proofs.lemmas.List.Sums.{sum_by-cons}
use Rattle.std.proofs.Common.{◌≡◌, refl, sym, ap, ◌∙◌, ℕ, ◌+◌, Bool, true, false, ◌==◌, eqb-true, eq-eqb, if◌then◌else◌, List, [], ◌∷◌, ◌++◌, length, take_at, ap₂, subst, add-zero, zero-add, Some, None, sum_by, ◌⊎◌, inl, inr, arith}
use Rattle.ipc_items.specs.Fit.{overflow_offset}
use Rattle.ipc_history.specs.Words.{first_some}
use Rattle.ipc_history.specs.Entries.{ends, count_in}
use Rattle.ipc_history.specs.Calls.{is_called, caller_of, to_of, originator_of, tag_of, words_of, strings_of, buffers_of, message_size}
use Rattle.ipc_history.specs.Threads.{has_broken}
use Rattle.ipc_history.specs.Phases.{moved_bytes}
use Rattle.ipc_history.specs.Matching.{is_propagated, shown_sender, accepts}
use Rattle.ipc_history.specs.Legal.{Legal}
use Rattle.ipc_items.specs.Pieces.{simple_items}
use Rattle.ipc_history.specs.Outcomes.{end_moment, outcome_in, received, timed}
use Rattle.ipc_history.specs.Paired.{IsPair, Delivers, IsWhole, IsPermitted, IsShown}
use Rattle.ipc_history.specs.declared.entry.Entry.{Entry}
use Rattle.ipc_history.specs.declared.entry.Entry.TheVariants.{Given, Written}
use Rattle.ipc_history.specs.declared.entry.Input.TheVariants.{Moved}
use Rattle.ipc_history.specs.declared.entry.Output.TheVariants.{Began, Ended}
use Rattle.ipc_laws.proofs.Befores.{shown_kept}
use Rattle.ipc_laws.proofs.Growth.{any_kept, buffers_of_kept, caller_of_kept, moved_append, open_is_called, open_is_not_closed, size_kept, strings_of_kept, to_of_kept}
use Rattle.ipc_laws.proofs.Histories.{admitted_at, began_place, ended_place, means_at, moving_passes}
use Rattle.ipc_laws.proofs.JoinedPieces.{joined_all}
use Rattle.ipc_laws.proofs.Normal.{few_strings}
use Rattle.ipc_laws.proofs.Order.{ended_over, ended_sent}
use Rattle.ipc_laws.proofs.Pairing.{ended_at, ended_pair, legal_before, meets_at, passes_at, unsent_running}
use Rattle.ipc_laws.proofs.PhaseParts.{Meets, Passes}
use Rattle.ipc_laws.proofs.Places.{Place, first_at, place_after}
use Rattle.ipc_laws.proofs.Tests.{left, not_both, right}
use Rattle.ipc_laws.proofs.Told.{label_back, outcome_is, told_none, untyped_back}

-- Nothing moves once the send has ended

both_zero : (a b : ℕ) → a ≡ 0 → b ≡ 0 → a + b ≡ 0
both_zero a b p q = omega arith

moved_none : (xs : List Entry) (n : ℕ) → ((e : Entry) → Place xs e → count_in n e ≡ 0) → moved_bytes xs n ≡ 0
unfolding moved_bytes
moved_none [] n h = refl
moved_none (x ∷ xs) n h = sum_by-cons (count_in n) x xs ∙ both_zero (count_in n x) (sum_by (count_in n) xs) (h x (record { front = []; rest = xs; whole = refl })) (moved_none xs n (λ e at. h e (record { front = x ∷ at.front; rest = at.rest; whole = ap (λ l. x ∷ l) at.whole })))

moved_output : (n k m : ℕ) (rest : List Entry) → moved_bytes (Written (Ended k m) ∷ rest) n ≡ moved_bytes rest n
unfolding moved_bytes
moved_output n k m rest = sum_by-cons (count_in n) (Written (Ended k m)) rest ∙ zero-add (sum_by (count_in n) rest)

module _ (H : List Entry) (h : Legal H) (n m : ℕ) (ended : IsPair H n m) where
  end : Place H (Written (Ended n m))
  end = ended_place H n m ended

  ending : Passes end.front n m
  ending = passes_at H h n m end

  none_moves : (e : Entry) → Place end.rest e → count_in n e ≡ 0
  none_moves (Given (Moved k count)) later = go (k == n) refl
    where
      go : (b : Bool) → (k == n) ≡ b → (if k == n then count else 0) ≡ 0
      go false e = rw e refl
      go true e =
          let same : k ≡ n = eqb-true k n e in
          let there = place_after H _ _ end later in
          let p = moving_passes there.front k count (admitted_at H h (Moved k count) there) in
          let unsent = unsent_running there.front (legal_before H h _ there) k p.0 p.1.pair p.1.running in
          not_both (ended_sent there.front n m (any_kept (ends n m) (end.front ++ Written (Ended n m) ∷ []) later.front (ended_at _ n m (record { front = end.front; rest = []; whole = refl })))) (rw same at unsent)
  none_moves _ later = refl

  called : is_called end.front n ≡ true
  called = open_is_called end.front n ending.opened

  all_moved : moved_bytes H n ≡ message_size H n
  all_moved =
      let whole : H ≡ end.front ++ Written (Ended n m) ∷ end.rest = end.whole in
      let done : moved_bytes end.front n ≡ message_size end.front n = (means_at H h (Ended n m) end).1 in
      let none : moved_bytes (Written (Ended n m) ∷ end.rest) n ≡ 0 = moved_output n n m end.rest ∙ moved_none end.rest n none_moves in
      rw whole (moved_append end.front _ n ∙ (ap₂ (λ a b. a + b) done none ∙ (add-zero (message_size end.front n) ∙ sym (size_kept end.front _ n called))))

  begin : Place H (Written (Began n m))
  begin = began_place H n m (ended_pair H h n m ended)

  meeting : Meets begin.front n m
  meeting = meets_at H h n m begin

  sender_called : is_called begin.front n ≡ true
  sender_called = open_is_called begin.front n meeting.sends.opened

  receiver_called : is_called begin.front m ≡ true
  receiver_called = open_is_called begin.front m meeting.receives.opened

  to_caller : to_of H n ≡ caller_of H m
  to_caller = rw begin.whole (to_of_kept begin.front _ n sender_called ∙ (meeting.same ∙ sym (caller_of_kept begin.front _ m receiver_called)))

  fitted : overflow_offset (strings_of H n) (buffers_of H m) ≡ None
  fitted = rw (begin.whole, strings_of_kept begin.front _ n sender_called, buffers_of_kept begin.front _ m receiver_called) (means_at H h (Began n m) begin).1

  told : first_some (outcome_in H m) H ≡ Some (received H n m)
  told = first_at (outcome_in H m) H (Written (Ended n m)) (received H n m) end (told_none H m end.front (open_is_not_closed end.front m ending.opened_too)) (rw (eq-eqb m m refl) refl)

  delivers : has_broken H (caller_of H m) ≡ false → Delivers H n m
  delivers b = record {
    told = timed (end_moment H m) (received H n m);
    is_told = outcome_is H m (received H n m) (ended_over H n m ended) b told;
    tag = refl;
    label = label_back (is_propagated H n) (length (strings_of H n)) (tag_of H n) (few_strings H h n);
    untyped = untyped_back (is_propagated H n) (length (strings_of H n)) (tag_of H n) (few_strings H h n);
    words = take_at (words_of H n) (simple_items (buffers_of H m) (strings_of H n)) (length (words_of H n)) refl;
    strings = joined_all (buffers_of H m) (strings_of H n) fitted;
    sender = refl;
  }

  pub is_whole : IsWhole H n m
  is_whole = record { to_caller = to_caller; all_moved = all_moved; fitted = fitted; delivered = delivers }

  permitted : is_propagated H n ≡ true → IsPermitted H n
  unfolding is_propagated
  permitted p = record { live = right _ _ (left _ _ p); same_space = eqb-true _ _ (right _ _ p) }

  who : (shown_sender H n ≡ caller_of H n) ⊎ ((shown_sender H n ≡ originator_of H n) × IsPermitted H n)
  unfolding shown_sender
  who = go (is_propagated H n) refl
    where
      go : (b : Bool) → is_propagated H n ≡ b → (shown_sender H n ≡ caller_of H n) ⊎ ((shown_sender H n ≡ originator_of H n) × IsPermitted H n)
      go true e = inr (rw e refl, permitted e)
      go false e = inl (rw e refl)

  same_shown : shown_sender begin.front n ≡ shown_sender H n
  same_shown = sym (shown_kept begin.front _ n sender_called) ∙ ap (λ l. shown_sender l n) (sym begin.whole)

  pub is_shown : IsShown H n m
  is_shown = record { who = who; front = begin.front; rest = begin.rest; began = begin.whole; wanted = subst (λ sender. accepts begin.front m sender ≡ true) same_shown meeting.wanted }

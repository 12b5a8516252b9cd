-- What one more entry makes of what is kept for a call.
use Rattle.std.proofs.Common.{◌≡◌, refl, ap, ◌∙◌, ℕ, Bool, true, false, ◌||◌, ◌&&◌, ◌==◌, if◌then◌else◌, List, [], ◌∷◌, ◌++◌, arith}
use Rattle.std.specs.Option.{option_map_or}
use Rattle.ipc_words.specs.ThreadId.{nilthread}
use Rattle.ipc_history.specs.Entries.{breaks, closes, ends_send}
use Rattle.ipc_history.specs.Calls.{is_called, caller_of, from_of, buffers_of}
use Rattle.ipc_history.specs.Threads.{has_broken}
use Rattle.ipc_history.specs.Phases.{is_over, is_sent}
use Rattle.ipc_history.specs.Legal.{Legal, Follows}
use Rattle.ipc_history.specs.Outcomes.{outcome_of}
use Rattle.ipc_history.specs.declared.entry.Entry.{Entry}
use Rattle.ipc_laws.proofs.Changing.{changes}
use Rattle.ipc_laws.proofs.Growth.{buffers_of_kept, caller_of_kept, originator_of_kept, strings_of_kept, tag_of_kept, to_of_kept, words_of_kept}
use Rattle.ipc_laws.proofs.Lasting.{outcome_kept}
use Rattle.ipc_laws.proofs.Settling.{legal_push}
use Rattle.ipc_laws.proofs.ThreadChanges.{has_broken_push}
use Rattle.ipc_desks.specs.CallsOf.{is_among}
use Rattle.ipc_desks.specs.Desks.{is_unsent, message_at, told_at}
use Rattle.ipc_desks.specs.Messages.{message_of}
use Rattle.ipc_desks.specs.declared.desk.Told.TheVariants.{Nothing, Waiting, Ready}

pub message_kept : (P Q : List Entry) (n : ℕ) → is_called P n ≡ true → message_of (P ++ Q) n ≡ message_of P n
unfolding message_of
message_kept P Q n c = rw (tag_of_kept P Q n c, originator_of_kept P Q n c, words_of_kept P Q n c, strings_of_kept P Q n c) refl

none_added : (a f : Bool) → (a || false || false || (f && false)) ≡ a
none_added a f = grind arith

or_no : (b : Bool) → (b || false) ≡ b
or_no b = grind arith

-- a call that the entry does not end
module _ (P : List Entry) (e : Entry) (legal : Legal P) (follows : Follows P e) (n : ℕ) (c : is_called P n ≡ true) (lives : breaks (caller_of P n) e ≡ false) (unclosed : closes n e ≡ false) (unended : ends_send n e ≡ false) where
  pub over_same : is_over (P ++ e ∷ []) n ≡ is_over P n
  over_same = (changes P e).over n c ∙ rw (unclosed, lives, unended) (none_added (is_over P n) (from_of P n == nilthread))

  sent_same : is_sent (P ++ e ∷ []) n ≡ is_sent P n
  sent_same = (changes P e).sent n ∙ (ap (λ b. is_sent P n || b) unended ∙ or_no (is_sent P n))

  unsent_same : is_unsent (P ++ e ∷ []) n ≡ is_unsent P n
  unfolding is_unsent
  unsent_same = rw (over_same, sent_same, to_of_kept P (e ∷ []) n c) refl

  pub message_at_same : message_at (P ++ e ∷ []) n ≡ message_at P n
  message_at_same = rw (unsent_same, message_kept P (e ∷ []) n c) refl

  module _ (alive : has_broken P (caller_of P n) ≡ false) where
    outcome_same : is_over P n ≡ true → outcome_of (P ++ e ∷ []) n ≡ outcome_of P n
    outcome_same over = outcome_kept P (e ∷ []) (legal_push P e legal follows) n c over (ap (has_broken (P ++ e ∷ [])) (caller_of_kept P (e ∷ []) n c) ∙ (has_broken_push P e (caller_of P n) lives ∙ alive))

    pub told_at_same : (taken : List ℕ) → told_at (P ++ e ∷ []) taken n ≡ told_at P taken n
    told_at_same taken = rw (over_same, buffers_of_kept P (e ∷ []) n c) (ap (λ t. if is_among n taken then Nothing else t) (go (is_over P n) refl))
      where
        go : (b : Bool) → is_over P n ≡ b → (if b then option_map_or (λ o. Ready o) (outcome_of (P ++ e ∷ []) n) Nothing else Waiting n (buffers_of P n)) ≡ (if b then option_map_or (λ o. Ready o) (outcome_of P n) Nothing else Waiting n (buffers_of P n))
        go true over = ap (λ o. option_map_or (λ o. Ready o) o Nothing) (outcome_same over)
        go false over = refl

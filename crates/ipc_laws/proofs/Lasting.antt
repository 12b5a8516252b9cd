-- An outcome stays: no later entry speaks of a call that is over, and what was said of it stays
-- what it was.
use Rattle.std.proofs.lemmas.Bool.{false_from_ne_true}
use Rattle.std.proofs.Common.{◌≡◌, refl, sym, ap, ap₂, ◌∙◌, ℕ, Bool, true, false, ◌==◌, if◌then◌else◌, List, ◌++◌, Some, None}
use Rattle.std.specs.List.{list_any}
use Rattle.std.specs.Option.{option_or}
use Rattle.ipc_history.specs.Words.{first_some}
use Rattle.ipc_history.specs.Entries.{closes}
use Rattle.ipc_history.specs.Calls.{is_called, caller_of}
use Rattle.ipc_history.specs.Threads.{has_broken}
use Rattle.ipc_history.specs.Phases.{is_over}
use Rattle.ipc_history.specs.Legal.{Legal}
use Rattle.ipc_history.specs.Outcomes.{outcome_in, outcome_of, received}
use Rattle.ipc_history.specs.declared.entry.Entry.{Entry}
use Rattle.ipc_history.specs.declared.entry.Entry.TheVariants.{Written}
use Rattle.ipc_history.specs.declared.entry.Output.TheVariants.{Ended, Overflowed, Aborted, Failed}
use Rattle.ipc_laws.proofs.Befores.{propagated_kept, shown_kept}
use Rattle.ipc_laws.proofs.IdleOutputs.{first_some_agrees}
use Rattle.ipc_laws.proofs.EndMoments.{end_moment_kept}
use Rattle.ipc_laws.proofs.Endings.{closes_names}
use Rattle.ipc_laws.proofs.Growth.{buffers_of_kept, caller_of_kept, has_broken_append, is_called_kept, open_is_called, over_kept, strings_of_kept, tag_of_kept, words_of_kept}
use Rattle.ipc_laws.proofs.Histories.{follows_at, legal_front, named_open}
use Rattle.ipc_laws.proofs.Pairing.{passes_at}
use Rattle.ipc_laws.proofs.Places.{Place, any_place, place_behind}
use Rattle.ipc_laws.proofs.Tests.{neither_left, not_both}
use Rattle.ipc_laws.proofs.Told.{told_none}
use Rattle.ipc_laws.proofs.WordLemmas.{first_some_append, option_or_none}

-- what a received message says depends on the two calls alone
received_kept : (P Q : List Entry) (k m : ℕ) → is_called P k ≡ true → is_called P m ≡ true → received (P ++ Q) k m ≡ received P k m
received_kept P Q k m ck cm = rw (tag_of_kept P Q k ck, propagated_kept P Q k ck, strings_of_kept P Q k ck, shown_kept P Q k ck, caller_of_kept P Q k ck, words_of_kept P Q k ck, buffers_of_kept P Q m cm) refl

module _ (P Q : List Entry) (h : Legal (P ++ Q)) (n : ℕ) (called : is_called P n ≡ true) where
  -- so each entry of the first part tells the same
  tells : (e : Entry) → Place P e → outcome_in (P ++ Q) n e ≡ outcome_in P n e
  tells (Written (Ended k m)) at = go (m == n) refl
    where
      go : (b : Bool) → (m == n) ≡ b → (if b then Some (received (P ++ Q) k n) else None) ≡ (if b then Some (received P k n) else None)
      go false e = refl
      go true e =
          let p = passes_at P (legal_front P Q h) k m at in
          let there : is_called P k ≡ true = rw at.whole (is_called_kept at.front _ k (open_is_called at.front k p.opened)) in
          ap (λ t. Some t) (received_kept P Q k n there called)
  tells (Written (Failed k code)) at = refl
  tells (Written (Overflowed k m offset)) at = refl
  tells (Written (Aborted k m count)) at = refl
  tells _ at = refl

  -- none of the second part closes a call that is over
  closes_no_more : is_over P n ≡ true → list_any (closes n) Q ≡ false
  closes_no_more over = false_from_ne_true _ (λ some.
      let t = any_place (closes n) Q some in
      let at = place_behind P Q t.0 t.1 in
      let named = closes_names n t.0 t.2 in
      not_both (over_kept P t.1.front n called over) (named_open at.front t.0 (follows_at (P ++ Q) h t.0 at) n named.0 named.1))

  same_told : is_over P n ≡ true → first_some (outcome_in (P ++ Q) n) (P ++ Q) ≡ first_some (outcome_in P n) P
  same_told over =
      let none = told_none (P ++ Q) n Q (closes_no_more over) in
      let first = first_some_agrees (outcome_in (P ++ Q) n) (outcome_in P n) P tells in
      first_some_append (outcome_in (P ++ Q) n) P Q ∙ (ap₂ (λ a b. option_or a b) first none ∙ option_or_none _)

  pub outcome_kept : is_over P n ≡ true → has_broken (P ++ Q) (caller_of (P ++ Q) n) ≡ false → outcome_of (P ++ Q) n ≡ outcome_of P n
  unfolding outcome_of
  outcome_kept over lives =
      let same = caller_of_kept P Q n called in
      let unbroken : has_broken (P ++ Q) (caller_of P n) ≡ false = rw same at lives in
      let before : has_broken P (caller_of P n) ≡ false = neither_left _ _ (sym (has_broken_append P Q (caller_of P n)) ∙ unbroken) in
      rw (over_kept P Q n called over, lives, over, before, same_told over, end_moment_kept P Q n called over before) refl

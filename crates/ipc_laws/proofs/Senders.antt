-- Whose send was received sees an outcome without E, or an ErrorCode with p=1.
use Rattle.std.proofs.lemmas.Bool.{eqb-false, ne_eqb, false_from_ne_true}
use Rattle.std.proofs.lemmas.Option.{none-some, cond_some, same_Some}
use Rattle.std.proofs.Common.{◌≡◌, refl, sym, ap, ◌∙◌, ℕ, ◌*◌, ◌%◌, ◌≤◌, Bool, true, false, not, ◌||◌, ◌&&◌, ◌==◌, if◌then◌else◌, List, length, Option, Some, None, unwrap_or, ◌⊎◌, inl, inr, arith}
use Rattle.ipc_history.specs.Words.{first_some}
use Rattle.ipc_history.specs.Entries.{fails_send}
use Rattle.ipc_history.specs.Calls.{caller_of, tag_of, strings_of}
use Rattle.ipc_history.specs.Threads.{has_broken}
use Rattle.ipc_history.specs.Phases.{is_over}
use Rattle.ipc_history.specs.Matching.{is_propagated}
use Rattle.ipc_history.specs.Legal.{Legal}
use Rattle.ipc_words.specs.MsgTag.{has_failed}
use Rattle.ipc_words.specs.TagFields.{received_tag}
use Rattle.ipc_history.specs.Outcomes.{OutcomeParts, end_moment, outcome_in, outcome_of, failure, received, nothing, timed}
use Rattle.ipc_history.specs.Paired.{IsPair}
use Rattle.ipc_history.specs.declared.entry.Entry.{Entry}
use Rattle.ipc_history.specs.declared.entry.Entry.TheVariants.{Written}
use Rattle.ipc_history.specs.declared.entry.Output.TheVariants.{Ended, Overflowed, Aborted, Failed}
use Rattle.ipc_laws.proofs.Endings.{spoiled_unsent}
use Rattle.ipc_laws.proofs.Normal.{few_strings}
use Rattle.ipc_laws.proofs.Order.{ended_sent}
use Rattle.ipc_laws.proofs.Places.{Place, any_at, first_place}
use Rattle.ipc_laws.proofs.Tests.{not_both}

abbrev Sees : OutcomeParts → Type 0
Sees told = (has_failed told.tag ≡ false) ⊎ (told.error % 2 ≡ 1)

not_failed : (p : Bool) (strings tag : ℕ) → strings ≤ 31 → has_failed (received_tag tag (2 * strings) p) ≡ false
not_failed true strings tag h = ne_eqb _ _ (omega arith)
not_failed false strings tag h = ne_eqb _ _ (omega arith)

-- the outcome is what the first entry tells that tells something, else nothing
told_is : (over broken : Bool) (moment : ℕ) (o : Option OutcomeParts) (d told : OutcomeParts) → (if not over || broken then None else Some (timed moment (unwrap_or o d))) ≡ Some told → timed moment (unwrap_or o d) ≡ told
told_is true false moment o d told h = same_Some _ _ h
told_is true true moment o d told h = absurd (none-some told h)
told_is false broken moment o d told h = absurd (none-some told h)

-- a test of two, of which the first isn't passed
second_told : (a b : Bool) (s t u : OutcomeParts) → a ≡ false → (if a then Some s else (if b then Some t else None)) ≡ Some u → t ≡ u
second_told false true s t u n h = same_Some t u h
second_told false false s t u n h = absurd (none-some u h)
second_told true b s t u n h = absurd (cc)

module _ (H : List Entry) (h : Legal H) (n m : ℕ) (pair : IsPair H n m) where
  -- no entry ends the send of n otherwise
  unspoiled : (e : Entry) → Place H e → fails_send n e ≡ false
  unspoiled e at = false_from_ne_true _ (λ f. not_both (ended_sent H n m pair) (spoiled_unsent H h n (any_at (fails_send n) H e at f)))

  sees : (t : OutcomeParts) (e : Entry) → Place H e → outcome_in H n e ≡ Some t → Sees t
  sees t (Written (Failed k code)) at g =
      let c = cond_some (k == n) (failure n code) t g in
      let even : (code % 2 == 0) ≡ false = only (k == n) (code % 2 == 0) c.0 (unspoiled (Written (Failed k code)) at) in
      rw (← c.1) (inr (odd code (eqb-false (code % 2) 0 even)))
    where
      only : (a b : Bool) → a ≡ true → (a && b) ≡ false → b ≡ false
      only a b p q = grind arith

      odd : (code : ℕ) → (code % 2 ≡ 0 → ⊥) → code % 2 ≡ 1
      odd code p = omega arith
  sees t (Written (Overflowed k j offset)) at g = rw (← second_told (k == n) (j == n) _ _ t (unspoiled (Written (Overflowed k j offset)) at) g) (inr (omega arith))
  sees t (Written (Aborted k j count)) at g = rw (← second_told (k == n) (j == n) _ _ t (unspoiled (Written (Aborted k j count)) at) g) (inr (omega arith))
  sees t (Written (Ended k j)) at g = rw (← (cond_some (j == n) (received H k n) t g).1) (inl (not_failed (is_propagated H k) (length (strings_of H k)) (tag_of H k) (few_strings H h k)))
  sees t _ at g = absurd (none-some t g)

  pub sender_sees : (told : OutcomeParts) → outcome_of H n ≡ Some told → Sees told
  unfolding outcome_of
  sender_sees told e = go (first_some (outcome_in H n) H) refl (told_is (is_over H n) (has_broken H (caller_of H n)) (end_moment H n) (first_some (outcome_in H n) H) (nothing n) told e)
    where
      go : (o : Option OutcomeParts) → first_some (outcome_in H n) H ≡ o → timed (end_moment H n) (unwrap_or (first_some (outcome_in H n) H) (nothing n)) ≡ told → Sees told
      go None f t = rw (← (sym (ap (λ o. timed (end_moment H n) (unwrap_or o (nothing n))) f) ∙ t)) (inl refl)
      go (Some u) f t =
          let p = first_place (outcome_in H n) H u f in
          let same : timed (end_moment H n) u ≡ told = sym (ap (λ o. timed (end_moment H n) (unwrap_or o (nothing n))) f) ∙ t in
          rw (← same) (sees u p.0 p.1 p.2)

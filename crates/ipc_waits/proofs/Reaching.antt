-- The receiving call that a call of words reaches as soon as it is entered: the open call of the
-- thread that it sends to.
use Rattle.std.proofs.lemmas.Option.{none-some, same_Some}
use Rattle.std.proofs.Common.{◌≡◌, refl, sym, ap₂, ◌∙◌, subst, ℕ, ◌==◌, eqb-true, Bool, true, false, not, ◌&&◌, List, [], ◌∷◌, length, Some, None, option_map, arith}
use Rattle.ipc_words.specs.ThreadId.{nilthread}
use Rattle.ipc_words.specs.MsgTag.{propagates}
use Rattle.ipc_history.specs.CallParts.{CallParts}
use Rattle.ipc_history.specs.Calls.{caller_of}
use Rattle.ipc_history.specs.Threads.{is_live}
use Rattle.ipc_history.specs.Phases.{is_over, open_call, is_receiving}
use Rattle.ipc_history.specs.Matching.{accepts}
use Rattle.ipc_history.specs.Legal.{Legal}
use Rattle.ipc_history.specs.declared.entry.Entry.{Entry}
use Rattle.ipc_laws.specs.Exchange.{Reaches}
use Rattle.ipc_laws.proofs.OpenCalls.{caller_lives}
use Rattle.ipc_laws.proofs.PhaseParts.{receives_parts}
use Rattle.ipc_laws.proofs.Tests.{left, not_both, right}
use Rattle.ipc_waits.specs.Rules.{awaits_by, sends_words_by}
use Rattle.ipc_threads.specs.Standings.{IsStanding, standing_of}
use Rattle.ipc_threads.specs.Slots.{Stands, space_in}
use Rattle.ipc_threads.specs.declared.slot.Standing.{Standing}
use Rattle.ipc_threads.specs.declared.kept.KeptSlots.{KeptSlots}
use Rattle.ipc_threads.proofs.Lookups.{call_up, space_found}
use Rattle.ipc_threads.proofs.StandingSteps.{found, own}
use Rattle.ipc_waits.proofs.Meets.{receiving_kept}

no_length : (n : ℕ) → (n == 0) ≡ true → n ≡ 0
no_length n h = eqb-true n 0 h

no_items : {X : Type 0} (xs : List X) → length xs ≡ 0 → xs ≡ []
no_items [] h = refl
no_items (x ∷ xs) h = absurd (omega arith)

not_true : (b : Bool) → not b ≡ true → b ≡ false
not_true b h = grind arith

standing_caller : (P : List Entry) (n : ℕ) → (standing_of P n).caller ≡ caller_of P n
unfolding standing_of
standing_caller P n = refl

all_three : (a b c : Bool) → a ≡ false → b ≡ false → c ≡ true → (not a && not b && c) ≡ true
all_three a b c f g h = grind arith

module _ (P : List Entry) (slots : KeptSlots) (legal : Legal P) (stands : Stands P slots) (t : ℕ) (live : is_live P t ≡ true) where
  -- of an open call that waits to receive
  awaits_is : (m : ℕ) → is_over P m ≡ false → awaits_by t (space_in slots.table t == space_in slots.table (caller_of P m)) (standing_of P m) ≡ (is_receiving P m && accepts P m t)
  unfolding standing_of accepts
  awaits_is m o = rw (space_found P slots legal stands t live, space_found P slots legal stands (caller_of P m) (caller_lives P legal m o), receiving_kept P legal m o) refl

  pub awaits_it : (s : Standing) → IsStanding P s → awaits_by t (space_in slots.table t == space_in slots.table s.caller) s ≡ (is_receiving P s.number && accepts P s.number t)
  unfolding standing_of
  awaits_it s is =
      subst (λ s. awaits_by t (space_in slots.table t == space_in slots.table s.caller) s ≡ (is_receiving P s.number && accepts P s.number t)) (sym is.is)
      (subst (λ u. awaits_by t (space_in slots.table t == space_in slots.table u) (standing_of P s.number) ≡ (is_receiving P s.number && accepts P s.number t)) (sym (standing_caller P s.number)) (awaits_is s.number is.opened))

module _ (P : List Entry) (slots : KeptSlots) (legal : Legal P) (stands : Stands P slots) (t : ℕ) (live : is_live P t ≡ true) (call : CallParts) where
  pub reaches_it : (s : Standing) → Some s ≡ option_map (standing_of P) (open_call P call.to) → sends_words_by call ≡ true → awaits_by t (space_in slots.table t == space_in slots.table s.caller) s ≡ true → Reaches P t call s.number
  reaches_it s e words awaits =
      let up = call_up P call.to s e in
      let takes = sym (awaits_it P slots legal stands t live s up.1) ∙ awaits in
      record {
        sends = not_true _ (left _ _ (left _ _ words));
        receives = left _ _ takes;
        to = sym (own P call.to s.number up.0).1;
        accepted = right _ _ takes;
        itself = not_true _ (right _ _ (left _ _ words));
        words_alone = no_items call.strings (no_length (length call.strings) (right _ _ words));
      }

  -- and where none is found, none is reached
  pub reaches_words : (r : ℕ) → Reaches P t call r → sends_words_by call ≡ false → ⊥
  reaches_words r reaches none = not_both (all_three (call.to == nilthread) (propagates call.tag) (length call.strings == 0) reaches.sends reaches.itself (rw reaches.words_alone refl)) none

  there : (r : ℕ) → Reaches P t call r → open_call P call.to ≡ Some r
  there r reaches = found P legal call.to r (receives_parts P r r reaches.receives).opened (sym reaches.to)

  pub reaches_open : (r : ℕ) → Reaches P t call r → open_call P call.to ≡ None → ⊥
  reaches_open r reaches none = none-some r (sym none ∙ there r reaches)

  pub reaches_awaits : (s : Standing) (r : ℕ) → Some s ≡ option_map (standing_of P) (open_call P call.to) → Reaches P t call r → awaits_by t (space_in slots.table t == space_in slots.table s.caller) s ≡ false → ⊥
  reaches_awaits s r e reaches awaits =
      let up = call_up P call.to s e in
      let same : r ≡ s.number = same_Some r s.number (sym (there r reaches) ∙ up.0) in
      not_both (ap₂ (λ a b. a && b) (subst (λ k. is_receiving P k ≡ true) same reaches.receives) (subst (λ k. accepts P k t ≡ true) same reaches.accepted)) (sym (awaits_it P slots legal stands t live s up.1) ∙ awaits)

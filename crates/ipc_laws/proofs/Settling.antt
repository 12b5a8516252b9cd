-- What may follow keeps a history legal, and outputs alone lead to a quiet one.
use Rattle.std.proofs.lemmas.List.{map-append}
use Rattle.std.proofs.lemmas.List.Elements.{filter_map-append}
use Rattle.std.proofs.Common.{◌≡◌, refl, sym, ap, ap₂, ◌∙◌, ℕ, ◌≤◌, zero, suc, le_refl, List, [], ◌∷◌, ◌++◌, append_assoc, append-nil, map, Option, Some, None, ◌⊎◌, inl, inr, arith, subst}
use Rattle.ipc_history.specs.NextOutput.{next_output}
use Rattle.ipc_history.specs.Legal.{Legal, Quiet, Follows}
use Rattle.ipc_history.specs.Entries.{input_in}
use Rattle.ipc_history.specs.Settled.{Continued, Settled}
use Rattle.ipc_laws.specs.Counting.{all_steps_left}
use Rattle.ipc_laws.specs.Laws.{inputs}
use Rattle.ipc_history.specs.declared.entry.Entry.{Entry}
use Rattle.ipc_history.specs.declared.entry.Entry.TheVariants.{Written}
use Rattle.ipc_history.specs.declared.entry.Output.{Output}
use Rattle.ipc_laws.proofs.Determined.{quiet_determined}
use Rattle.ipc_laws.proofs.Steps.{all_steps_fall}

-- a place in a list with one more element is its end, or a place in the list
push_place : {X : Type 0} (P F : List X) (e f : X) (rest : List X) → P ++ e ∷ [] ≡ F ++ f ∷ rest → ((P ≡ F) × (e ≡ f)) ⊎ ((r : List X) × (P ≡ F ++ f ∷ r))
push_place [] [] e f rest h = inl (refl, cc)
push_place [] (y ∷ []) e f rest h = absurd (cc)
push_place [] (y ∷ z ∷ F) e f rest h = absurd (cc)
push_place {X} (x ∷ P) [] e f rest h = let same : x ≡ f = cc in inr (P, ap (λ a. a ∷ P) same)
push_place (x ∷ P) (y ∷ F) e f rest h =
    let same : x ≡ y = cc in
    let tail : P ++ e ∷ [] ≡ F ++ f ∷ rest = cc in
    elim (push_place P F e f rest tail) [
      | inl t ↦ inl (ap₂ (λ a l. a ∷ l) same t.0, t.1)
      | inr t ↦ inr (t.0, ap₂ (λ a l. a ∷ l) same t.1)
    ]

pub legal_push : (P : List Entry) (e : Entry) → Legal P → Follows P e → Legal (P ++ e ∷ [])
unfolding Legal
legal_push P e h g F f rest whole = elim (push_place P F e f rest whole) [
  | inl t ↦ subst (λ e. Follows F e) t.1 (subst (λ l. Follows l e) t.0 g)
  | inr t ↦ h F f t.0 t.1
]

pub written_follows : (P : List Entry) (o : Output) → next_output P ≡ Some o → Follows P (Written o)
unfolding Follows
written_follows P o e = e

-- from a history to itself nothing was written
pub continued_start : (P : List Entry) → Continued P P
continued_start P = record { outputs = []; appended = sym (append-nil P); legal = λ h. h }

-- one more output, where it is the next one, at the end
pub continued_push : (P Q : List Entry) (output : Output) → Continued P Q → next_output Q ≡ Some output → Continued P (Q ++ Written output ∷ [])
continued_push P Q output c next = record {
  outputs = c.outputs ++ output ∷ [];
  appended = ap (λ l. l ++ Written output ∷ []) c.appended ∙ (append_assoc P (map Written c.outputs) (Written output ∷ []) ∙ ap (λ l. P ++ l) (sym (map-append Written c.outputs (output ∷ []))));
  legal = λ h. legal_push Q (Written output) (c.legal h) (written_follows Q output next);
}

-- and where there is no next one the history has settled
pub continued_settled : (P Q : List Entry) → Continued P Q → Quiet Q → Settled P Q
continued_settled P Q c quiet = record { outputs = c.outputs; appended = c.appended; legal = c.legal; quiet = quiet }

pub settled_continued : (P Q : List Entry) → Settled P Q → Continued P Q
settled_continued P Q s = record { outputs = s.outputs; appended = s.appended; legal = s.legal }

-- a history that has continued goes on to settle, since each output takes a step that was left
settles_within : (k : ℕ) (P Q : List Entry) → Legal P → Continued P Q → all_steps_left Q ≤ k → (R : List Entry) × Settled P R
settles_within zero P Q h c below = go (next_output Q) refl
  where
    go : (o : Option Output) → next_output Q ≡ o → (R : List Entry) × Settled P R
    go None e = (Q, continued_settled P Q c e)
    go (Some o) e = absurd (omega (arith, all_steps_fall Q (c.legal h) o e))
settles_within (suc k) P Q h c below = go (next_output Q) refl (settles_within k P)
  where
    go : (o : Option Output) → next_output Q ≡ o → ((Q : List Entry) → Legal P → Continued P Q → all_steps_left Q ≤ k → (R : List Entry) × Settled P R) → (R : List Entry) × Settled P R
    go None e later = (Q, continued_settled P Q c e)
    go (Some o) e later = later (Q ++ Written o ∷ []) h (continued_push P Q o c e) (omega (arith, all_steps_fall Q (c.legal h) o e))

pub settles : (P : List Entry) → Legal P → (Q : List Entry) × Settled P Q
settles P h = settles_within (all_steps_left P) P P h (continued_start P) (le_refl (all_steps_left P))

-- outputs add no inputs
inputs_written : (outputs : List Output) → inputs (map Written outputs) ≡ []
inputs_written [] = refl
inputs_written (o ∷ os) = inputs_written os

pub settled_inputs : (P Q : List Entry) → Settled P Q → inputs Q ≡ inputs P
settled_inputs P Q s = ap inputs s.appended ∙ (filter_map-append input_in P (map Written s.outputs) ∙ (ap (λ l. inputs P ++ l) (inputs_written s.outputs) ∙ append-nil (inputs P)))

-- so a history settles in one way
pub settles_once : (P Q R : List Entry) → Legal P → Settled P Q → Settled P R → Q ≡ R
settles_once P Q R h q r = quiet_determined Q R (q.legal h) (r.legal h) q.quiet r.quiet (settled_inputs P Q q ∙ sym (settled_inputs P R r))

-- The inputs of a Legal history determine it.
use Rattle.std.proofs.lemmas.Option.{none-some, same_Some}
use Rattle.std.proofs.lemmas.List.{append_cancel_left}
use Rattle.std.proofs.lemmas.List.Elements.{filter_map-append}
use Rattle.std.proofs.Common.{◌≡◌, refl, sym, ap, ap₂, ◌∙◌, List, [], ◌∷◌, ◌++◌, append_assoc, append-nil, Some, None, ◌⊎◌, inl, inr}
use Rattle.ipc_history.specs.Entries.{input_in}
use Rattle.ipc_history.specs.NextOutput.{next_output}
use Rattle.ipc_history.specs.Legal.{Legal, Quiet, Follows}
use Rattle.ipc_laws.specs.Laws.{inputs, Begins}
use Rattle.ipc_history.specs.declared.entry.Entry.{Entry}
use Rattle.ipc_history.specs.declared.entry.Entry.TheVariants.{Given, Written}
use Rattle.ipc_history.specs.declared.entry.Input.{Input}
use Rattle.ipc_history.specs.declared.entry.Output.{Output}

-- what follows a front of a Legal history
follows_next : (P : List Entry) (e : Entry) (rest : List Entry) → Legal (P ++ e ∷ rest) → Follows P e
unfolding Legal
follows_next P e rest h = h P e rest refl

written_next_output : (P : List Entry) (output : Output) → Follows P (Written output) → next_output P ≡ Some output
unfolding Follows
written_next_output P output f = f

given_quiet : (P : List Entry) (input : Input) → Follows P (Given input) → next_output P ≡ None
unfolding Follows
given_quiet P input f = f.0

-- two entries that follow the same front, with the same inputs from there on, are one
same_next : (P : List Entry) (e f : Entry) (xs ys : List Entry) → Follows P e → Follows P f → inputs (e ∷ xs) ≡ inputs (f ∷ ys) → (e ≡ f) × (inputs xs ≡ inputs ys)
same_next P (Written o) (Written p) xs ys a b h = (ap (λ o. Written o) (same_Some o p (sym (written_next_output P o a) ∙ written_next_output P p b)), h)
same_next P (Written o) (Given i) xs ys a b h = absurd (none-some o (sym (given_quiet P i b) ∙ written_next_output P o a))
same_next P (Given i) (Written o) xs ys a b h = absurd (none-some o (sym (given_quiet P i a) ∙ written_next_output P o b))
same_next P (Given i) (Given j) xs ys a b h = let e : i ≡ j = cc in let t : inputs xs ≡ inputs ys = cc in (ap (λ i. Given i) e, t)

-- where two histories have the same front
fork : (P xs ys : List Entry) → Legal (P ++ xs) → Legal (P ++ ys) → inputs xs ≡ inputs ys → Begins xs ys ⊎ Begins ys xs
fork P [] ys a b h = inl (ys, refl)
fork P (x ∷ xs) [] a b h = inr (x ∷ xs, refl)
fork P (x ∷ xs) (y ∷ ys) a b h =
    let s = same_next P x y xs ys (follows_next P x xs a) (follows_next P y ys b) h in
    let a' : Legal ((P ++ x ∷ []) ++ xs) = rw (append_assoc P (x ∷ []) xs) a in
    let b' : Legal ((P ++ x ∷ []) ++ ys) = rw (append_assoc P (x ∷ []) ys, s.0) b in
    elim (fork (P ++ x ∷ []) xs ys a' b' s.1) [
      | inl t ↦ inl (t.0, ap₂ (λ z zs. z ∷ zs) (sym s.0) t.1)
      | inr t ↦ inr (t.0, ap₂ (λ z zs. z ∷ zs) s.0 t.1)
    ]

pub determined : (H K : List Entry) → Legal H → Legal K → inputs H ≡ inputs K → Begins H K ⊎ Begins K H
determined H K a b h = fork [] H K a b h

-- a quiet history with no more inputs goes no further
no_more : (H : List Entry) (rest : List Entry) → Quiet H → Legal (H ++ rest) → inputs H ≡ inputs (H ++ rest) → rest ≡ []
no_more H [] q l h = refl
no_more H (Written o ∷ rest) q l h = absurd (none-some o (sym q ∙ written_next_output H o (follows_next H (Written o) rest l)))
no_more H (Given i ∷ rest) q l h =
    let e : inputs H ++ [] ≡ inputs H ++ (i ∷ inputs rest) = append-nil (inputs H) ∙ (h ∙ filter_map-append input_in H (Given i ∷ rest)) in
    let none : [] ≡ i ∷ inputs rest = append_cancel_left (inputs H) _ _ e in
    absurd (cc)

pub quiet_determined : (H K : List Entry) → Legal H → Legal K → Quiet H → Quiet K → inputs H ≡ inputs K → H ≡ K
quiet_determined H K a b p q h = elim (determined H K a b h) [
  | inl t ↦ (let n = no_more H t.0 p (rw t.1 at b) (h ∙ ap inputs t.1) in sym (t.1 ∙ (ap (λ l. H ++ l) n ∙ append-nil H)))
  | inr t ↦ (let n = no_more K t.0 q (rw t.1 at a) (sym h ∙ ap inputs t.1) in t.1 ∙ (ap (λ l. K ++ l) n ∙ append-nil K))
]

-- One number more.
use Rattle.std.proofs.Common.{◌≡◌, ℕ, ◌+◌, List, [], ◌∷◌, ◌++◌, Some, take, ap, sym, subst, ◌∙◌}
use Rattle.std.specs.Prelude.{slice_get}
use Rattle.std.proofs.lemmas.List.{take_more}
use Rattle.std.proofs.lemmas.Option.{get_or_from_slice_get, slice_get_within}
use Rattle.l4sh_explain.specs.Numbers.{IsNumber}
use Rattle.l4sh_talk.specs.Typed.{AddsWords}

adds_more : (texts : List (List ℕ)) (text : List ℕ) (number : ℕ) (old mid : List ℕ) → AddsWords texts old mid → IsNumber text number
    → AddsWords (texts ++ text ∷ []) old (mid ++ number ∷ [])
unfolding AddsWords
adds_more [] text number old mid adds is = (number, is, ap (λ (words : List ℕ). words ++ number ∷ []) adds)
adds_more (first ∷ texts) text number old mid adds is = (adds.0, adds.1, adds_more texts text number (old ++ adds.0 ∷ []) mid adds.2 is)

pub adds_at : (texts : List (List ℕ)) (k : ℕ) (text : List ℕ) (number : ℕ) (old mid : List ℕ) → slice_get texts k ≡ Some text
    → AddsWords (take k texts) old mid → IsNumber text number → AddsWords (take (k + 1) texts) old (mid ++ number ∷ [])
adds_at texts k text number old mid at adds is =
    let cut : take (k + 1) texts ≡ take k texts ++ text ∷ [] =
    take_more texts k text (slice_get_within texts k text at) ∙ ap (λ (e : List ℕ). take k texts ++ e ∷ []) (get_or_from_slice_get texts k text text at) in
    subst (λ (front : List (List ℕ)). AddsWords front old (mid ++ number ∷ [])) (sym cut) (adds_more (take k texts) text number old mid adds is)

-- The first of a byte in a list.
use Rattle.std.proofs.Common.{◌≡◌, ◌≢◌, ℕ, ◌+◌, ◌-◌, ◌<◌, ◌≤◌, Option, Some, None, cond, not, ltb, List, [], ◌∷◌, ◌++◌, length, take, drop, refl, ap, ◌∙◌, arith}
use Rattle.std.specs.Prelude.{◌==◌}
use Rattle.std.specs.List.{All, position_or_len}
use Rattle.std.proofs.lemmas.List.Elements.{All-head, All-tail}
use Rattle.std.proofs.lemmas.List.{length-append}
use borrow.Author.Tests.{eq-eqb, ne_eqb, lt-ltb}
use Rattle.std.proofs.Math.Seq.{take_all, take-append_seam, drop-append-add}

pub first_at : (byte : ℕ) (front back : List ℕ) → All (λ other. other ≢ byte) front → position_or_len (λ other. other == byte) (front ++ byte ∷ back) ≡ length front
first_at byte [] back none = ap (λ t. cond (not t) (1 + position_or_len (λ other. other == byte) back) 0) (eq-eqb byte byte refl)
first_at byte (x ∷ xs) back none =
    ap (λ t. cond (not t) (1 + position_or_len (λ other. other == byte) (xs ++ byte ∷ back)) 0) (ne_eqb x byte (All-head (λ other. other ≢ byte) x xs none))
    ∙ omega (arith, first_at byte xs back (All-tail (λ other. other ≢ byte) x xs none))

-- the list before the first of a byte, and after it
pub cut_at : (bytes front back : List ℕ) (byte place : ℕ) → place ≡ length front → bytes ≡ front ++ byte ∷ back
    → (take place bytes ≡ front) × (take (length bytes - (place + 1)) (drop (place + 1) bytes) ≡ back)
cut_at bytes front back byte place p e =
    let rest : drop (place + 1) bytes ≡ back = (λ i. drop (p i + 1) (e i)) ∙ drop-append-add front (byte ∷ back) 1 in
    let len : length back ≤ length bytes - (place + 1) = omega (arith, ap length e, p, length-append front (byte ∷ back)) in
    ((λ i. take (p i) (e i)) ∙ take-append_seam front (byte ∷ back), ap (take (length bytes - (place + 1))) rest ∙ take_all (length bytes - (place + 1)) back len)

pub place_of : (bytes front back : List ℕ) (byte : ℕ) (r : Option ℕ) → All (λ other. other ≢ byte) front → bytes ≡ front ++ byte ∷ back
    → r ≡ cond (ltb (position_or_len (λ other. other == byte) bytes) (length bytes)) (Some (position_or_len (λ other. other == byte) bytes)) None → r ≡ Some (length front)
place_of bytes front back byte r none e is =
    let at : position_or_len (λ other. other == byte) bytes ≡ length front = ap (position_or_len (λ other. other == byte)) e ∙ first_at byte front back none in
    let lt : position_or_len (λ other. other == byte) bytes < length bytes = omega (arith, at, ap length e, length-append front (byte ∷ back)) in
    is ∙ ap (λ t. cond t (Some (position_or_len (λ other. other == byte) bytes)) None) (lt-ltb _ _ lt) ∙ ap Some at

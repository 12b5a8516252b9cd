-- Tests of numbers.
use Rattle.std.proofs.Common.{◌≡◌, ap, ℕ, ◌==◌, eq-eqb, eqb-true, refl, arith}
use Rattle.std.proofs.lemmas.Bool.Decides.{nat_tests}
use Rattle.std.specs.Cmp.{IsEquivalence}

pub eqb_sym : (x y : ℕ) → (x == y) ≡ (y == x)
eqb_sym x y = grind (arith, nat_tests)

pub eqb_equivalence : IsEquivalence (λ (a b : ℕ). a == b)
eqb_equivalence = record { refl = λ x. eq-eqb x x refl; symm = eqb_sym; congr = λ x y z same. ap (λ w. w == z) (eqb-true x y same) }

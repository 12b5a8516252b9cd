-- The first of some fields, and the others.
use Rattle.std.proofs.Common.{◌≡◌, ℕ, List, ◌∷◌}

pub first_same : (xs ys : List ℕ) (fs gs : List (List ℕ)) → xs ∷ fs ≡ ys ∷ gs → xs ≡ ys
first_same xs ys fs gs e = cc

pub rest_same : (xs ys : List ℕ) (fs gs : List (List ℕ)) → xs ∷ fs ≡ ys ∷ gs → fs ≡ gs
rest_same xs ys fs gs e = cc

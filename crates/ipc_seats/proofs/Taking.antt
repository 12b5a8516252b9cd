-- A number that all others are below was never taken.
use Rattle.std.proofs.Common.{◌≡◌, ℕ, ◌+◌, ◌<◌, ◌++◌, List, [], ◌∷◌, Bool, true, false, refl, arith}
use Rattle.std.proofs.lemmas.Bool.{ne_eqb}
use Rattle.std.specs.Prelude.{◌==◌, ◌||◌}
use Rattle.ipc_seats.specs.Numbering.{AreBelow, is_taken}

-- one more
pub below_more : (next : ℕ) (taken : List ℕ) → AreBelow next taken → AreBelow (next + 1) (taken ++ next ∷ [])
below_more next [] h = (omega (arith), tt)
below_more next (number ∷ taken) h = (omega (arith, h.0), below_more next taken h.1)

-- a number that is below another one is another one
other_than : (number next : ℕ) → number < next → (number == next) ≡ false
other_than number next h = ne_eqb number next (λ e. omega (arith, h, e))

or_false : (a b : Bool) → a ≡ false → b ≡ false → (a || b) ≡ false
or_false true b h k = h
or_false false b h k = k

-- the next one is new
pub is_new : (next : ℕ) (taken : List ℕ) → AreBelow next taken → is_taken next taken ≡ false
is_new next [] h = refl
is_new next (number ∷ taken) h = or_false (number == next) (is_taken next taken) (other_than number next h.0) (is_new next taken h.1)

-- A list behind its front, with one more and without one.
use Rattle.std.proofs.Common.{◌≡◌, refl, ap, ◌∙◌, ℕ, zero, suc, ◌+◌, ◌-◌, ◌<◌, ◌≤◌, List, [], ◌∷◌, ◌++◌, length, take, drop, insert, remove, length-drop, arith}
use Rattle.std.proofs.Math.Seq.{take-append_seam, take-length}
use Rattle.std.specs.List.{copy_within}

pub drop_inserted : {X : Type 0} (xs : List X) (f i : ℕ) (x : X) → f + i ≤ length xs → drop f (insert xs (f + i) x) ≡ insert (drop f xs) i x
drop_inserted xs zero i x fits = let e : 0 + i ≡ i = omega arith in rw e refl
drop_inserted [] (suc f) i x fits = absurd (omega arith)
drop_inserted (y ∷ xs) (suc f) i x fits = let e : suc f + i ≡ suc (f + i) = omega arith in rw e (drop_inserted xs f i x (omega arith))

pub drop_removed : {X : Type 0} (xs : List X) (f i : ℕ) → f + i < length xs → drop f (remove xs (f + i)) ≡ remove (drop f xs) i
drop_removed xs zero i fits = let e : 0 + i ≡ i = omega arith in rw e refl
drop_removed [] (suc f) i fits = absurd (omega arith)
drop_removed (y ∷ xs) (suc f) i fits = let e : suc f + i ≡ suc (f + i) = omega arith in rw e (drop_removed xs f i (omega arith))

-- the front goes on
pub drop_next : {X : Type 0} (xs : List X) (f : ℕ) → f < length xs → drop (f + 1) xs ≡ remove (drop f xs) 0
drop_next [] f fits = absurd (omega arith)
drop_next (y ∷ xs) zero fits = refl
drop_next (y ∷ xs) (suc f) fits = let e : suc f + 1 ≡ suc (f + 1) = omega arith in rw e (drop_next xs f (omega arith))

-- what a copy of the rest to the beginning leaves, cut to its length
pub closed_up : {X : Type 0} (xs : List X) (f n : ℕ) → f ≤ n → n ≡ length xs → take (n - f) (copy_within xs f n 0) ≡ drop f xs
closed_up xs f n fits is = closed (n - f) (omega (arith, length-drop f xs))
  where
    closed : (k : ℕ) → k ≡ length (drop f xs) → take k (take 0 xs ++ (take k (drop f xs) ++ drop (0 + k) xs)) ≡ drop f xs
    closed k e = rw e (ap (λ l. take (length (drop f xs)) (l ++ drop (0 + length (drop f xs)) xs)) (take-length (drop f xs)) ∙ take-append_seam (drop f xs) (drop (0 + length (drop f xs)) xs))

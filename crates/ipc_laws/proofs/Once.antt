-- At most one element passes a test.
use Rattle.std.proofs.lemmas.List.Sums.{sum_by-cons}
use Rattle.std.proofs.Common.{◌≡◌, refl, ap, ◌+◌, ◌≤◌, Bool, true, false, cond, List, [], ◌∷◌, count_by, arith}
use Rattle.std.specs.List.{list_any}
use Rattle.ipc_laws.proofs.Places.{Place, any_place}
use Rattle.ipc_laws.proofs.Tests.{neither_left, neither_right, not_both}

count_step : {X : Type 0} (p : X → Bool) (x : X) (xs : List X) → count_by p (x ∷ xs) ≡ cond (p x) 1 0 + count_by p xs
count_step p x xs = sum_by-cons (λ x. cond (p x) 1 0) x xs

pub count_none : {X : Type 0} (p : X → Bool) (xs : List X) → list_any p xs ≡ false → count_by p xs ≡ 0
count_none p [] h = refl
count_none p (x ∷ xs) h = rw (count_step p x xs, neither_left (p x) (list_any p xs) h, count_none p xs (neither_right (p x) (list_any p xs) h)) refl

-- none that passes stands before one that does
abbrev pub Once : {X : Type 0} → (X → Bool) → List X → Type 0
Once {X} p xs = (x : X) (at : Place xs x) → p x ≡ true → list_any p at.front ≡ false

pub count_once : {X : Type 0} (p : X → Bool) (xs : List X) → Once p xs → count_by p xs ≤ 1
count_once p [] once = omega arith
count_once p (x ∷ xs) once =
    let tail : Once p xs = λ y at q. neither_right (p x) _ (once y (record { front = x ∷ at.front; rest = at.rest; whole = ap (λ l. x ∷ l) at.whole }) q) in
    let fewer = count_once p xs tail in
    go (p x) refl (list_any p xs) refl fewer
  where
    go : (b : Bool) → p x ≡ b → (c : Bool) → list_any p xs ≡ c → count_by p xs ≤ 1 → count_by p (x ∷ xs) ≤ 1
    go false e c f fewer = rw (count_step p x xs, e) (omega arith)
    go true e false f fewer = rw (count_step p x xs, e, count_none p xs f) (omega arith)
    go true e true f fewer = let t = any_place p xs f in not_both e (neither_left (p x) _ (once t.0 (record { front = x ∷ t.1.front; rest = t.1.rest; whole = ap (λ l. x ∷ l) t.1.whole }) t.2))

-- Sums over lists of numbers: two that differ, sums of sums, one number counted.
use Rattle.std.proofs.lemmas.List.Sums.{sum_by-cons, sum_by-append, sum_by-le-sum_by}
use Rattle.std.proofs.Common.{◌≡◌, refl, sym, ap, ap₂, ◌∙◌, ℕ, ◌+◌, ◌*◌, ◌≤◌, zero-le, Bool, true, false, ◌==◌, eq-eqb, eqb-true, cond, if◌then◌else◌, List, [], ◌∷◌, sum_by, arith, count_by}
use Rattle.ipc_laws.proofs.Places.{Place}

pub fewer_in : (f g d : ℕ → ℕ) (xs : List ℕ) → ((x : ℕ) → Place xs x → f x + d x ≤ g x) → sum_by f xs + sum_by d xs ≤ sum_by g xs
fewer_in f g d [] h = zero-le
fewer_in f g d (x ∷ xs) h =
    let here = h x (record { front = []; rest = xs; whole = refl }) in
    let rest = fewer_in f g d xs (λ y at. h y (record { front = x ∷ at.front; rest = at.rest; whole = ap (λ l. x ∷ l) at.whole })) in
    omega (arith, sum_by-cons f x xs, sum_by-cons g x xs, sum_by-cons d x xs, here, rest)

pub fewer : (f g d : ℕ → ℕ) (xs : List ℕ) → ((x : ℕ) → f x + d x ≤ g x) → sum_by f xs + sum_by d xs ≤ sum_by g xs
fewer f g d xs h = fewer_in f g d xs (λ x at. h x)

pub sum_both : (f g : ℕ → ℕ) (xs : List ℕ) → sum_by (λ x. f x + g x) xs ≡ sum_by f xs + sum_by g xs
sum_both f g [] = refl
sum_both f g (x ∷ xs) = omega (arith, sum_by-cons f x xs, sum_by-cons g x xs, sum_by-cons (λ x. f x + g x) x xs, sum_both f g xs)

-- one at n
abbrev pub one_at : ℕ → ℕ → ℕ
one_at n x = (if x == n then 1 else 0)

pub one_here : (n : ℕ) → one_at n n ≡ 1
one_here n = rw (eq-eqb n n refl) refl

pub one_in : (n : ℕ) (xs : List ℕ) → Place xs n → 1 ≤ sum_by (one_at n) xs
one_in n xs at = rw at.whole (omega (arith, sum_by-append (one_at n) at.front (n ∷ at.rest), sum_by-cons (one_at n) n at.rest, one_here n))

-- a function that falls, and by one at n, falls by `one_at n`
pub falls_at : (f g : ℕ → ℕ) (n x : ℕ) → f x ≤ g x → f n + 1 ≤ g n → f x + one_at n x ≤ g x
falls_at f g n x h k = go (x == n) refl
  where
    go : (b : Bool) → (x == n) ≡ b → f x + (if x == n then 1 else 0) ≤ g x
    go false e = rw e (omega arith)
    go true e = let same : x ≡ n = eqb-true x n e in rw (e, same) k

sum_none : (ys : List ℕ) → sum_by (λ y. 0) ys ≡ 0
sum_none [] = refl
sum_none (y ∷ ys) = sum_by-cons (λ y. 0) y ys ∙ ap (λ n. 0 + n) (sum_none ys)

pub sum_swap : (a : ℕ → ℕ → ℕ) (xs ys : List ℕ) → sum_by (λ x. sum_by (a x) ys) xs ≤ sum_by (λ y. sum_by (λ x. a x y) xs) ys
sum_swap a [] ys = zero-le
sum_swap a (x ∷ xs) ys =
    let rest = sum_swap a xs ys in
    let head = sum_by-cons (λ x. sum_by (a x) ys) x xs in
    let both = sum_both (a x) (λ y. sum_by (λ x. a x y) xs) ys in
    let each = sum_by-le-sum_by (λ y. a x y + sum_by (λ x. a x y) xs) (λ y. sum_by (λ x. a x y) (x ∷ xs)) ys (λ y. omega (arith, sum_by-cons (λ x. a x y) x xs)) in
    omega (arith, rest, head, both, each)

pub term_in : (f : ℕ → ℕ) (ys : List ℕ) (y : ℕ) → Place ys y → f y ≤ sum_by f ys
term_in f ys y at = rw at.whole (omega (arith, sum_by-append f at.front (y ∷ at.rest), sum_by-cons f y at.rest))

pub four : (f g : ℕ → ℕ) (xs : List ℕ) → ((x : ℕ) → f x ≤ 4 * g x) → sum_by f xs ≤ 4 * sum_by g xs
four f g [] h = zero-le
four f g (x ∷ xs) h = omega (arith, sum_by-cons f x xs, sum_by-cons g x xs, h x, four f g xs h)

pub count_agrees : (p q : ℕ → Bool) (xs : List ℕ) → ((x : ℕ) → Place xs x → p x ≡ q x) → count_by p xs ≡ count_by q xs
count_agrees p q [] h = refl
count_agrees p q (x ∷ xs) h =
    let rest = count_agrees p q xs (λ y at. h y (record { front = x ∷ at.front; rest = at.rest; whole = ap (λ l. x ∷ l) at.whole })) in
    sum_by-cons (λ x. cond (p x) 1 0) x xs ∙ (ap₂ (λ a b. a + b) (ap (λ b. cond b 1 0) (h x (record { front = []; rest = xs; whole = refl }))) rest ∙ sym (sum_by-cons (λ x. cond (q x) 1 0) x xs))

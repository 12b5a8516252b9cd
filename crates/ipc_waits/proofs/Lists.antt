-- What is in a list of numbers, and lists that rise.
use Rattle.std.proofs.lemmas.Bool.{false≢true, or_cases, or_left, or_right}
use Rattle.std.proofs.lemmas.Map.Views.{any-filter_same}
use Rattle.std.proofs.Common.{◌≡◌, refl, sym, ap, ◌∙◌, ℕ, ◌<◌, ◌==◌, eq-eqb, eqb-true, Bool, true, false, ◌||◌, List, [], ◌∷◌, ◌++◌, Some, inl, inr, arith, if◌then◌else◌, nat_lt, filter, cond, find, ◌&&◌}
use Rattle.ipc_laws.proofs.Tests.{right}
use Rattle.ipc_waits.specs.Finding.{IsRising, insert, is_among}

-- a number put in its place
pub among_insert : (n : ℕ) (xs : List ℕ) (k : ℕ) → is_among (insert n xs) k ≡ ((n == k) || is_among xs k)
among_insert n [] k = refl
among_insert n (x ∷ xs) k = go (n == x) refl (nat_lt n x) (among_insert n xs k)
  where
    twice : (a b : Bool) → (a || b) ≡ (a || (a || b))
    twice a b = grind arith

    turn : (a b c : Bool) → (b || (a || c)) ≡ (a || (b || c))
    turn a b c = grind arith

    go : (b : Bool) → (n == x) ≡ b → (c : Bool) → is_among (insert n xs) k ≡ ((n == k) || is_among xs k) → is_among (if b then x ∷ xs else (if c then n ∷ x ∷ xs else x ∷ insert n xs)) k ≡ ((n == k) || ((x == k) || is_among xs k))
    go true e c later = rw (eqb-true n x e) (twice (x == k) (is_among xs k))
    go false e true later = refl
    go false e false later = rw later (turn (n == k) (x == k) (is_among xs k))

-- one more number at the end
pub among_push : (xs : List ℕ) (x k : ℕ) → is_among (xs ++ x ∷ []) k ≡ (is_among xs k || (x == k))
among_push [] x k = or_no (x == k)
  where
    or_no : (b : Bool) → (b || false) ≡ b
    or_no b = grind arith
among_push (y ∷ xs) x k = rw (among_push xs x k) (assoc (y == k) (is_among xs k) (x == k))
  where
    assoc : (a b c : Bool) → (a || (b || c)) ≡ ((a || b) || c)
    assoc a b c = grind arith

pub rising_push : (xs : List ℕ) (x : ℕ) → IsRising xs → ((k : ℕ) → is_among xs k ≡ true → k < x) → IsRising (xs ++ x ∷ [])
rising_push [] x rising below = (λ y among. absurd (false≢true among), tt)
rising_push (y ∷ xs) x rising below = (λ k among. elim (or_cases (is_among xs k) (x == k) (sym (among_push xs x k) ∙ among)) [ inl before ↦ rising.0 k before | inr same ↦ (let s : x ≡ k = eqb-true x k same in let far = below y (or_left (y == y) (is_among xs y) (eq-eqb y y refl)) in omega arith) ], rising_push xs x rising.1 (λ k among. below k (or_right (y == k) (is_among xs k) among)))

-- what passes a test
pub among_filtered : (test : ℕ → Bool) (xs : List ℕ) (n : ℕ) → is_among (filter test xs) n ≡ (test n && is_among xs n)
among_filtered test xs n = any-filter_same (λ k. k == n) test (test n) (λ k same. ap test (eqb-true k n same)) xs

pub rising_filter : (test : ℕ → Bool) (xs : List ℕ) → IsRising xs → IsRising (filter test xs)
rising_filter test [] rising = tt
rising_filter test (x ∷ xs) rising = go (test x) (rising_filter test xs rising.1)
  where
    go : (b : Bool) → IsRising (filter test xs) → IsRising (cond b (x ∷ filter test xs) (filter test xs))
    go true later = (λ y among. rising.0 y (right (test y) (is_among xs y) (sym (among_filtered test xs y) ∙ among)), later)
    go false later = later

-- the first that passes two tests, of those that pass one
pub find_filtered : (p q r : ℕ → Bool) (xs : List ℕ) → ((n : ℕ) → p n ≡ (q n && r n)) → find p xs ≡ find r (filter q xs)
find_filtered p q r [] h = refl
find_filtered p q r (x ∷ xs) h = rw (h x) (go (q x) (find_filtered p q r xs h))
  where
    go : (b : Bool) → find p xs ≡ find r (filter q xs) → cond (b && r x) (Some x) (find p xs) ≡ find r (cond b (x ∷ filter q xs) (filter q xs))
    go true later = ap (λ o. cond (r x) (Some x) o) later
    go false later = later

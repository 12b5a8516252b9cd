-- What is found in a list, and what is not.
use Rattle.std.proofs.Common.{◌≡◌, refl, ap, subst, ℕ, ◌==◌, eqb-true, Bool, true, false, ◌||◌, List, [], ◌∷◌, Option, Some, None, find, arith}
use Rattle.std.proofs.lemmas.Bool.{false≢true}
use Rattle.std.proofs.lemmas.Option.{none-some}
use Rattle.std.specs.List.{list_any}
use Rattle.ipc_laws.proofs.Tests.{not_both}

pub find_nothing : {X : Type 0} (p : X → Bool) (xs : List X) → ((x : X) → p x ≡ false) → find p xs ≡ None
find_nothing p [] h = refl
find_nothing p (x ∷ xs) h = rw (h x) (find_nothing p xs h)

pub find_only : (p : ℕ → Bool) (k : ℕ) (xs : List ℕ) → ((n : ℕ) → p n ≡ true → n ≡ k) → p k ≡ true → list_any (λ n. n == k) xs ≡ true → find p xs ≡ Some k
find_only p k [] only holds h = absurd (false≢true h)
find_only p k (x ∷ xs) only holds h = go (λ l. find_only p k xs only holds l) (p x) refl
  where
    later : (a b : Bool) → (a || b) ≡ true → a ≡ false → b ≡ true
    later a b e f = grind arith

    differs : (b : Bool) → (x == k) ≡ b → p x ≡ false → (x == k) ≡ false
    differs true e f = not_both holds (subst (λ n. p n ≡ false) (eqb-true x k e) f)
    differs false e f = e

    go : (list_any (λ n. n == k) xs ≡ true → find p xs ≡ Some k) → (b : Bool) → p x ≡ b → find p (x ∷ xs) ≡ Some k
    go again true e = rw e (ap (λ n. Some n) (only x e))
    go again false e = rw e (again (later (x == k) (list_any (λ n. n == k) xs) h (differs (x == k) refl e)))

pub find_passes : (p : ℕ → Bool) (k : ℕ) (xs : List ℕ) → find p xs ≡ Some k → p k ≡ true
find_passes p k [] h = absurd (none-some k h)
find_passes p k (x ∷ xs) h = go (λ l. find_passes p k xs l) (p x) refl
  where
    go : (find p xs ≡ Some k → p k ≡ true) → (b : Bool) → p x ≡ b → p k ≡ true
    go again true e = let s : Some x ≡ Some k = rw e at h in let same : x ≡ k = cc in subst (λ n. p n ≡ true) same e
    go again false e = again (rw e at h)

pub absent : {X : Type 0} (o : Option X) → ((x : X) → o ≡ Some x → ⊥) → o ≡ None
absent None h = refl
absent (Some x) h = absurd (h x refl)

pub false_unless : (b : Bool) → (b ≡ true → ⊥) → b ≡ false
false_unless true h = absurd (h refl)
false_unless false h = refl

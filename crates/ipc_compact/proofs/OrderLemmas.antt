-- Numbers in order: what is looked for by halves, and that an order changes no answer.
use Rattle.std.proofs.Common.{◌≡◌, ◌≢◌, refl, sym, ap, ℕ, suc, ◌<◌, ◌≤◌, Bool, false, ◌||◌, ◌&&◌, ◌==◌, eqb-true, eq-eqb, List, [], ◌∷◌, length, get_or, Result, Ok, Err, is_ok, arith}
use Rattle.std.specs.List.{list_any}
use Rattle.std.specs.List.Sorted.{IsBinarySearchResult, IsNonDecreasing, IsPermutation}
use Rattle.std.specs.Ordering.{nat_cmp}
use Rattle.std.proofs.lemmas.Bool.{false_from_ne_true}
use Rattle.std.proofs.lemmas.List.Folds.{list_any_at}
use Rattle.std.proofs.lemmas.List.Sorted.{list_any-IsPermutation, searched}
use Rattle.ipc_history.specs.Entries.{names}
use Rattle.ipc_compact.specs.Compact.{is_of_thread, is_told_of}
use Rattle.ipc_compact.specs.Kept.{KeptParts, PassesAs}

-- a number that stands nowhere is not found
nowhere : (x : ℕ) (xs : List ℕ) → ((k : ℕ) → k < length xs → get_or xs k 0 ≢ x) → list_any (λ n. x == n) xs ≡ false
nowhere x [] none = refl
nowhere x (n ∷ xs) none = neither _ _ (false_from_ne_true (x == n) (λ h. none 0 (omega arith) (sym (eqb-true x n h)))) (nowhere x xs (λ k low. none (suc k) (omega (arith, low))))
  where
    neither : (a b : Bool) → a ≡ false → b ≡ false → (a || b) ≡ false
    neither a b p q = grind arith

-- so a search by halves finds a number exactly where it stands among them
pub looked_up : (x : ℕ) (xs : List ℕ) → IsNonDecreasing xs → (r : Result ℕ ℕ) → IsBinarySearchResult (λ y. nat_cmp y x) xs r → is_ok r ≡ list_any (λ n. x == n) xs
looked_up x xs order (Ok i) h =
    let found = searched xs x (Ok i) h (λ i j. order i j 0) in
    sym (list_any_at (λ n. x == n) xs i 0 found.0 (eq-eqb x (get_or xs i 0) (sym found.1)))
looked_up x xs order (Err i) h =
    let missing = searched xs x (Err i) h (λ i j. order i j 0) in
    sym (nowhere x xs (λ k low is. apart i k (get_or xs k 0) (missing.1 k) (λ from. missing.2 k from low) is))
  where
    apart : (i k n : ℕ) → (k < i → n < x) → (i ≤ k → x < n) → n ≡ x → ⊥
    apart i k n before behind is = grind arith

-- nor is one that is less than the first
pub below_all : (x d : ℕ) (xs : List ℕ) → IsNonDecreasing xs → x < get_or xs 0 d → list_any (λ n. x == n) xs ≡ false
below_all x d [] order less = refl
below_all x d (n ∷ xs) order less = nowhere x (n ∷ xs) (λ k low is. let rises = order 0 k 0 (omega arith) low in omega (arith, less, rises, is))

-- in another order the same entries pass
pub same_pass : (old new : KeptParts) → IsPermutation old.calls new.calls → IsPermutation old.partners new.partners → IsPermutation old.threads new.threads → PassesAs new old
same_pass old new calls partners threads e =
    three (is_told_of e)
    (sym (list_any-IsPermutation (λ n. names n e) old.calls new.calls calls))
    (sym (list_any-IsPermutation (λ n. names n e) old.partners new.partners partners))
    (ap (λ test. is_of_thread test e) (λ i t. sym (list_any-IsPermutation (λ k. k == t) old.threads new.threads threads) i))
  where
    three : {a b c d f g : Bool} (told : Bool) → a ≡ b → c ≡ d → f ≡ g → (a || (told && c) || f) ≡ (b || (told && d) || g)
    three told p q r = λ i. p i || (told && q i) || r i

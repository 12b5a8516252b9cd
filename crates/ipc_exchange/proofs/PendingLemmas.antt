-- Places in falling order.
use Rattle.std.proofs.Common.{◌≡◌, ◌≢◌, ℕ, zero, suc, ◌<◌, ◌≤◌, ◌-◌, ◌==◌, eqb-true, Bool, true, false, List, [], ◌∷◌, length, refl, sym, ap, subst, ◌∙◌, inl, inr, arith, Result, is_ok}
use Rattle.std.specs.Prelude.{slice_index_or, nat_le, IsOk, Ok, Err, if◌then◌else◌}
use Rattle.std.specs.List.{insert, remove}
use Rattle.std.specs.List.Sorted.{IsPartitionPoint, IsPartitionedBy}
use Rattle.std.proofs.lemmas.Grind.{get_or_default_zero}
use Rattle.ipc_exchange.specs.Pending.{FallsFrom, IsAmong}

-- each is less than the bound
pub falls_below : (n : ℕ) (xs : List ℕ) (j : ℕ) → FallsFrom n xs → j < length xs → slice_index_or xs j 0 < n
falls_below n [] j falls within = absurd (omega arith)
falls_below n (x ∷ xs) zero falls within = falls.0
falls_below n (x ∷ xs) (suc j) falls within =
    let less = falls_below x xs j falls.1 (omega arith) in
    omega (arith, less, falls.0)

-- and than those before it
falls_at : (n : ℕ) (xs : List ℕ) (i j : ℕ) → FallsFrom n xs → i < j → j < length xs → slice_index_or xs j 0 < slice_index_or xs i 0
falls_at n [] i j falls less within = absurd (omega arith)
falls_at n (x ∷ xs) i zero falls less within = absurd (omega arith)
falls_at n (x ∷ xs) zero (suc j) falls less within = falls_below x xs j falls.1 (omega arith)
falls_at n (x ∷ xs) (suc i) (suc j) falls less within = falls_at x xs i j falls.1 (omega arith) (omega arith)

-- so there are no more of them than the bound says
falls_long : (n : ℕ) (xs : List ℕ) → FallsFrom n xs → length xs ≤ n
falls_long n [] falls = omega arith
falls_long n (x ∷ xs) falls = let rest = falls_long x xs falls.1 in omega (arith, rest, falls.0)

pub falls_more : (m n : ℕ) (xs : List ℕ) → m ≤ n → FallsFrom m xs → FallsFrom n xs
falls_more m n [] most falls = tt
falls_more m n (x ∷ xs) most falls = (omega (arith, falls.0), falls.1)

-- where those come first that are no less than a place
pub at_least : (n place : ℕ) (xs : List ℕ) → FallsFrom n xs → IsPartitionedBy (λ y. nat_le place y) xs
at_least n place xs falls i j d before within least = go (i == j) refl
  where
    high : place ≤ slice_index_or xs j 0
    high = let e = get_or_default_zero xs j d within in grind (arith, least, e)

    go : (b : Bool) → (i == j) ≡ b → nat_le place (slice_index_or xs i d) ≡ true
    go true e = ap (λ k. nat_le place (slice_index_or xs k d)) (eqb-true i j e) ∙ least
    go false e =
        let less = falls_at n xs i j falls (grind (arith, e)) within in
        let same = get_or_default_zero xs i d (omega (arith, before, within)) in
        grind (arith, less, same, high)

pub before_point : (place : ℕ) (xs : List ℕ) (i : ℕ) → i ≤ length xs → IsPartitionPoint (λ y. nat_le place y ≡ true) (λ y. nat_le place y ≡ false) xs i → (k : ℕ) → k < i → place ≤ slice_index_or xs k 0
before_point place xs i within point k before = let e = point.0 k 0 (omega arith) before in grind (arith, e)

pub behind_point : (place : ℕ) (xs : List ℕ) (i : ℕ) → IsPartitionPoint (λ y. nat_le place y ≡ true) (λ y. nat_le place y ≡ false) xs i → (k : ℕ) → i ≤ k → k < length xs → slice_index_or xs k 0 < place
behind_point place xs i point k behind within = let e = point.1 k 0 behind within in grind (arith, e)

-- Which are listed

pub among_here : (xs : List ℕ) (i : ℕ) → i < length xs → IsAmong (slice_index_or xs i 0) xs
among_here [] i within = absurd (omega arith)
among_here (x ∷ xs) zero within = inl refl
among_here (x ∷ xs) (suc i) within = inr (among_here xs i (omega arith))

among_at : (xs : List ℕ) (q : ℕ) → IsAmong q xs → (k : ℕ) × (k < length xs) × (slice_index_or xs k 0 ≡ q)
among_at [] q among = absurd among
among_at (x ∷ xs) q (inl same) = (0, omega arith, same)
among_at (x ∷ xs) q (inr among) =
    let (k, within, same) = among_at xs q among in
    (suc k, omega (arith, within), same)

-- the first that is no less than a place
pub least_among : (n from : ℕ) (xs : List ℕ) (i : ℕ) → FallsFrom n xs → 0 < i → i ≤ length xs → ((k : ℕ) → i ≤ k → k < length xs → slice_index_or xs k 0 < from) → (q : ℕ) → from ≤ q → IsAmong q xs → slice_index_or xs (i - 1) 0 ≤ q
least_among n from xs i falls some within behind q most among =
    let (k, there, same) = among_at xs q among in
    go k there same (nat_le i k) refl
  where
    go : (k : ℕ) → k < length xs → slice_index_or xs k 0 ≡ q → (b : Bool) → nat_le i k ≡ b → slice_index_or xs (i - 1) 0 ≤ q
    go k there same true e = let less = behind k (grind (arith, e)) there in absurd (omega (arith, less, same, most))
    go k there same false e = at k there same (k == (i - 1)) refl (grind (arith, e))
      where
        at : (k : ℕ) → k < length xs → slice_index_or xs k 0 ≡ q → (b : Bool) → (k == (i - 1)) ≡ b → k < i → slice_index_or xs (i - 1) 0 ≤ q
        at k there same true e less = let is = ap (λ j. slice_index_or xs j 0) (eqb-true k (i - 1) e) in omega (arith, is, same)
        at k there same false e less = let under = falls_at n xs k (i - 1) falls (grind (arith, e)) (omega arith) in omega (arith, under, same)

pub none_among : (from : ℕ) (xs : List ℕ) (i : ℕ) → i ≡ 0 → ((k : ℕ) → i ≤ k → k < length xs → slice_index_or xs k 0 < from) → (q : ℕ) → IsAmong q xs → q < from
none_among from xs i none behind q among =
    let (k, there, same) = among_at xs q among in
    let less = behind k (omega arith) there in
    omega (arith, less, same)

-- One more

falls_insert : (n : ℕ) (xs : List ℕ) (i p : ℕ) → FallsFrom n xs → i ≤ length xs → (i ≡ 0 → p < n) → ((k : ℕ) → suc k ≡ i → p < slice_index_or xs k 0) → (i < length xs → slice_index_or xs i 0 < p) → FallsFrom n (insert xs i p)
falls_insert n [] zero p falls within first before behind = (first refl, tt)
falls_insert n [] (suc i) p falls within first before behind = absurd (omega arith)
falls_insert n (x ∷ xs) zero p falls within first before behind = (first refl, (behind (omega arith), falls.1))
falls_insert n (x ∷ xs) (suc i) p falls within first before behind =
    (falls.0, falls_insert x xs i p falls.1 (omega arith) (λ e. before 0 (ap suc (sym e))) (λ k e. before (suc k) (ap suc e)) (λ less. behind (omega arith)))

among_new : (xs : List ℕ) (i p : ℕ) → i ≤ length xs → IsAmong p (insert xs i p)
among_new [] zero p within = inl refl
among_new [] (suc i) p within = absurd (omega arith)
among_new (x ∷ xs) zero p within = inl refl
among_new (x ∷ xs) (suc i) p within = inr (among_new xs i p (omega arith))

among_more : (xs : List ℕ) (i p q : ℕ) → IsAmong q xs → IsAmong q (insert xs i p)
among_more [] i p q among = absurd among
among_more (x ∷ xs) zero p q among = inr among
among_more (x ∷ xs) (suc i) p q (inl same) = inl same
among_more (x ∷ xs) (suc i) p q (inr among) = inr (among_more xs i p q among)

-- One less

pub falls_remove : (n : ℕ) (xs : List ℕ) (i : ℕ) → FallsFrom n xs → FallsFrom n (remove xs i)
falls_remove n [] zero falls = tt
falls_remove n [] (suc i) falls = tt
falls_remove n (x ∷ xs) zero falls = falls_more x n xs (omega (arith, falls.0)) falls.1
falls_remove n (x ∷ xs) (suc i) falls = (falls.0, falls_remove x xs i falls.1)

pub among_left : (xs : List ℕ) (i q : ℕ) → IsAmong q xs → slice_index_or xs i 0 ≢ q → IsAmong q (remove xs i)
among_left [] i q among other = absurd among
among_left (x ∷ xs) zero q (inl same) other = absurd (other same)
among_left (x ∷ xs) zero q (inr among) other = among
among_left (x ∷ xs) (suc i) q (inl same) other = inl same
among_left (x ∷ xs) (suc i) q (inr among) other = inr (among_left xs i q among other)

-- What the code does

module _ (n : ℕ) (xs : List ℕ) (i p : ℕ) (falls : FallsFrom n xs) (under : p < n) (within : i ≤ length xs)
    (before : (k : ℕ) → k < i → p ≤ slice_index_or xs k 0) (behind : (k : ℕ) → i ≤ k → k < length xs → slice_index_or xs k 0 < p)
    (absent : 0 < i → slice_index_or xs (i - 1) 0 ≢ p)
  where
    new_falls : FallsFrom n (insert xs i p)
    new_falls = falls_insert n xs i p falls within (λ e. under) (λ k e. (let most = before k (omega (arith, e)) in let other = absent (omega (arith, e)) in above k e most other)) (λ less. behind i (omega arith) less)
      where
        above : (k : ℕ) → suc k ≡ i → p ≤ slice_index_or xs k 0 → slice_index_or xs (i - 1) 0 ≢ p → p < slice_index_or xs k 0
        above k e most other =
            let same : i - 1 ≡ k = omega (arith, e) in
            let not : slice_index_or xs k 0 ≢ p = subst (λ j. slice_index_or xs j 0 ≢ p) same other in
            omega (arith, most, not)

    new_long : (xs : List ℕ) (i : ℕ) → i ≤ length xs → length (insert xs i p) ≡ suc (length xs)
    new_long [] zero within = refl
    new_long [] (suc i) within = absurd (omega arith)
    new_long (x ∷ xs) zero within = refl
    new_long (x ∷ xs) (suc i) within = ap suc (new_long xs i (omega arith))

    pub new_fits : (width : ℕ) → n ≤ width → length xs < width
    new_fits width most = let long = falls_long n (insert xs i p) new_falls in omega (arith, long, new_long xs i within, most)

    module _ {E : Type 0} (r : Result (Unit {0}) E) (items : List ℕ) (is : items ≡ (if is_ok r then insert xs i p else xs)) (ok : IsOk r) where
      items_are : items ≡ insert xs i p
      items_are = go r is ok
        where
          go : (r : Result (Unit {0}) E) → items ≡ (if is_ok r then insert xs i p else xs) → IsOk r → items ≡ insert xs i p
          go (Ok u) is ok = is
          go (Err e) is ok = absurd (cc (ok))

      pub inserted_falls : FallsFrom n items
      inserted_falls = rw items_are new_falls

      pub inserted_here : IsAmong p items
      inserted_here = rw items_are (among_new xs i p within)

      pub inserted_kept : (q : ℕ) → IsAmong q xs → IsAmong q items
      inserted_kept q among = rw items_are (among_more xs i p q among)

-- the number that was read
pub read_zero : (xs : List ℕ) (i x : ℕ) → i < length xs → x ≡ slice_index_or xs i x → slice_index_or xs i 0 ≡ x
read_zero xs i x within is = sym (get_or_default_zero xs i x within) ∙ sym is

pub found_here : (xs : List ℕ) (i x p : ℕ) → i < length xs → x ≡ slice_index_or xs i x → x ≡ p → IsAmong p xs
found_here xs i x p within is same = subst (λ q. IsAmong q xs) (read_zero xs i x within is ∙ same) (among_here xs i within)

-- what is not found in front of the place where it would stand is not listed
pub absent_by : (xs : List ℕ) (i x p : ℕ) → i - 1 < length xs → x ≡ slice_index_or xs (i - 1) x → x ≢ p → 0 < i → slice_index_or xs (i - 1) 0 ≢ p
absent_by xs i x p within is other some same = other (sym (read_zero xs (i - 1) x within is) ∙ same)

-- What a test keeps of a list that it parts in two.
use Rattle.std.proofs.Common.{◌≡◌, refl, sym, ap, ◌∙◌, ℕ, zero, suc, ◌<◌, ◌≤◌, Bool, true, false, cond, ◌&&◌, ◌||◌, ◌==◌, nat_le, Some, slice_get, List, [], ◌∷◌, length, take, drop, filter, arith}
use Rattle.std.proofs.lemmas.Bool.{cond-false, cond-true, lt-leb, or_from, or_left, or_right}
use Rattle.std.proofs.lemmas.Bool.Decides.{nat_tests}
use Rattle.std.specs.List.{AllWithin, list_any}
use Rattle.ipc_waits.specs.Queues.{IsOrdered, is_in, is_same, under, until}
use Rattle.ipc_waits.specs.declared.queue.Wait.{Wait}
use Rattle.ipc_waits.proofs.Orders.{key_rises}
use Rattle.ipc_waits.proofs.Sames.{same_itself}

-- the front, where the test holds up to a place and no further
pub front_is : {X : Type 0} (p : X → Bool) (xs : List X) (n : ℕ) → AllWithin (λ x. p x ≡ true) xs 0 n → AllWithin (λ x. p x ≡ false) xs n (length xs) → n ≤ length xs → take n xs ≡ filter p xs
front_is p [] zero passes fails fits = refl
front_is p [] (suc n) passes fails fits = refl
front_is p (x ∷ xs) zero passes fails fits =
    front_is p xs zero (λ k d low high. absurd (omega arith)) (λ k d low high. fails (suc k) d (omega arith) (omega arith)) (omega arith)
    ∙ sym (cond-false (p x) (x ∷ filter p xs) (filter p xs) (fails 0 x (omega arith) (omega arith)))
front_is p (x ∷ xs) (suc n) passes fails fits =
    ap (λ r. x ∷ r) (front_is p xs n (λ k d low high. passes (suc k) d (omega arith) (omega arith)) (λ k d low high. fails (suc k) d (omega arith) (omega arith)) (omega arith))
    ∙ sym (cond-true (p x) (x ∷ filter p xs) (filter p xs) (passes 0 x (omega arith) (omega arith)))

-- the rest, where it holds from a place on
pub rest_is : {X : Type 0} (p : X → Bool) (xs : List X) (n : ℕ) → AllWithin (λ x. p x ≡ false) xs 0 n → AllWithin (λ x. p x ≡ true) xs n (length xs) → n ≤ length xs → drop n xs ≡ filter p xs
rest_is p [] zero fails passes fits = refl
rest_is p [] (suc n) fails passes fits = refl
rest_is p (x ∷ xs) zero fails passes fits =
    ap (λ r. x ∷ r) (rest_is p xs zero (λ k d low high. absurd (omega arith)) (λ k d low high. passes (suc k) d (omega arith) (omega arith)) (omega arith))
    ∙ sym (cond-true (p x) (x ∷ filter p xs) (filter p xs) (passes 0 x (omega arith) (omega arith)))
rest_is p (x ∷ xs) (suc n) fails passes fits =
    rest_is p xs n (λ k d low high. fails (suc k) d (omega arith) (omega arith)) (λ k d low high. passes (suc k) d (omega arith) (omega arith)) (omega arith)
    ∙ sym (cond-false (p x) (x ∷ filter p xs) (filter p xs) (fails 0 x (omega arith) (omega arith)))

-- a filter after a filter
pub filter_both : {X : Type 0} (p q r : X → Bool) → ((x : X) → r x ≡ (p x && q x)) → (xs : List X) → filter q (filter p xs) ≡ filter r xs
filter_both p q r same [] = refl
filter_both p q r same (x ∷ xs) = go (filter_both p q r same xs) (p x) (q x) refl (same x)
  where
    go : filter q (filter p xs) ≡ filter r xs → (a b : Bool) → q x ≡ b → r x ≡ (a && b) → filter q (cond a (x ∷ filter p xs) (filter p xs)) ≡ cond (r x) (x ∷ filter r xs) (filter r xs)
    go rest true true passes is = cond-true (q x) _ _ passes ∙ ap (λ l. x ∷ l) rest ∙ sym (cond-true (r x) _ _ is)
    go rest true false fails is = cond-false (q x) _ _ fails ∙ rest ∙ sym (cond-false (r x) _ _ is)
    go rest false b passes is = rest ∙ sym (cond-false (r x) _ _ is)

-- those up to a key and from it on
between : (key : ℕ) (w : Wait) → (w.key == key) ≡ (nat_le w.key key && nat_le key w.key)
between key w = grind (arith, nat_tests)

pub under_is : (key : ℕ) (ws : List Wait) → filter (λ w. nat_le key w.key) (until key ws) ≡ under key ws
under_is key ws = filter_both (λ w. nat_le w.key key) (λ w. nat_le key w.key) (λ w. w.key == key) (between key) ws

-- the first is due where any is
all_later : (moment : ℕ) (ws : List Wait) → ((w : Wait) → is_in ws w ≡ true → moment < w.key) → list_any (λ w. nat_le w.key moment) ws ≡ false
all_later moment [] later = refl
all_later moment (x ∷ xs) later =
    or_from _ _ (lt-leb x.key moment (later x (or_left _ _ (same_itself x)))) (all_later moment xs (λ w h. later w (or_right (is_same w x) _ h)))

first_settles : (moment : ℕ) (w : Wait) (ws : List Wait) → IsOrdered (w ∷ ws) → nat_le w.key moment ≡ list_any (λ v. nat_le v.key moment) (w ∷ ws)
first_settles moment w ws o = go (nat_le w.key moment) refl
  where
    go : (b : Bool) → nat_le w.key moment ≡ b → b ≡ (b || list_any (λ v. nat_le v.key moment) ws)
    go true e = refl
    go false e = sym (all_later moment ws (λ v h. (let rises = key_rises w v (o.0 v h) in grind (arith, nat_tests))))

pub due_first : (moment : ℕ) (ws : List Wait) (w : Wait) → IsOrdered ws → Some w ≡ slice_get ws 0 → nat_le w.key moment ≡ list_any (λ v. nat_le v.key moment) ws
due_first moment [] w o first = absurd (cc)
due_first moment (x ∷ xs) w o first = (let is : w ≡ x = cc in ap (λ v. nat_le v.key moment) is ∙ first_settles moment x xs o)

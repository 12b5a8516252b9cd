-- Of each place at most one wait.
use Rattle.std.proofs.Common.{◌≡◌, refl, ◌∙◌, ℕ, ◌<◌, true, false, ◌==◌, eqb-true, List, [], ◌∷◌, ◌++◌, length, map, inl, inr, arith}
use Rattle.std.proofs.lemmas.Bool.{false≢true, or_cases, or_from, or_parts}
use Rattle.std.proofs.lemmas.List.{length-map}
use Rattle.std.proofs.lemmas.List.Elements.{All-cons, All-head, All-tail}
use Rattle.std.proofs.lemmas.Map.Steps.{length-le_from_distinct_below}
use Rattle.std.specs.List.{All, AllByRecursion, IsDistinct, list_any}
use Rattle.ipc_words.specs.Limits.{table_slots}
use Rattle.ipc_waits.specs.Queues.{IsQueue, is_placed}
use Rattle.ipc_waits.specs.declared.queue.Wait.{Wait}
use Rattle.ipc_waits.proofs.Numbers.{eqb_sym}

abbrev places : List Wait → List ℕ
places ws = map (λ w. w.place) ws

-- other places
apart : (place : ℕ) (ws : List Wait) → is_placed ws place ≡ false → AllByRecursion (λ k. (place == k) ≡ false) (places ws)
apart place [] none = tt
apart place (x ∷ xs) none = (let parts = or_parts _ _ none in (eqb_sym place x.place ∙ parts.0, apart place xs parts.1))

unplaced_by : (place : ℕ) (ws : List Wait) → AllByRecursion (λ k. (place == k) ≡ false) (places ws) → is_placed ws place ≡ false
unplaced_by place [] all = refl
unplaced_by place (x ∷ xs) all = or_from _ _ (eqb_sym x.place place ∙ all.0) (unplaced_by place xs all.1)

all_with : (P : ℕ → Type 0) (xs ys : List Wait) (v : Wait) → AllByRecursion P (places (xs ++ ys)) → P v.place → AllByRecursion P (places (xs ++ v ∷ ys))
all_with P [] ys v all p = (p, all)
all_with P (x ∷ xs) ys v all p = (all.0, all_with P xs ys v all.1 p)

all_without : (P : ℕ → Type 0) (xs ys : List Wait) (v : Wait) → AllByRecursion P (places (xs ++ v ∷ ys)) → AllByRecursion P (places (xs ++ ys)) × P v.place
all_without P [] ys v all = (all.1, all.0)
all_without P (x ∷ xs) ys v all = (let rest = all_without P xs ys v all.1 in ((all.0, rest.0), rest.1))

-- one more
pub distinct_with : (xs ys : List Wait) (v : Wait) → IsDistinct (λ a b. a == b) (places (xs ++ ys)) → is_placed (xs ++ ys) v.place ≡ false → IsDistinct (λ a b. a == b) (places (xs ++ v ∷ ys))
unfolding IsDistinct
distinct_with [] ys v once fresh = (apart v.place ys fresh, once)
distinct_with (x ∷ xs) ys v once fresh =
    let parts = or_parts _ _ fresh in
    (all_with (λ k. (x.place == k) ≡ false) xs ys v once.0 parts.0, distinct_with xs ys v once.1 parts.1)

-- one less
pub distinct_without : (xs ys : List Wait) (v : Wait) → IsDistinct (λ a b. a == b) (places (xs ++ v ∷ ys)) → IsDistinct (λ a b. a == b) (places (xs ++ ys))
unfolding IsDistinct
distinct_without [] ys v once = once.1
distinct_without (x ∷ xs) ys v once = ((all_without (λ k. (x.place == k) ≡ false) xs ys v once.0).0, distinct_without xs ys v once.1)

pub alone : (xs ys : List Wait) (v : Wait) → IsDistinct (λ a b. a == b) (places (xs ++ v ∷ ys)) → is_placed (xs ++ ys) v.place ≡ false
unfolding IsDistinct
alone [] ys v once = unplaced_by v.place ys once.0
alone (x ∷ xs) ys v once = or_from _ _ (all_without (λ k. (x.place == k) ≡ false) xs ys v once.0).1 (alone xs ys v once.1)

pub none_twice : IsDistinct (λ (a b : ℕ). a == b) (places [])
unfolding IsDistinct
none_twice = tt

-- the room for one more
below : (n : ℕ) (ws : List Wait) (q : ℕ) → All (λ w. w.place < n) ws → list_any (λ k. q == k) (places ws) ≡ true → q < n
below n [] q all found = absurd (false≢true found)
below n (x ∷ xs) q all found = elim (or_cases _ _ found) [
  | inl here ↦ (let at : x.place < n = All-head (λ w. w.place < n) x xs all in let same : q ≡ x.place = eqb-true q x.place here in omega arith)
  | inr later ↦ below n xs q (All-tail (λ w. w.place < n) x xs all) later
]

pub room : (ws : List Wait) (v : Wait) → IsQueue ws → v.place < table_slots → is_placed ws v.place ≡ false → length ws < table_slots
room ws v queue within fresh =
    let all = All-cons (λ w. w.place < table_slots) v ws within queue.within in
    let few = length-le_from_distinct_below (places (v ∷ ws)) table_slots (distinct_with [] ws v queue.once fresh) (λ q found. below table_slots (v ∷ ws) q all found) in
    omega (arith, few, length-map (v ∷ ws) (λ w. w.place))

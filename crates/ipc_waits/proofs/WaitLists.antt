-- Waits in lists, and their numbers.
use Rattle.std.proofs.lemmas.Bool.{false≢true, or_cases, or_left, or_right}
use Rattle.std.proofs.lemmas.List.Elements.{All-cons, All-nil}
use Rattle.std.proofs.lemmas.Map.Views.{any-filter_same}
use Rattle.std.proofs.lemmas.Option.{none-some, same_Some}
use Rattle.std.proofs.Common.{All, ◌≡◌, refl, sym, ap, ◌∙◌, subst, ℕ, ◌≤◌, ◌==◌, ◌&&◌, ◌||◌, eq-eqb, eqb-true, nat_lt, nat_le, Bool, true, false, List, [], ◌∷◌, Option, Some, None, option_map, find, filter, map, cond, inl, inr, arith}
use Rattle.std.specs.List.{list_any}
use Rattle.ipc_laws.proofs.Tests.{left, right}
use Rattle.ipc_waits.specs.Finding.{IsRising, is_among}
use Rattle.ipc_waits.proofs.Among.{find_least}
use Rattle.ipc_waits.specs.Queues.{IsOrdered, comes_before, is_in, is_same, under}
use Rattle.ipc_waits.specs.declared.queue.Wait.{Wait}
use Rattle.ipc_waits.proofs.Sames.{same_is, same_itself}

-- What is in a list

pub in_filter : (test : Wait → Bool) (ws : List Wait) (w : Wait) → is_in (filter test ws) w ≡ (test w && is_in ws w)
in_filter test ws w = any-filter_same (is_same w) test (test w) (λ k same. ap test (sym (same_is w k same))) ws

pub in_any : (test : Wait → Bool) (ws : List Wait) (w : Wait) → is_in ws w ≡ true → test w ≡ true → list_any test ws ≡ true
in_any test [] w h passes = absurd (false≢true h)
in_any test (x ∷ ws) w h passes = elim (or_cases (is_same w x) (is_in ws w) h) [ inl same ↦ or_left (test x) _ (ap test (sym (same_is w x same)) ∙ passes) | inr behind ↦ or_right (test x) _ (in_any test ws w behind passes) ]

pub any_in : (test : Wait → Bool) (ws : List Wait) → list_any test ws ≡ true → (w : Wait) × (is_in ws w ≡ true) × (test w ≡ true)
any_in test [] h = absurd (false≢true h)
any_in test (x ∷ ws) h = elim (or_cases (test x) (list_any test ws) h) [ inl here ↦ (x, or_left (is_same x x) _ (same_itself x), here) | inr behind ↦ (let w = any_in test ws behind in (w.0, or_right (is_same w.0 x) _ w.1, w.2)) ]

pub all_in : (X : Wait → Type 0) (ws : List Wait) → ((w : Wait) → is_in ws w ≡ true → X w) → All X ws
all_in X [] h = All-nil X
all_in X (x ∷ ws) h = All-cons X x ws (h x (or_left (is_same x x) _ (same_itself x))) (all_in X ws (λ w there. h w (or_right (is_same w x) _ there)))

pub in_map : (f : Wait → ℕ) (ws : List Wait) (w : Wait) → is_in ws w ≡ true → is_among (map f ws) (f w) ≡ true
in_map f [] w h = absurd (false≢true h)
in_map f (x ∷ ws) w h = elim (or_cases (is_same w x) (is_in ws w) h) [ inl same ↦ or_left (f x == f w) _ (eq-eqb (f x) (f w) (ap f (sym (same_is w x same)))) | inr behind ↦ or_right (f x == f w) _ (in_map f ws w behind) ]

pub of_map : (f : Wait → ℕ) (ws : List Wait) (k : ℕ) → is_among (map f ws) k ≡ true → (w : Wait) × (is_in ws w ≡ true) × (f w ≡ k)
of_map f [] k h = absurd (false≢true h)
of_map f (x ∷ ws) k h = elim (or_cases (f x == k) (is_among (map f ws) k) h) [ inl same ↦ (x, or_left (is_same x x) _ (same_itself x), eqb-true (f x) k same) | inr behind ↦ (let w = of_map f ws k behind in (w.0, or_right (is_same w.0 x) _ w.1, w.2)) ]

-- The first that passes

-- numbers in order, where one may come twice
abbrev pub IsSorted : List ℕ → Type 0
IsSorted [] = Unit {0}
IsSorted (x ∷ xs) = ((y : ℕ) → is_among xs y ≡ true → x ≤ y) × IsSorted xs

pub rising_sorted : (xs : List ℕ) → IsRising xs → IsSorted xs
rising_sorted [] rising = tt
rising_sorted (x ∷ xs) rising = (λ y among. (let far = rising.0 y among in omega arith), rising_sorted xs rising.1)

-- under one key the numbers rise
number_order : (a b : Wait) → comes_before a b ≡ true → a.key ≡ b.key → a.number ≤ b.number
number_order a b before same = order a.key b.key a.number b.number before same
  where
    order : (j k m n : ℕ) → (nat_lt j k || ((j == k) && nat_le m n)) ≡ true → j ≡ k → m ≤ n
    order j k m n before same = grind arith

pub under_sorted : (t : ℕ) (ws : List Wait) → IsOrdered ws → IsSorted (map (λ w. w.number) (under t ws))
under_sorted t [] ordered = tt
under_sorted t (x ∷ ws) ordered = go (x.key == t) refl (under_sorted t ws ordered.1)
  where
    below : x.key ≡ t → (y : ℕ) → is_among (map (λ w. w.number) (under t ws)) y ≡ true → x.number ≤ y
    below here y among =
        let w = of_map (λ w. w.number) (under t ws) y among in
        let there : ((w.0.key == t) && is_in ws w.0) ≡ true = sym (in_filter (λ w. w.key == t) ws w.0) ∙ w.1 in
        let same : w.0.key ≡ t = eqb-true w.0.key t (left (w.0.key == t) (is_in ws w.0) there) in
        let near = number_order x w.0 (ordered.0 w.0 (right (w.0.key == t) (is_in ws w.0) there)) (here ∙ sym same) in
        subst (λ k. x.number ≤ k) w.2 near

    go : (b : Bool) → (x.key == t) ≡ b → IsSorted (map (λ w. w.number) (under t ws)) → IsSorted (map (λ w. w.number) (cond b (x ∷ under t ws) (under t ws)))
    go true e later = (below (eqb-true x.key t e), later)
    go false e later = later

pub under_twice : (t : ℕ) (ws : List Wait) → under t (under t ws) ≡ under t ws
under_twice t [] = refl
under_twice t (x ∷ ws) = go (x.key == t) refl (under_twice t ws)
  where
    go : (b : Bool) → (x.key == t) ≡ b → under t (under t ws) ≡ under t ws → under t (cond b (x ∷ under t ws) (under t ws)) ≡ cond b (x ∷ under t ws) (under t ws)
    go true e later = rw (e, later) refl
    go false e later = later

-- the first that passes is among them, passes, and is the least of those
record IsFound (test : ℕ → Bool) (xs : List ℕ) (k : ℕ) : Type 0 where
  pub among : is_among xs k ≡ true
  pub passes : test k ≡ true
  pub least : (n : ℕ) → is_among xs n ≡ true → test n ≡ true → k ≤ n

found : (test : ℕ → Bool) (xs : List ℕ) (k : ℕ) → IsSorted xs → find test xs ≡ Some k → IsFound test xs k
found test [] k sorted e = absurd (none-some k e)
found test (x ∷ xs) k sorted e = go (test x) refl e (found test xs k sorted.1)
  where
    go : (b : Bool) → test x ≡ b → cond b (Some x) (find test xs) ≡ Some k → (find test xs ≡ Some k → IsFound test xs k) → IsFound test (x ∷ xs) k
    go true passes e later =
        let here : x ≡ k = same_Some x k e in
        subst (IsFound test (x ∷ xs)) here (record {
          among = or_left (x == x) _ (eq-eqb x x refl);
          passes = passes;
          least = λ n among passes. elim (or_cases (x == n) (is_among xs n) among) [ inl same ↦ (let s : x ≡ n = eqb-true x n same in omega arith) | inr behind ↦ sorted.0 n behind ];
        })
    go false fails e later =
        let l = later e in
        record {
          among = or_right (x == k) _ l.among;
          passes = l.passes;
          least = λ n among passes. elim (or_cases (x == n) (is_among xs n) among) [ inl same ↦ absurd (false≢true (sym fails ∙ (ap test (eqb-true x n same) ∙ passes))) | inr behind ↦ l.least n behind passes ];
        }

-- so it is one of two sorted lists with the same numbers
pub same_find : (test : ℕ → Bool) (xs ys : List ℕ) → IsSorted xs → IsSorted ys → ((n : ℕ) → is_among xs n ≡ is_among ys n) → find test xs ≡ find test ys
same_find test xs ys sorted sorted_too same = go (find test xs) refl (find test ys) refl
  where
    none : (us vs : List ℕ) → ((n : ℕ) → is_among us n ≡ is_among vs n) → IsSorted vs → (k : ℕ) → find test us ≡ None → find test vs ≡ Some k → ⊥
    none us vs all sorted k e f =
        let of = found test vs k sorted f in
        let there = find_least test us k (all k ∙ of.among) of.passes in
        none-some there.0 (sym e ∙ there.1)

    go : (o : Option ℕ) → find test xs ≡ o → (p : Option ℕ) → find test ys ≡ p → find test xs ≡ find test ys
    go None e None f = e ∙ sym f
    go None e (Some k) f = absurd (none xs ys same sorted_too k e f)
    go (Some k) e None f = absurd (none ys xs (λ n. sym (same n)) sorted k f e)
    go (Some k) e (Some j) f =
        let a = found test xs k sorted e in
        let b = found test ys j sorted_too f in
        let low : k ≤ j = a.least j (same j ∙ b.among) b.passes in
        let high : j ≤ k = b.least k (sym (same k) ∙ a.among) a.passes in
        let one : k ≡ j = omega arith in
        e ∙ (ap (λ n. Some n) one ∙ sym f)

pub find_mapped : (f : Wait → ℕ) (test : ℕ → Bool) (ws : List Wait) → option_map f (find (λ w. test (f w)) ws) ≡ find test (map f ws)
find_mapped f test [] = refl
find_mapped f test (x ∷ ws) = go (test (f x)) (find_mapped f test ws)
  where
    go : (b : Bool) → option_map f (find (λ w. test (f w)) ws) ≡ find test (map f ws) → option_map f (cond b (Some x) (find (λ w. test (f w)) ws)) ≡ cond b (Some (f x)) (find test (map f ws))
    go true later = refl
    go false later = later

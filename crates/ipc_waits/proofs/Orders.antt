-- Waits in order.
use Rattle.std.proofs.Common.{◌≡◌, ap, ◌∙◌, ℕ, zero, suc, ◌-◌, ◌≤◌, length, Bool, true, false, cond, List, [], ◌∷◌, ◌++◌, get_or, filter, inl, inr, arith}
use Rattle.std.proofs.lemmas.Bool.{or_cases, or_left, or_right}
use Rattle.std.proofs.lemmas.Bool.Decides.{nat_tests}
use Rattle.std.proofs.lemmas.List.{get_or_default}
use Rattle.std.specs.List.Sorted.{IsPartitionPoint, IsPartitionedBy}
use Rattle.ipc_waits.specs.Queues.{IsOrdered, comes_before, is_in, is_same}
use Rattle.ipc_waits.specs.declared.queue.Wait.{Wait}
use Rattle.ipc_waits.proofs.Sames.{in_at, in_filter, in_with, same_is, same_itself}

pub before_before : (a b c : Wait) → comes_before a b ≡ true → comes_before b c ≡ true → comes_before a c ≡ true
before_before a b c h k = grind (arith, nat_tests)

pub before_or_after : (a b : Wait) → comes_before a b ≡ false → comes_before b a ≡ true
before_or_after a b h = grind (arith, nat_tests)

pub key_rises : (a b : Wait) → comes_before a b ≡ true → a.key ≤ b.key
key_rises a b h = grind (arith, nat_tests)

pub unlike : (a b : Wait) → comes_before a b ≡ false → is_same a b ≡ false
unlike a b h = grind (arith, nat_tests)

-- what a test keeps
pub ordered_filter : (p : Wait → Bool) (ws : List Wait) → IsOrdered ws → IsOrdered (filter p ws)
ordered_filter p [] o = tt
ordered_filter p (x ∷ xs) o = go (ordered_filter p xs o.1) (p x)
  where
    go : IsOrdered (filter p xs) → (b : Bool) → IsOrdered (cond b (x ∷ filter p xs) (filter p xs))
    go rest true = ((λ w h. o.0 w (in_filter p xs w h)), rest)
    go rest false = rest

-- without one
in_without : (xs ys : List Wait) (v w : Wait) → is_in (xs ++ ys) w ≡ true → is_in (xs ++ v ∷ ys) w ≡ true
in_without xs ys v w h = rw (in_with xs ys v w) (or_left _ _ h)

pub ordered_without : (xs ys : List Wait) (v : Wait) → IsOrdered (xs ++ v ∷ ys) → IsOrdered (xs ++ ys)
ordered_without [] ys v o = o.1
ordered_without (x ∷ xs) ys v o = ((λ w h. o.0 w (in_without xs ys v w h)), ordered_without xs ys v o.1)

-- with one more
pub ordered_with : (xs ys : List Wait) (v : Wait) → IsOrdered (xs ++ ys) → ((a : Wait) → is_in xs a ≡ true → comes_before a v ≡ true) → ((b : Wait) → is_in ys b ≡ true → comes_before v b ≡ true) → IsOrdered (xs ++ v ∷ ys)
ordered_with [] ys v o front back = (back, o)
ordered_with (x ∷ xs) ys v o front back = (first, ordered_with xs ys v o.1 (λ a h. front a (or_right (is_same a x) _ h)) back)
  where
    first : (w : Wait) → is_in (xs ++ v ∷ ys) w ≡ true → comes_before x w ≡ true
    first w h = elim (or_cases _ _ (rw (in_with xs ys v w) at h)) [
      | inl old ↦ o.0 w old
      | inr new ↦ (let at : comes_before x v ≡ true = front x (or_left _ _ (same_itself x)) in rw (same_is w v new) at)
    ]

-- a test that what comes before passes too
pub partitioned : (p : Wait → Bool) → ((a b : Wait) → comes_before a b ≡ true → p b ≡ true → p a ≡ true) → (ws : List Wait) → IsOrdered ws → IsPartitionedBy p ws
partitioned p falls [] o i j d le within h = absurd (omega arith)
partitioned p falls (x ∷ xs) o zero zero d le within h = h
partitioned p falls (x ∷ xs) o zero (suc j) d le within h = falls x (get_or xs j d) (o.0 (get_or xs j d) (in_at xs j d (omega arith))) h
partitioned p falls (x ∷ xs) o (suc i) zero d le within h = absurd (omega arith)
partitioned p falls (x ∷ xs) o (suc i) (suc j) d le within h = partitioned p falls xs o.1 i j d (omega arith) (omega arith) h

-- behind the last one, where that comes before it
pub behind_last : (ws : List Wait) (n : ℕ) (v d : Wait) → IsOrdered ws → n ≡ length ws → comes_before (get_or ws (n - 1) d) v ≡ true → IsPartitionPoint (λ w. comes_before w v ≡ true) (λ w. comes_before w v ≡ false) ws n
behind_last ws n v d o is last = ((λ k e low high. partitioned (λ w. comes_before w v) (λ a b before passes. before_before a b v before passes) ws o k (n - 1) e (omega arith) (omega arith) (ap (λ w. comes_before w v) (get_or_default ws (n - 1) e d (omega arith)) ∙ last)), (λ k e low high. absurd (omega arith)))

-- the key of the first one is the least
pub first_least : (ws : List Wait) (k : ℕ) (d e : Wait) → IsOrdered ws → suc k ≤ length ws → (get_or ws 0 e).key ≤ (get_or ws k d).key
first_least [] k d e o within = absurd (omega arith)
first_least (x ∷ xs) zero d e o within = omega arith
first_least (x ∷ xs) (suc k) d e o within = key_rises x (get_or xs k d) (o.0 (get_or xs k d) (in_at xs k d (omega arith)))

-- A queue with one more wait, and without one.
use Rattle.std.proofs.Common.{◌≡◌, refl, sym, ap, ◌∙◌, subst, ℕ, suc, ◌<◌, ◌≤◌, Bool, true, false, not, ◌&&◌, ◌||◌, ◌==◌, List, [], ◌∷◌, ◌++◌, length, map, get_or, take, drop, filter, insert, remove, drop-cons, take-append-drop, arith}
use Rattle.std.proofs.lemmas.Bool.{not-true}
use Rattle.std.proofs.lemmas.List.Elements.{All-append, All-cons, All-drop, All-nil, All-take}
use Rattle.std.specs.List.{IsDistinct}
use Rattle.std.specs.List.Sorted.{IsPartitionPoint}
use Rattle.ipc_words.specs.Limits.{table_slots}
use Rattle.ipc_waits.specs.Queues.{IsOrdered, IsQueue, comes_before, is_in, is_placed, is_same}
use Rattle.ipc_waits.specs.declared.queue.Wait.{Wait}
use Rattle.ipc_waits.proofs.Distinct.{alone, distinct_with, distinct_without, none_twice}
use Rattle.ipc_waits.proofs.Orders.{before_or_after, ordered_with, ordered_without}
use Rattle.ipc_waits.proofs.Parts.{front_is, rest_is}
use Rattle.ipc_waits.proofs.Sames.{filter_passes, in_with, same_is, unplaced}

pub no_waits : (ws : List Wait) → ws ≡ [] → IsQueue ws
no_waits ws none = subst IsQueue (sym none) (record { ordered = tt; once = none_twice; within = All-nil (λ w. w.place < table_slots) })

-- where a wait goes
module _ (ws : List Wait) (v : Wait) (n : ℕ) (point : IsPartitionPoint (λ w. comes_before w v ≡ true) (λ w. comes_before w v ≡ false) ws n) (fits : n ≤ length ws) where
  front : (a : Wait) → is_in (take n ws) a ≡ true → comes_before a v ≡ true
  front a h = filter_passes (λ w. comes_before w v) ws a (ap (λ l. is_in l a) (sym (front_is (λ w. comes_before w v) ws n point.0 point.1 fits)) ∙ h)

  behind : drop n ws ≡ filter (λ w. not (comes_before w v)) ws
  behind = rest_is (λ w. not (comes_before w v)) ws n (λ k d low high. ap not (point.0 k d low high)) (λ k d low high. ap not (point.1 k d low high)) fits

  back : (b : Wait) → is_in (drop n ws) b ≡ true → comes_before v b ≡ true
  back b h = before_or_after b v (not-true (comes_before b v) (filter_passes (λ w. not (comes_before w v)) ws b (ap (λ l. is_in l b) (sym behind) ∙ h)))

  whole : take n ws ++ drop n ws ≡ ws
  whole = take-append-drop n ws

  pub queue_with : IsQueue ws → v.place < table_slots → is_placed ws v.place ≡ false → IsQueue (insert ws n v)
  queue_with queue within fresh = record {
    ordered = ordered_with (take n ws) (drop n ws) v (subst IsOrdered (sym whole) queue.ordered) front back;
    once = distinct_with (take n ws) (drop n ws) v (subst (λ l. IsDistinct (λ a b. a == b) (map (λ w. w.place) l)) (sym whole) queue.once) (ap (λ l. is_placed l v.place) whole ∙ fresh);
    within = All-append (λ w. w.place < table_slots) (take n ws) (v ∷ drop n ws) (All-take (λ w. w.place < table_slots) n ws queue.within) (All-cons (λ w. w.place < table_slots) v (drop n ws) within (All-drop (λ w. w.place < table_slots) n ws queue.within));
  }

pub in_inserted : (ws : List Wait) (n : ℕ) (v w : Wait) → is_in (insert ws n v) w ≡ (is_in ws w || is_same w v)
in_inserted ws n v w = in_with (take n ws) (drop n ws) v w ∙ ap (λ l. is_in l w || is_same w v) (take-append-drop n ws)

-- without the one at a place
module _ (ws : List Wait) (i : ℕ) (v : Wait) (within : i < length ws) (is : get_or ws i v ≡ v) where
  parts : take i ws ++ v ∷ drop (suc i) ws ≡ ws
  parts = ap (λ x. take i ws ++ x ∷ drop (suc i) ws) (sym is) ∙ ap (λ l. take i ws ++ l) (sym (drop-cons ws i v within)) ∙ take-append-drop i ws

  pub queue_without : IsQueue ws → IsQueue (remove ws i)
  queue_without queue = record {
    ordered = ordered_without (take i ws) (drop (suc i) ws) v (subst IsOrdered (sym parts) queue.ordered);
    once = distinct_without (take i ws) (drop (suc i) ws) v (subst (λ l. IsDistinct (λ a b. a == b) (map (λ w. w.place) l)) (sym parts) queue.once);
    within = All-append (λ w. w.place < table_slots) (take i ws) (drop (suc i) ws) (All-take (λ w. w.place < table_slots) i ws queue.within) (All-drop (λ w. w.place < table_slots) (suc i) ws queue.within);
  }

  pub in_removed : IsQueue ws → (w : Wait) → is_in (remove ws i) w ≡ (is_in ws w && not (is_same w v))
  in_removed queue w =
      lone (is_in (remove ws i) w) (is_same w v) (λ same. ap (is_in (remove ws i)) (same_is w v same) ∙ unplaced (remove ws i) v gone)
      ∙ ap (λ b. b && not (is_same w v)) (sym (in_with (take i ws) (drop (suc i) ws) v w) ∙ ap (λ l. is_in l w) parts)
    where
      gone : is_placed (remove ws i) v.place ≡ false
      gone = alone (take i ws) (drop (suc i) ws) v (subst (λ l. IsDistinct (λ a b. a == b) (map (λ w. w.place) l)) (sym parts) queue.once)

      lone : (a b : Bool) → (b ≡ true → a ≡ false) → a ≡ ((a || b) && not b)
      lone a true h = rw (h refl)
      lone a false h = grind arith

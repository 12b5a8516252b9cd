-- The wait that has the least number.
use Rattle.std.proofs.Common.{◌≡◌, refl, sym, ◌∙◌, subst, ℕ, ◌+◌, ◌<◌, ◌≤◌, nat_le, Bool, true, false, ◌||◌, List, [], ◌∷◌, ◌++◌, Option, Some, None, length, take, get_or, if◌then◌else◌, inl, inr, arith}
use Rattle.std.proofs.lemmas.Bool.{false≢true, or_cases, or_left, or_right}
use Rattle.std.proofs.lemmas.Bool.Decides.{nat_tests}
use Rattle.std.proofs.lemmas.List.{take_all, take_more}
use Rattle.std.proofs.lemmas.List.Folds.{list_any-append}
use Rattle.ipc_waits.specs.Queues.{IsLeastWait, is_in, is_same, lesser}
use Rattle.ipc_waits.specs.declared.queue.Wait.{Wait}
use Rattle.ipc_waits.proofs.Sames.{same_is, same_itself}

-- one more wait
module _ (xs : List Wait) (x : Wait) where
  in_more : (w : Wait) → is_in (xs ++ x ∷ []) w ≡ (is_in xs w || is_same w x)
  in_more w = list_any-append (is_same w) xs (x ∷ []) ∙ last (is_in xs w) (is_same w x)
    where
      last : (a b : Bool) → (a || (b || false)) ≡ (a || b)
      last a b = grind arith

  least_with : (least : Wait) → (is_in xs least || is_same least x) ≡ true → ((w : Wait) → is_in xs w ≡ true → least.number ≤ w.number) → least.number ≤ x.number → IsLeastWait (xs ++ x ∷ []) (Some least)
  least_with least there low lower = (
    in_more least ∙ there,
    λ w among. elim (or_cases (is_in xs w) (is_same w x) (sym (in_more w) ∙ among)) [
      | inl before ↦ low w before
      | inr same ↦ subst (λ v. least.number ≤ v.number) (sym (same_is w x same)) lower
    ],
  )

  pub least_more : (least : Option Wait) → IsLeastWait xs least → IsLeastWait (xs ++ x ∷ []) (lesser least x)
  least_more None none = subst (λ l. IsLeastWait (l ++ x ∷ []) (Some x)) (sym none) (
    or_left (is_same x x) false (same_itself x),
    λ w among. elim (or_cases (is_same w x) false among) [
      | inl same ↦ subst (λ v. x.number ≤ v.number) (sym (same_is w x same)) (omega arith)
      | inr none ↦ absurd (false≢true none)
    ],
  )
  least_more (Some known) least = go (nat_le known.number x.number) refl
    where
      go : (b : Bool) → nat_le known.number x.number ≡ b → IsLeastWait (xs ++ x ∷ []) (if b then Some known else Some x)
      go true e = least_with known (or_left _ _ least.0) least.1 (low known.number x.number e)
        where
          low : (m n : ℕ) → nat_le m n ≡ true → m ≤ n
          low m n e = grind (arith, nat_tests)
      go false e = least_with x (or_right (is_in xs x) _ (same_itself x)) (λ w among. (let near = high known.number x.number e in let far = least.1 w among in omega arith)) (omega arith)
        where
          high : (m n : ℕ) → nat_le m n ≡ false → n ≤ m
          high m n e = grind (arith, nat_tests)

-- of the first i of some waits

pub least_next : (ws : List Wait) (i : ℕ) (d : Wait) (least : Option Wait) → i < length ws → IsLeastWait (take i ws) least → IsLeastWait (take (i + 1) ws) (lesser least (get_or ws i d))
least_next ws i d least within is = subst (λ l. IsLeastWait l (lesser least (get_or ws i d))) (sym (take_more ws i d within)) (least_more (take i ws) (get_or ws i d) least is)

pub least_all : (ws : List Wait) (i : ℕ) (least : Option Wait) → length ws ≤ i → IsLeastWait (take i ws) least → IsLeastWait ws least
least_all ws i least all is = subst (λ l. IsLeastWait l least) (take_all i ws all) is

-- Places without one of them.
use Rattle.std.proofs.lemmas.Bool.{or_from}
use Rattle.std.proofs.lemmas.List.Elements.{All-append, All-drop, All-take}
use Rattle.std.proofs.Common.{◌≡◌, refl, sym, ap, ◌∙◌, subst, ℕ, suc, ◌<◌, ◌||◌, ◌==◌, eqb-true, Bool, true, false, Some, cond, ◌+◌, List, [], ◌∷◌, ◌++◌, length, get_or, take, drop, remove, drop-cons, take-append-drop, if◌then◌else◌, arith}
use Rattle.std.specs.List.{AllByRecursion, IsDistinct, list_any, position, position_from}
use Rattle.std.proofs.lemmas.Iterator.Adapters.{position_from-zero}
use Rattle.std.specs.Prelude.{IfNone}
use Rattle.ipc_waits.specs.Finding.{is_among}
use Rattle.ipc_words.specs.Limits.{table_slots}
use Rattle.ipc_waits.specs.Candidates.{ArePlaces, FollowsPlace}
use Rattle.ipc_waits.proofs.Numbers.{eqb_sym}

absent_by : (p : ℕ) (xs : List ℕ) → AllByRecursion (λ k. (p == k) ≡ false) xs → is_among xs p ≡ false
absent_by p [] all = refl
absent_by p (x ∷ xs) all = or_from _ _ (eqb_sym x p ∙ all.0) (absent_by p xs all.1)

all_but : (P : ℕ → Type 0) (xs ys : List ℕ) (v : ℕ) → AllByRecursion P (xs ++ v ∷ ys) → AllByRecursion P (xs ++ ys) × P v
all_but P [] ys v all = (all.1, all.0)
all_but P (x ∷ xs) ys v all = (let rest = all_but P xs ys v all.1 in ((all.0, rest.0), rest.1))

once_but : (xs ys : List ℕ) (v : ℕ) → IsDistinct (λ a b. a == b) (xs ++ v ∷ ys) → IsDistinct (λ a b. a == b) (xs ++ ys)
unfolding IsDistinct
once_but [] ys v once = once.1
once_but (x ∷ xs) ys v once = ((all_but (λ k. (x == k) ≡ false) xs ys v once.0).0, once_but xs ys v once.1)

gone : (xs ys : List ℕ) (v : ℕ) → IsDistinct (λ a b. a == b) (xs ++ v ∷ ys) → is_among (xs ++ ys) v ≡ false
unfolding IsDistinct
gone [] ys v once = absent_by v ys once.0
gone (x ∷ xs) ys v once = or_from _ _ (all_but (λ k. (x == k) ≡ false) xs ys v once.0).1 (gone xs ys v once.1)

or_beside : (a b c : Bool) → (a || (b || c)) ≡ (b || (a || c))
or_beside a b c = grind arith

among_but : (xs ys : List ℕ) (v k : ℕ) → is_among (xs ++ v ∷ ys) k ≡ ((v == k) || is_among (xs ++ ys) k)
among_but [] ys v k = refl
among_but (x ∷ xs) ys v k = ap (λ b. (x == k) || b) (among_but xs ys v k) ∙ or_beside (x == k) (v == k) (is_among (xs ++ ys) k)

module _ (ks : List ℕ) (i v : ℕ) (within : i < length ks) (is : get_or ks i v ≡ v) where
  parts : take i ks ++ v ∷ drop (suc i) ks ≡ ks
  parts = ap (λ x. take i ks ++ x ∷ drop (suc i) ks) (sym is) ∙ ap (λ l. take i ks ++ l) (sym (drop-cons ks i v within)) ∙ take-append-drop i ks

  pub places_less : ArePlaces ks → ArePlaces (remove ks i)
  places_less are = record {
    once = once_but (take i ks) (drop (suc i) ks) v (subst (IsDistinct (λ a b. a == b)) (sym parts) are.once);
    within = All-append (λ k. k < table_slots) (take i ks) (drop (suc i) ks) (All-take (λ k. k < table_slots) i ks are.within) (All-drop (λ k. k < table_slots) (suc i) ks are.within);
  }

  pub removed : ArePlaces ks → FollowsPlace ks (remove ks i) v false
  removed are k = go (v == k) refl
    where
      no_more : is_among (remove ks i) v ≡ false
      no_more = gone (take i ks) (drop (suc i) ks) v (subst (IsDistinct (λ a b. a == b)) (sym parts) are.once)

      go : (b : Bool) → (v == k) ≡ b → is_among (remove ks i) k ≡ (if b then false else is_among ks k)
      go true same = ap (is_among (remove ks i)) (sym (eqb-true v k same)) ∙ no_more
      go false other = sym (ap (λ l. is_among l k) (sym parts) ∙ among_but (take i ks) (drop (suc i) ks) v k ∙ rw other refl)

pub nothing_removed : (ks : List ℕ) (v : ℕ) → is_among ks v ≡ false → FollowsPlace ks ks v false
nothing_removed ks v absent k = go (v == k) refl
  where
    go : (b : Bool) → (v == k) ≡ b → is_among ks k ≡ (if b then false else is_among ks k)
    go true same = ap (is_among ks) (sym (eqb-true v k same)) ∙ absent
    go false other = refl

pub added : (ks new : List ℕ) (v : ℕ) → ((k : ℕ) → is_among new k ≡ (is_among ks k || (v == k))) → FollowsPlace ks new v true
added ks new v with_it k = with_it k ∙ go (v == k) (is_among ks k)
  where
    go : (b c : Bool) → (c || b) ≡ (if b then true else c)
    go b c = grind arith

absent_from : (p : ℕ → Bool) (i : ℕ) (xs : List ℕ) → IfNone (position_from p i xs) (list_any p xs ≡ false)
absent_from p i [] = refl
absent_from p i (x ∷ xs) = go (p x) (absent_from p (i + 1) xs)
  where
    go : (b : Bool) → IfNone (position_from p (i + 1) xs) (list_any p xs ≡ false) → IfNone (cond b (Some i) (position_from p (i + 1) xs)) ((b || list_any p xs) ≡ false)
    go true h = tt
    go false h = h

pub absent_from_position : (p : ℕ → Bool) (xs : List ℕ) → IfNone (position p xs) (list_any p xs ≡ false)
absent_from_position p xs = subst (λ o. IfNone o (list_any p xs ≡ false)) (sym (position_from-zero p xs)) (absent_from p 0 xs)

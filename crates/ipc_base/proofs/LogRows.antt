-- Lists: what begins them, views that are changed or come, and entries that are some owner's.
use Rattle.std.proofs.Common.{◌≡◌, ◌≢◌, ℕ, zero, suc, ◌<◌, List, [], ◌∷◌, ◌++◌, length, set, Bool, true, false, refl, sym, ap, ◌∙◌, subst, ⊎_elim, arith, append_assoc, eqb, eq-eqb, eqb-true, ne_eqb, inl, inr}
use Rattle.std.specs.Prelude.{◌==◌, ◌||◌, ◌⊎◌, Contains, if◌then◌else◌}
use Rattle.std.proofs.lemmas.List.{append-nil}
use Rattle.std.proofs.lemmas.List.Elements.{filter-append, Contains-append_cases, Contains-append_left, Contains-append_right}
use Rattle.std.proofs.lemmas.Map.Keys.{IsDistinct-push}
use Rattle.std.proofs.lemmas.Bool.Decides.{nat_tests}
use Rattle.std.specs.Cmp.{IsEquivalence}
use Rattle.std.specs.List.{IsDistinct, list_any}
use mathlib.Core.List.{IsPrefix}
use mathlib.Core.Option.{some, some-ne-none, some-injective}
use lib.ListN.{get_elem?}
use Rattle.atomic_table.proofs.Lists.{at_set}
use Rattle.ipc_base.specs.LogRules.{AreOne, EndsLast, entries_of, numbers_of}

module _ {A : Type 0} where
  pub prefix_nothing : (xs : List A) → IsPrefix [] xs
  prefix_nothing xs = (xs, refl)

  pub prefix_on : (xs ys more : List A) → IsPrefix xs ys → IsPrefix xs (ys ++ more)
  prefix_on xs ys more p = (p.0 ++ more, sym (append_assoc xs p.0 more) ∙ ap (λ w. w ++ more) p.1)

  -- of two beginnings of one list one begins the other
  pub prefix_either : (xs ys log : List A) → IsPrefix xs log → IsPrefix ys log → AreOne xs ys
  prefix_either [] ys log p q = inl (ys, refl)
  prefix_either (x ∷ xs) [] log p q = inr (x ∷ xs, refl)
  prefix_either (x ∷ xs) (y ∷ ys) [] p q = absurd (cc (p.1))
  prefix_either (x ∷ xs) (y ∷ ys) (z ∷ zs) p q =
      let heads : x ≡ y = cc (p.1, q.1) in
      ⊎_elim
      (λ (r : IsPrefix xs ys). inl (r.0, cc (heads, r.1)))
      (λ (r : IsPrefix ys xs). inr (r.0, cc (heads, r.1)))
      (prefix_either xs ys zs (p.0, cc (p.1)) (q.0, cc (q.1)))

  -- each place but one is as before
  pub set_all : (F : ℕ → A → Type 0) (views : List A) (by : ℕ) (w : A)
      → ((j : ℕ) (u : A) → j ≢ by → get_elem? views j ≡ some u → F j u) → F by w
      → (j : ℕ) (u : A) → get_elem? (set views by w) j ≡ some u → F j u
  set_all F views by w others mine j u e =
      ⊎_elim
      (λ (x : (j ≡ by) × (w ≡ u)). subst (λ (y : ℕ × A). F y.0 y.1) (λ i. (sym x.0 i, x.1 i)) mine)
      (λ (x : (j ≢ by) × (get_elem? views j ≡ some u)). others j u x.0 x.1)
      (at_set views by j w u e)

  -- one came behind the others
  pub snoc_all : (F : ℕ → A → Type 0) (views : List A) (new : A)
      → ((j : ℕ) (u : A) → j < length views → get_elem? views j ≡ some u → F j u) → F (length views) new
      → (j : ℕ) (u : A) → get_elem? (views ++ new ∷ []) j ≡ some u → F j u
  snoc_all F [] new old it zero u e = subst (λ (y : A). F 0 y) (some-injective _ _ e) it
  snoc_all F [] new old it (suc j) u e = absurd (some-ne-none u (sym e))
  snoc_all F (x ∷ xs) new old it zero u e = old zero u (omega arith) e
  snoc_all F (x ∷ xs) new old it (suc j) u e =
      snoc_all (λ i y. F (suc i) y) xs new (λ i y lt h. old (suc i) y (omega arith) h) it j u e

  pub length_set : (views : List A) (by : ℕ) (w : A) → length (set views by w) ≡ length views
  length_set [] by w = refl
  length_set (x ∷ xs) zero w = refl
  length_set (x ∷ xs) (suc by) w = ap suc (length_set xs by w)

  pub is_below : (views : List A) (by : ℕ) (v : A) → get_elem? views by ≡ some v → by < length views
  is_below [] by v e = absurd (some-ne-none v (sym e))
  is_below (x ∷ xs) zero v e = omega arith
  is_below (x ∷ xs) (suc by) v e = omega (arith, is_below xs by v e)

module _ {E : Type 0} (is_of : E → ℕ → Bool) where
  pub entries_more : (number : ℕ) (log more : List E) → entries_of is_of number (log ++ more) ≡ entries_of is_of number log ++ entries_of is_of number more
  entries_more number log more = filter-append (λ e. is_of e number) log more

  -- one that is not the owner's
  pub entries_same : (number : ℕ) (log : List E) (e : E) → is_of e number ≡ false → entries_of is_of number (log ++ e ∷ []) ≡ entries_of is_of number log
  entries_same number log e is =
      entries_more number log (e ∷ [])
      ∙ (ap (λ (b : Bool). entries_of is_of number log ++ (if b then e ∷ [] else [])) is ∙ append-nil (entries_of is_of number log))

  -- one that is
  pub entries_one : (number : ℕ) (e : E) → is_of e number ≡ true → entries_of is_of number (e ∷ []) ≡ e ∷ []
  entries_one number e is = ap (λ (b : Bool). if b then e ∷ [] else []) is

module _ {E : Type 0} (begins : E → List ℕ) where
  pub numbers_more : (log more : List E) → numbers_of begins (log ++ more) ≡ numbers_of begins log ++ numbers_of begins more
  numbers_more [] more = refl
  numbers_more (x ∷ log) more =
      ap (λ w. begins x ++ w) (numbers_more log more) ∙ sym (append_assoc (begins x) (numbers_of begins log) (numbers_of begins more))

  pub still_there : (log more : List E) (number : ℕ) → Contains (numbers_of begins log) number → Contains (numbers_of begins (log ++ more)) number
  still_there log more number h =
      subst (λ l. Contains l number) (sym (numbers_more log more)) (Contains-append_left (numbers_of begins log) (numbers_of begins more) number h)

  -- an entry that says no number
  pub numbers_same : (log : List E) (e : E) → begins e ≡ [] → numbers_of begins (log ++ e ∷ []) ≡ numbers_of begins log
  numbers_same log e none =
      numbers_more log (e ∷ []) ∙ (ap (λ (ns : List ℕ). numbers_of begins log ++ (ns ++ [])) none ∙ append-nil (numbers_of begins log))

  -- one that says one
  pub numbers_one : (log : List E) (e : E) (number : ℕ) → begins e ≡ number ∷ [] → numbers_of begins (log ++ e ∷ []) ≡ numbers_of begins log ++ number ∷ []
  numbers_one log e number one = numbers_more log (e ∷ []) ∙ ap (λ (ns : List ℕ). numbers_of begins log ++ (ns ++ [])) one

  pub was_there : (log : List E) (e : E) (number : ℕ) → begins e ≡ [] → Contains (numbers_of begins (log ++ e ∷ [])) number → Contains (numbers_of begins log) number
  was_there log e number none there = subst (λ l. Contains l number) (numbers_same log e none) there

  pub there_or : (log : List E) (e : E) (number : ℕ) → Contains (numbers_of begins (log ++ e ∷ [])) number
      → Contains (numbers_of begins log) number ⊎ Contains (begins e) number
  there_or log e number there =
      subst (λ l. Contains (numbers_of begins log) number ⊎ Contains l number) (append-nil (begins e))
      (Contains-append_cases (numbers_of begins log) (numbers_of begins (e ∷ [])) number (subst (λ l. Contains l number) (numbers_more log (e ∷ [])) there))

pub not_in_none : (ns : List ℕ) (number : ℕ) → ns ≡ [] → Contains ns number → ⊥
not_in_none ns number none there = let c = subst (λ l. Contains l number) none there in absurd (omega (arith, c.1))

pub in_one : (ns : List ℕ) (own number : ℕ) → ns ≡ own ∷ [] → Contains ns number → number ≡ own
in_one ns own number one there = go (subst (λ l. Contains l number) one there)
  where
    go : Contains (own ∷ []) number → number ≡ own
    go (zero, lt, same) = sym same
    go (suc k, lt, same) = absurd (omega (arith, lt))

not_any : (number : ℕ) (ns : List ℕ) → (Contains ns number → ⊥) → list_any (λ (n : ℕ). number == n) ns ≡ false
not_any number [] none = refl
not_any number (n ∷ ns) none = go (number == n) refl (not_any number ns (λ c. none (suc c.0, omega (arith, c.1), c.2)))
  where
    go : (b : Bool) → (number == n) ≡ b → list_any (λ (m : ℕ). number == m) ns ≡ false → (number == n) || list_any (λ (m : ℕ). number == m) ns ≡ false
    go true is rest = absurd (none (0, omega arith, sym (eqb-true number n is)))
    go false is rest = ap (λ (b : Bool). b || list_any (λ (m : ℕ). number == m) ns) is ∙ rest

eqb_equivalence : IsEquivalence (λ (a b : ℕ). a == b)
eqb_equivalence = record { refl = λ x. eq-eqb x x refl; symm = λ x y. grind (arith, nat_tests); congr = λ x y z same. ap (λ w. w == z) (eqb-true x y same) }

-- one number more, which is new
pub once_on : (ns : List ℕ) (number : ℕ) → IsDistinct (λ (a b : ℕ). a == b) ns → (Contains ns number → ⊥) → IsDistinct (λ (a b : ℕ). a == b) (ns ++ number ∷ [])
once_on ns number once new = IsDistinct-push eqb_equivalence ns number once (not_any number ns new)

pub once_none : IsDistinct (λ (a b : ℕ). a == b) []
unfolding IsDistinct
once_none = tt

module _ {E : Type 0} (is_of : E → ℕ → Bool) (ends : E → List ℕ) where
  -- an entry more, which is that of nobody who has ended
  pub ends_last_on : (log : List E) (e : E) → EndsLast is_of ends log → ((number : ℕ) → Contains (numbers_of ends log) number → is_of e number ≡ false)
      → EndsLast is_of ends (log ++ e ∷ [])
  ends_last_on [] e h apart = (λ number there. refl, tt)
  ends_last_on (x ∷ xs) e h apart = (
    λ number there. entries_same is_of number xs e (apart number (Contains-append_left (ends x) (numbers_of ends xs) number there)) ∙ h.0 number there,
    ends_last_on xs e h.1 (λ number there. apart number (Contains-append_right (ends x) (numbers_of ends xs) number there)),
  )

  -- behind the entry with which an owner ends
  pub ends_last_at : (before : List E) (e : E) (rest : List E) (number : ℕ) → EndsLast is_of ends (before ++ e ∷ rest) → Contains (ends e) number
      → entries_of is_of number rest ≡ []
  ends_last_at [] e rest number h there = h.0 number there
  ends_last_at (x ∷ before) e rest number h there = ends_last_at before e rest number h.1 there

-- who has the pass of a number, where one number goes to another pass
abbrev pub given : (ℕ → ℕ) → ℕ → ℕ → ℕ → ℕ
given holder number by other = if eqb other number then by else holder other

pub given_same : (holder : ℕ → ℕ) (number by : ℕ) → given holder number by number ≡ by
given_same holder number by = ap (λ (b : Bool). if b then by else holder number) (eq-eqb number number refl)

pub given_other : (holder : ℕ → ℕ) (number by other : ℕ) → other ≢ number → given holder number by other ≡ holder other
given_other holder number by other apart = ap (λ (b : Bool). if b then by else holder other) (ne_eqb other number apart)

-- Walks over a list of entries, of which so many were seen.
use Rattle.std.proofs.lemmas.List.{take_all, take_more, take-append-drop}
use Rattle.std.proofs.lemmas.List.Sums.{sum_by-append, sum_by_push}
use Rattle.std.proofs.Common.{◌≡◌, refl, sym, ap, ◌∙◌, ℕ, zero, suc, ◌+◌, ◌<◌, ◌≤◌, Bool, true, false, List, [], ◌∷◌, ◌++◌, length, take, drop, get_or, Option, Some, None, sum_by, arith}
use Rattle.std.specs.Option.{option_or}
use Rattle.ipc_history.specs.Words.{before, first_some, last_some}
use Rattle.ipc_history.specs.declared.entry.Entry.{Entry}
use Rattle.ipc_laws.proofs.WordLemmas.{first_some_push, last_some_push}

-- one more
module _ {Y : Type 0} (f : Entry → Option Y) (H : List Entry) (i : ℕ) (e : Entry) (found one next : Option Y) (within : i < length H) (at : e ≡ get_or H i e) where
  more : take (i + 1) H ≡ take i H ++ e ∷ []
  more = take_more H i e within ∙ ap (λ x. take i H ++ x ∷ []) (sym at)

  pub first_more : found ≡ first_some f (take i H) → one ≡ f e → next ≡ option_or found one → next ≡ first_some f (take (i + 1) H)
  first_more was is now = now ∙ (rw (was, is) (sym (ap (first_some f) more ∙ first_some_push f (take i H) e)))

  pub last_more : found ≡ last_some f (take i H) → one ≡ f e → next ≡ option_or one found → next ≡ last_some f (take (i + 1) H)
  last_more was is now = now ∙ (rw (was, is) (sym (ap (last_some f) more ∙ last_some_push f (take i H) e)))

-- all
pub first_whole : {Y : Type 0} (f : Entry → Option Y) (H : List Entry) (i : ℕ) (found : Option Y) → length H ≤ i → found ≡ first_some f (take i H) → found ≡ first_some f H
first_whole f H i found all is = is ∙ ap (first_some f) (take_all i H all)

pub last_whole : {Y : Type 0} (f : Entry → Option Y) (H : List Entry) (i : ℕ) (found : Option Y) → length H ≤ i → found ≡ last_some f (take i H) → found ≡ last_some f H
last_whole f H i found all is = is ∙ ap (last_some f) (take_all i H all)

-- a sum
module _ (f : Entry → ℕ) (H : List Entry) (i : ℕ) (e : Entry) (within : i < length H) (at : e ≡ get_or H i e) where
  sum_is : sum_by f (take (i + 1) H) ≡ sum_by f (take i H) + f e
  sum_is = ap (sum_by f) (take_more H i e within ∙ ap (λ x. take i H ++ x ∷ []) (sym at)) ∙ sum_by_push f (take i H) e

  pub sum_more : (moved one : ℕ) → moved ≡ sum_by f (take i H) → one ≡ f e → moved + one ≡ sum_by f (take (i + 1) H)
  sum_more moved one was is = rw (was, is) (sym sum_is)

  pub sum_fits : (moved one most : ℕ) → moved ≡ sum_by f (take i H) → one ≡ f e → sum_by f H < most → moved + one < most
  sum_fits moved one most was is less =
      let parts : sum_by f H ≡ sum_by f (take (i + 1) H) + sum_by f (drop (i + 1) H) = ap (sum_by f) (sym (take-append-drop (i + 1) H)) ∙ sum_by-append f (take (i + 1) H) (drop (i + 1) H) in
      let here = sum_more moved one was is in
      omega (arith, parts, here, less)

-- what stands before an entry that passes a test, where none before it passes
pub before_at : (test : Entry → Bool) (H : List Entry) (i : ℕ) (e : Entry) → i < length H → e ≡ get_or H i e → ((k : ℕ) → k < i → (d : Entry) → test (get_or H k d) ≡ false) → test e ≡ true → take i H ≡ before test H
before_at test [] i e within at none is = absurd (omega arith)
before_at test (x ∷ H) zero e within at none is = let here : test x ≡ true = ap test (sym at) ∙ is in rw here refl
before_at test (x ∷ H) (suc i) e within at none is =
    let first : test x ≡ false = none 0 (omega arith) e in
    rw first (ap (λ l. x ∷ l) (before_at test H i e (omega (arith, within)) at (λ k h d. none (suc k) (omega (arith, h)) d) is))

pub before_none : (test : Entry → Bool) (H : List Entry) → ((k : ℕ) → k < length H → (d : Entry) → test (get_or H k d) ≡ false) → H ≡ before test H
before_none test [] none = refl
before_none test (x ∷ H) none =
    let first : test x ≡ false = none 0 (omega arith) x in
    rw first (ap (λ l. x ∷ l) (before_none test H (λ k h d. none (suc k) (omega (arith, h)) d)))

-- the first that is given, where nothing was before
pub first_there : {Y : Type 0} (f : Entry → Option Y) (H : List Entry) (i : ℕ) (e : Entry) (y : Y) → i < length H → e ≡ get_or H i e → ((k : ℕ) → k < i → (d : Entry) → f (get_or H k d) ≡ None) → f e ≡ Some y → Some y ≡ first_some f H
first_there f [] i e y within at none is = absurd (omega arith)
first_there f (x ∷ H) zero e y within at none is = let here : f x ≡ Some y = ap f (sym at) ∙ is in rw here refl
first_there f (x ∷ H) (suc i) e y within at none is =
    let first : f x ≡ None = none 0 (omega arith) e in
    rw first (first_there f H i e y (omega (arith, within)) at (λ k h d. none (suc k) (omega (arith, h)) d) is)

pub first_none : {Y : Type 0} (f : Entry → Option Y) (H : List Entry) → ((k : ℕ) → k < length H → (d : Entry) → f (get_or H k d) ≡ None) → None ≡ first_some f H
first_none f [] none = refl
first_none f (x ∷ H) none =
    let first : f x ≡ None = none 0 (omega arith) x in
    rw first (first_none f H (λ k h d. none (suc k) (omega (arith, h)) d))

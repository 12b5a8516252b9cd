-- Where in a list an entry stands.
use Rattle.std.proofs.lemmas.Bool.{false≢true, or_cases, or_left, or_right}
use Rattle.std.proofs.lemmas.Option.{none-some}
use Rattle.std.proofs.lemmas.List.Folds.{list_any-append, find-append}
use Rattle.std.proofs.Common.{◌≡◌, refl, sym, ap, ◌∙◌, Bool, true, false, cond, List, [], ◌∷◌, ◌++◌, append_assoc, Option, Some, None, inl, inr, find}
use Rattle.std.specs.List.{list_any}
use Rattle.std.specs.Option.{option_or}
use Rattle.ipc_history.specs.Words.{first_some}
use Rattle.ipc_laws.proofs.WordLemmas.{first_some_append}

-- x stands in the list between these two
pub record Place {X : Type 0} (xs : List X) (x : X) : Type 0 where
  pub front : List X
  pub rest : List X
  pub whole : xs ≡ front ++ x ∷ rest

behind : {X : Type 0} (y x : X) (xs : List X) → Place xs x → Place (y ∷ xs) x
behind y x xs p = record { front = y ∷ p.front; rest = p.rest; whole = ap (λ l. y ∷ l) p.whole }

pub any_place : {X : Type 0} (p : X → Bool) (xs : List X) → list_any p xs ≡ true → (x : X) × Place xs x × (p x ≡ true)
any_place p [] h = absurd (false≢true h)
any_place p (y ∷ ys) h = elim (or_cases (p y) (list_any p ys) h) [ inl a ↦ (y, record { front = []; rest = ys; whole = refl }, a) | inr b ↦ (let t = any_place p ys b in (t.0, behind y t.0 ys t.1, t.2)) ]

pub any_at : {X : Type 0} (p : X → Bool) (xs : List X) (x : X) → Place xs x → p x ≡ true → list_any p xs ≡ true
any_at p xs x at h = rw (at.whole, list_any-append p at.front (x ∷ at.rest)) (or_right (list_any p at.front) _ (or_left (p x) (list_any p at.rest) h))

pub any_front : {X : Type 0} (p : X → Bool) (xs : List X) (x : X) (at : Place xs x) → list_any p at.front ≡ true → list_any p xs ≡ true
any_front p xs x at h = rw (at.whole, list_any-append p at.front (x ∷ at.rest)) (or_left (list_any p at.front) _ h)

pub first_place : {X Y : Type 0} (f : X → Option Y) (xs : List X) (y : Y) → first_some f xs ≡ Some y → (x : X) × Place xs x × (f x ≡ Some y)
first_place f [] y h = absurd (none-some y h)
first_place {X} f (x ∷ xs) y h = go (f x) refl h (first_place f xs y)
  where
    go : (o : Option _) → f x ≡ o → option_or o (first_some f xs) ≡ Some y → (first_some f xs ≡ Some y → (z : X) × Place xs z × (f z ≡ Some y)) → (z : X) × Place (x ∷ xs) z × (f z ≡ Some y)
    go None e g later = let t = later g in (t.0, behind x t.0 xs t.1, t.2)
    go (Some z) e g later = (x, record { front = []; rest = xs; whole = refl }, e ∙ g)

pub first_at : {X Y : Type 0} (f : X → Option Y) (xs : List X) (x : X) (y : Y) (at : Place xs x) → first_some f at.front ≡ None → f x ≡ Some y → first_some f xs ≡ Some y
first_at f xs x y at h g = rw (at.whole, first_some_append f at.front (x ∷ at.rest), h, g) refl

second_none : {X : Type 0} (a b : Option X) → option_or a b ≡ None → b ≡ None
second_none None b h = h
second_none (Some x) b h = cc

none_first : {X : Type 0} (a b : Option X) → option_or a b ≡ None → a ≡ None
none_first None b h = refl
none_first (Some x) b h = h

pub first_none : {X Y : Type 0} (f : X → Option Y) (xs : List X) (x : X) (at : Place xs x) → first_some f xs ≡ None → f x ≡ None
first_none f xs x at h = none_first (f x) _ (second_none (first_some f at.front) _ (sym (first_some_append f at.front (x ∷ at.rest)) ∙ (ap (first_some f) (sym at.whole) ∙ h)))

-- `find` finds nothing where none passes
fails_first : {X : Type 0} (t : Bool) (x : X) (o : Option X) → cond t (Some x) o ≡ None → t ≡ false
fails_first true x o h = cc
fails_first false x o h = refl

pub find_none : {X : Type 0} (p : X → Bool) (xs : List X) (x : X) → find p xs ≡ None → Place xs x → p x ≡ false
find_none p xs x h at = fails_first (p x) x (find p at.rest) (second_none (find p at.front) _ (sym (find-append p at.front (x ∷ at.rest)) ∙ (ap (find p) (sym at.whole) ∙ h)))

-- what stands in the second part of a list, in the whole one
abbrev pub place_behind : {X : Type 0} (xs ys : List X) (x : X) → Place ys x → Place (xs ++ ys) x
place_behind xs ys x at = record { front = xs ++ at.front; rest = at.rest; whole = ap (λ l. xs ++ l) at.whole ∙ sym (append_assoc xs at.front (x ∷ at.rest)) }

-- what stands behind x, in the whole list
abbrev pub place_after : {X : Type 0} (xs : List X) (x y : X) (at : Place xs x) → Place at.rest y → Place xs y
place_after xs x y at later = record { front = (at.front ++ x ∷ []) ++ later.front; rest = later.rest; whole = at.whole ∙ (ap (λ l. at.front ++ x ∷ l) later.whole ∙ (sym (append_assoc at.front (x ∷ []) (later.front ++ y ∷ later.rest)) ∙ sym (append_assoc (at.front ++ x ∷ []) later.front (y ∷ later.rest)))) }

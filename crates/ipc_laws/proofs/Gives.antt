-- `Gives Q o`: what o gives, if anything, has the property Q. One lemma for each word that
-- definitions of outputs use.
use Rattle.std.proofs.Common.{◌≡◌, refl, subst, Bool, true, false, if◌then◌else◌, List, [], ◌∷◌, Option, Some, None, option_map, option_and_then, find}
use Rattle.std.specs.Option.{option_or, option_map_or}
use Rattle.ipc_history.specs.Words.{first_some}

pub data Gives {X : Type 0} (Q : X → Type 0) : Option X → Type 0 where
  Nothing : Gives Q None
  This : {x : X} → Q x → Gives Q (Some x)

pub Gives-at : {X : Type 0} {Q : X → Type 0} (o : Option X) (x : X) → Gives Q o → o ≡ Some x → Q x
Gives-at {Q} o x g e = given (subst (λ o. Gives Q o) e g)
  where
    given : Gives Q (Some x) → Q x
    given (This q) = q

pub Gives-or : {X : Type 0} {Q : X → Type 0} {a b : Option X} → Gives Q a → Gives Q b → Gives Q (option_or a b)
Gives-or Nothing h = h
Gives-or (This q) h = This q

pub Gives-if : {X : Type 0} {Q : X → Type 0} (b : Bool) (x y : Option X) → (b ≡ true → Gives Q x) → (b ≡ false → Gives Q y) → Gives Q (if b then x else y)
Gives-if true x y f g = f refl
Gives-if false x y f g = g refl

pub Gives-and_then : {X Y : Type 0} {Q : Y → Type 0} (f : X → Option Y) (o : Option X) → ((x : X) → o ≡ Some x → Gives Q (f x)) → Gives Q (option_and_then f o)
Gives-and_then f None h = Nothing
Gives-and_then f (Some x) h = h x refl

pub Gives-map : {X Y : Type 0} {Q : Y → Type 0} (f : X → Y) (o : Option X) → ((x : X) → o ≡ Some x → Q (f x)) → Gives Q (option_map f o)
Gives-map f None h = Nothing
Gives-map f (Some x) h = This (h x refl)

pub Gives-first : {X Y : Type 0} {Q : Y → Type 0} (f : X → Option Y) (xs : List X) → ((x : X) → Gives Q (f x)) → Gives Q (first_some f xs)
Gives-first f [] h = Nothing
Gives-first f (x ∷ xs) h = Gives-or (h x) (Gives-first f xs h)

pub Gives-find : {X : Type 0} (p : X → Bool) (xs : List X) → Gives (λ x. p x ≡ true) (find p xs)
Gives-find p [] = Nothing
Gives-find p (x ∷ xs) = Gives-if (p x) (Some x) (find p xs) (λ e. This e) (λ e. Gives-find p xs)

-- a value that an `option_map_or` chooses
pub map_or_cases : {X Y : Type 0} (Q : Y → Type 0) (f : X → Y) (o : Option X) (d : Y) → (o ≡ None → Q d) → ((x : X) → o ≡ Some x → Q (f x)) → Q (option_map_or f o d)
map_or_cases Q f None d g h = g refl
map_or_cases Q f (Some x) d g h = h x refl

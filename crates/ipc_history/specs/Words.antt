-- Words on lists that the library lacks.
use Rattle.std.specs.Prelude.{List, [], ◌∷◌, Option, Some, None, Bool, ℕ, ◌==◌, if◌then◌else◌}
use Rattle.std.specs.List.{list_any}
use Rattle.std.specs.Option.{option_or}

-- what f gives for the first element for which it gives something
abbrev pub first_some : {X Y : Type 0} → (X → Option Y) → List X → Option Y
first_some f [] = None
first_some f (x ∷ xs) = option_or (f x) (first_some f xs)

-- and for the last one
abbrev pub last_some : {X Y : Type 0} → (X → Option Y) → List X → Option Y
last_some f [] = None
last_some f (x ∷ xs) = option_or (last_some f xs) (f x)

-- the last element
abbrev pub last : {X : Type 0} → List X → Option X
last xs = last_some Some xs

-- what stands before the first element that passes the test; all where none does
abbrev pub before : {X : Type 0} → (X → Bool) → List X → List X
before test [] = []
before test (x ∷ xs) = (if test x then [] else x ∷ before test xs)

-- a number is one of these
abbrev pub is_among : ℕ → List ℕ → Bool
is_among n ns = list_any (λ k. k == n) ns

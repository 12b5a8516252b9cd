-- The numbers of connections: none is taken twice.
use Rattle.std.specs.Prelude.{ℕ, ◌<◌, ◌==◌, ◌||◌, List, [], ◌∷◌, Bool, false, ⊤}

-- all these numbers are below this one
abbrev pub AreBelow : ℕ → List ℕ → Type 0
AreBelow next [] = ⊤
AreBelow next (number ∷ taken) = (number < next) × AreBelow next taken

-- a number was taken
abbrev pub is_taken : ℕ → List ℕ → Bool
is_taken number [] = false
is_taken number (other ∷ taken) = (other == number) || is_taken number taken

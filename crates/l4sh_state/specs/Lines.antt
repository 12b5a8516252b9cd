-- What is told in words is a line.
use Rattle.std.specs.Prelude.{◌≡◌, ℕ, List, [], ◌∷◌, ◌++◌}

-- words and a newline
abbrev pub IsLine : List ℕ → Type 0
IsLine text = (words : List ℕ) × (text ≡ words ++ 10 ∷ [])

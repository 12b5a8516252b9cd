-- Where a line ends.
use Rattle.std.specs.Prelude.{◌≡◌, ◌≢◌, ℕ, ◌+◌, ◌<◌, List, [], ◌∷◌, ◌++◌, Bool, true, false, length, take}
use Rattle.std.specs.List.{All}

-- bytes of one line
abbrev pub IsOneLine : List ℕ → Type 0
IsOneLine bytes = All (λ byte. byte ≢ 10) bytes

-- so many bytes of a piece stand before its first newline, or before its end where it has none
abbrev pub IsCut : List ℕ → ℕ → Bool → Type 0
IsCut piece end false = (end ≡ length piece) × IsOneLine piece
IsCut piece end true = (end < length piece) × IsOneLine (take end piece) × (take (end + 1) piece ≡ take end piece ++ 10 ∷ [])

-- Our choice (docs/FORMATS.md): the lines of a script.
use Rattle.std.specs.Prelude.{ℕ, List, [], ◌∷◌, if◌then◌else◌, ◌==◌}

-- a byte before the first line
abbrev pub before_first : ℕ → List (List ℕ) → List (List ℕ)
before_first byte [] = (byte ∷ []) ∷ []
before_first byte (line ∷ lines) = (byte ∷ line) ∷ lines

-- the lines of a text, cut at its newlines; the last one may lack its newline
abbrev pub lines_of : List ℕ → List (List ℕ)
lines_of [] = []
lines_of (byte ∷ bytes) =
    (if byte == 10 then [] ∷ lines_of bytes else before_first byte (lines_of bytes))

-- What is read of a script, where a reader tells its bytes.
use Rattle.std.specs.Prelude.{◌≡◌, ℕ, ◌<◌, ◌≤◌, [], ◌∷◌, ◌++◌}
use Rattle.std.specs.Prelude.{List, Option, length, take, IfSome}
use Rattle.std.specs.Option.{IsSomeAnd}
use Rattle.ipc_base.specs.Lines.{IsOneLine}
use Rattle.std.specs.Io.KnownBytes.{Consumes, IsAtEnd}
use Rattle.ipc_words.specs.Limits.{max_line_bytes}
use Rattle.ipc_shell.specs.ScriptLines.{lines_of}
use Rattle.ipc_shell.specs.declared.lines.NextLine.{NextLine}
use Rattle.ipc_shell.specs.declared.lines.NextLine.TheVariants as next
use Rattle.ipc_shell.specs.declared.lines.Piece.{Piece}
use Rattle.ipc_shell.specs.declared.lines.Piece.TheVariants as piece

-- the first line is longer than a line may be
abbrev pub BeginsTooLong : List (List ℕ) → Type 0
BeginsTooLong lines =
    (first : List ℕ) × ((others : List (List ℕ)) × (lines ≡ first ∷ others)
    × (max_line_bytes < length first))

-- what was read next, of the bytes that were there and those that are left: the first line, or that
-- it is too long, or that there is none
abbrev pub ReadsLine : Option (List ℕ) → Option (List ℕ) → List ℕ → NextLine → Type 0
ReadsLine old new line next.Line =
    IfSome old (λ bytes. IsSomeAnd new
    (λ rest. (lines_of bytes ≡ line ∷ lines_of rest) × (length line ≤ max_line_bytes)))
ReadsLine old new line next.TooLong = IfSome old (λ bytes. BeginsTooLong (lines_of bytes))
ReadsLine old new line next.End = IfSome old (λ bytes. lines_of bytes ≡ [])
ReadsLine old new line next.Failed = Unit {0}
ReadsLine old new line next.NoMemory = Unit {0}

-- a line that was short enough still is
abbrev pub StaysShort : List ℕ → List ℕ → Type 0
StaysShort before line = length before ≤ max_line_bytes → length line ≤ max_line_bytes

-- what a read adds to a line
abbrev pub ReadsPiece : Option (List ℕ) → Option (List ℕ) → List ℕ → List ℕ → Piece → Type 0
ReadsPiece old new before line piece.Part =
    (part : List ℕ) × (line ≡ before ++ part) × IsOneLine part × Consumes old new part
    × StaysShort before line
ReadsPiece old new before line piece.LineEnd =
    (part : List ℕ) × (line ≡ before ++ part) × IsOneLine part × Consumes old new (part ++ 10 ∷ [])
    × StaysShort before line
ReadsPiece old new before line piece.TooLong =
    (part : List ℕ) × IsOneLine part × (max_line_bytes < length (before ++ part))
    × IfSome old (λ bytes. (rest : List ℕ) × (bytes ≡ part ++ rest))
ReadsPiece old new before line piece.InputEnd = (line ≡ before) × Consumes old new [] × IsAtEnd old
ReadsPiece old new before line piece.Failed = Unit {0}
ReadsPiece old new before line piece.NoMemory = Unit {0}

-- what a chunk, of which so many bytes are taken, adds to a line
abbrev pub Adds : List ℕ → List ℕ → List ℕ → ℕ → Piece → Type 0
Adds before line chunk taken piece.Part =
    (line ≡ before ++ take taken chunk) × IsOneLine (take taken chunk) × StaysShort before line
Adds before line chunk taken piece.LineEnd =
    (part : List ℕ) × (take taken chunk ≡ part ++ 10 ∷ []) × (line ≡ before ++ part)
    × IsOneLine part × StaysShort before line
Adds before line chunk taken piece.TooLong =
    IsOneLine (take taken chunk) × (max_line_bytes < length (before ++ take taken chunk))
Adds before line chunk taken piece.InputEnd = (line ≡ before) × (taken ≡ 0) × (length chunk ≡ 0)
Adds before line chunk taken piece.Failed = Unit {0}
Adds before line chunk taken piece.NoMemory = Unit {0}

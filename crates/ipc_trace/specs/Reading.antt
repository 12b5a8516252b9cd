-- What reading a line of a trace, piece by piece, takes from a port.
use Rattle.std.specs.Prelude.{◌≡◌, ℕ, ◌+◌, List, [], ◌∷◌, ◌++◌, Option, Some, None, length, take}
use Rattle.std.specs.Io.KnownBytes.{Consumes, IsAtEnd}
use Rattle.ipc_words.specs.Limits.{max_line_bytes}
use Rattle.ipc_base.specs.Lines.{IsOneLine}
use Rattle.ipc_trace.specs.Traces.{ended}
use Rattle.ipc_trace.specs.declared.lines.LineEnd.{LineEnd}
use Rattle.ipc_trace.specs.declared.lines.LineEnd.TheVariants.{Newline, Input, Failed, NoMemory}

-- what is kept of a line: one byte more than a line may have shows that it is too long
abbrev pub kept : List ℕ → List ℕ
kept text = take (max_line_bytes + 1) text

-- what a read adds to a line
abbrev pub TakesPiece : Option (List ℕ) → Option (List ℕ) → List ℕ → List ℕ → Option LineEnd → Type 0
TakesPiece old new before line None = (part : List ℕ) × (line ≡ kept (before ++ part)) × IsOneLine part
    × Consumes old new part
TakesPiece old new before line (Some Newline) = (part : List ℕ) × (line ≡ kept (before ++ part)) × IsOneLine part
    × Consumes old new (ended part)
TakesPiece old new before line (Some Input) = (line ≡ before) × Consumes old new [] × IsAtEnd new
TakesPiece old new before line (Some Failed) = (line ≡ before) × Consumes old new []
TakesPiece old new before line (Some NoMemory) = Unit {0}

-- what a chunk, of which so many bytes are taken, adds to a line
abbrev pub Adds : List ℕ → List ℕ → List ℕ → ℕ → Option LineEnd → Type 0
Adds before line chunk taken None = (line ≡ kept (before ++ take taken chunk)) × IsOneLine (take taken chunk)
Adds before line chunk taken (Some Newline) = (part : List ℕ) × (take taken chunk ≡ ended part)
    × (line ≡ kept (before ++ part)) × IsOneLine part
Adds before line chunk taken (Some Input) = (line ≡ before) × (taken ≡ 0) × (length chunk ≡ 0)
Adds before line chunk taken (Some Failed) = ⊥
Adds before line chunk taken (Some NoMemory) = Unit {0}

-- the bytes of a line that were taken, and what is kept of them
abbrev pub TakesLine : Option (List ℕ) → Option (List ℕ) → List ℕ → LineEnd → Type 0
TakesLine old new line Newline = (text : List ℕ) × (line ≡ kept text) × IsOneLine text × Consumes old new (ended text)
TakesLine old new line Input = (text : List ℕ) × (line ≡ kept text) × IsOneLine text × Consumes old new text × IsAtEnd new
TakesLine old new line Failed = (text : List ℕ) × IsOneLine text × Consumes old new text
TakesLine old new line NoMemory = Unit {0}

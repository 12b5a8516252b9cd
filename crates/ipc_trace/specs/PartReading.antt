-- How a part is read, line by line and whole.
use Rattle.std.specs.Prelude.{◌≡◌, ◌≢◌, ℕ, ◌+◌, ◌-◌, ◌^◌, ◌<◌, ◌≤◌, List, [], ◌∷◌, ◌++◌, Bool, true, false, Option, Some, None, IfSome, Result, Ok, Err, IsTrue, length, min}
use Rattle.std.specs.Io.KnownBytes.{Consumes, IsAtEnd}
use mathlib.Core.List.{IsPrefix}
use Rattle.ipc_words.specs.Limits.{max_line_bytes, table_slots}
use Rattle.ipc_lines.specs.declared.reading.LineFault.{LineFault}
use Rattle.ipc_lines.specs.declared.reading.LineFault.TheVariants as fault
use Rattle.ipc_base.specs.Lines.{IsOneLine}
use Rattle.ipc_trace.specs.Reading.{kept}
use Rattle.ipc_trace.specs.Traces.{ended}
use Rattle.ipc_trace.specs.Lines.{IsReadableLine, line_text, may_stand, number_word}
use Rattle.ipc_trace.specs.Parts.{IsPart, PartParts, lines_of, lines_text, part_text}
use Rattle.ipc_trace.specs.Steps.{Follow, PartSoFar, after, after_all, may_follow, nothing_read, part_in}
use Rattle.ipc_trace.specs.declared.part_fault.PartFault.{PartFault}
use Rattle.ipc_trace.specs.declared.part_fault.PartFault.TheVariants as part_fault
use Rattle.ipc_trace.specs.declared.line.PartLine.{PartLine}
use Rattle.ipc_trace.specs.declared.line.Stage.{Stage}
use Rattle.ipc_trace.specs.declared.line.Stage.TheVariants as stage
use Rattle.ipc_trace.specs.declared.part_reading.LinesEnd.{LinesEnd}
use Rattle.ipc_trace.specs.declared.part_reading.LinesEnd.TheVariants as lines_end

-- a text spells a line that may stand where the part has come so far
abbrev pub Spells : Stage → List ℕ → PartLine → Type 0
Spells at text read = IsTrue (may_stand at read) × (text ≡ line_text read)

-- a text spells the line of a thread number
abbrev pub SpellsNumber : List ℕ → PartLine → Type 0
SpellsNumber text read = Spells stage.Numbers text read × ((rest : List ℕ) × (text ≡ number_word ++ rest))

-- what was read of a line, or that it is bad
abbrev pub told_of : Option PartLine → Result PartLine LineFault
told_of None = Err fault.Bad
told_of (Some read) = Ok read

-- a text spells no line that may follow
abbrev pub IsBadBehind : PartSoFar → List ℕ → Type 0
IsBadBehind so_far text =
    (read : PartLine) → IsReadableLine read → IsTrue (may_follow so_far read) → text ≢ line_text read

-- no other line that may follow has the same text
abbrev pub IsOnly : PartSoFar → PartLine → Type 0
IsOnly so_far read =
    (other : PartLine) → IsReadableLine other → IsTrue (may_follow so_far other) → line_text read ≡ line_text other → read ≡ other

-- so it is of each of these lines
abbrev pub Only : PartSoFar → List PartLine → Type 0
Only so_far [] = Unit {0}
Only so_far (read ∷ lines) = IsOnly so_far read × Only (after so_far read) lines

-- what a line adds to a part, of which no more is kept than shows that it is too long
abbrev pub ReadsLine : PartSoFar → PartSoFar → List ℕ → Result (Unit {0}) LineFault → Type 0
ReadsLine old new text (Ok done) =
    (read : PartLine) × IsTrue (may_follow old read) × (text ≡ line_text read) × (length text ≤ max_line_bytes) × (new ≡ after old read) × IsOnly old read
ReadsLine old new text (Err fault.Bad) = (whole : List ℕ) → text ≡ kept whole → IsBadBehind old whole
ReadsLine old new text (Err fault.NoMemory) = Unit {0}

-- what follows one another up to the last section is exactly the lines of the part that it says
abbrev pub LinesAreOfTheirPart : Type 0
LinesAreOfTheirPart =
    (lines : List PartLine) → Follow nothing_read lines → (after_all nothing_read lines).stage ≡ stage.Since
    → lines ≡ lines_of (part_in (after_all nothing_read lines))

-- what is written of a part can be read, and says that part
pub record IsReadBack (part : PartParts) : Type 0 where
  pub follow : Follow nothing_read (lines_of part)
  pub ends : (after_all nothing_read (lines_of part)).stage ≡ stage.Since
  pub says : part_in (after_all nothing_read (lines_of part)) ≡ part

abbrev pub PartsAreReadBack : Type 0
PartsAreReadBack = (part : PartParts) → IsPart part → IsReadBack part

-- the lines of which this was read, and behind them the end of the bytes, or a line that lacks its
-- newline
pub record HasLines (old new : Option (List ℕ)) (so_far : PartSoFar) (is_torn : Bool) : Type 0 where
  pub lines : List PartLine
  pub follow : Follow nothing_read lines
  pub only : Only nothing_read lines
  pub says : so_far ≡ after_all nothing_read lines
  pub torn : List ℕ
  pub one : IsOneLine torn
  pub is_there : is_torn ≡ true → 0 < length torn
  pub is_none : is_torn ≡ false → torn ≡ []
  pub taken : Consumes old new (lines_text lines ++ torn)
  pub at_end : IsAtEnd new

-- the number of the line behind so many, as far as a number of 64 bits tells it
abbrev pub number_behind : ℕ → ℕ
number_behind count = min (count + 1) (2 ^ 64 - 1)

-- lines that follow one another, and behind them one that may not
pub record HasBadLine (old : Option (List ℕ)) (number : ℕ) : Type 0 where
  pub lines : List PartLine
  pub follow : Follow nothing_read lines
  pub only : Only nothing_read lines
  pub bad : List ℕ
  pub one : IsOneLine bad
  pub is_bad : IsBadBehind (after_all nothing_read lines) bad
  pub number_is : number ≡ number_behind (length lines)
  pub begins : IfSome old (IsPrefix (lines_text lines ++ ended bad))

-- how the lines end at one that is not read
abbrev pub ended_at : LineFault → ℕ → LinesEnd
ended_at fault.Bad number = lines_end.BadLine number
ended_at fault.NoMemory number = lines_end.NoMemory

-- how the lines end
abbrev pub EndsSo : Option (List ℕ) → Option (List ℕ) → PartSoFar → LinesEnd → Type 0
EndsSo old new so_far lines_end.Whole = HasLines old new so_far false
EndsSo old new so_far lines_end.Torn = HasLines old new so_far true
EndsSo old new so_far (lines_end.BadLine number) = HasBadLine old number
EndsSo old new so_far lines_end.NoMemory = Unit {0}
EndsSo old new so_far lines_end.DeviceFailed = Unit {0}

-- the bytes are the text of this part, which has each thread number that there is, and behind it
-- their end, or a line that lacks its newline
pub record HasPart (old new : Option (List ℕ)) (part : PartParts) (is_torn : Bool) : Type 0 where
  pub all_versions : length part.base.versions ≡ table_slots
  pub all_dropped : length part.base.dropped ≡ table_slots
  pub torn : List ℕ
  pub one : IsOneLine torn
  pub is_there : is_torn ≡ true → 0 < length torn
  pub is_none : is_torn ≡ false → torn ≡ []
  pub taken : Consumes old new (part_text part ++ torn)
  pub at_end : IsAtEnd new

-- the bytes end before the line behind which the entries stand that came since
pub record IsUnfinished (old new : Option (List ℕ)) : Type 0 where
  pub lines : List PartLine
  pub follow : Follow nothing_read lines
  pub unfinished : (after_all nothing_read lines).stage ≢ stage.Since
  pub torn : List ℕ
  pub one : IsOneLine torn
  pub taken : Consumes old new (lines_text lines ++ torn)
  pub at_end : IsAtEnd new

-- why no part was read
abbrev pub FailsSo : Option (List ℕ) → Option (List ℕ) → PartFault → Type 0
FailsSo old new (part_fault.BadLine number) = HasBadLine old number
FailsSo old new part_fault.Unfinished = IsUnfinished old new
FailsSo old new part_fault.NoMemory = Unit {0}
FailsSo old new part_fault.DeviceFailed = Unit {0}

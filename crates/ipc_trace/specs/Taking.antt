-- What a line of a trace, of which no more is kept than shows that it is too long, adds to the
-- entries.
use Rattle.std.specs.Prelude.{◌≡◌, ◌≢◌, ℕ, ◌+◌, ◌<◌, ◌≤◌, ◌⊎◌, List, [], ◌∷◌, ◌++◌, Option, Some, None, Result, Ok, Err, IsTrue, false, length}
use Rattle.ipc_words.specs.Limits.{max_line_bytes}
use Rattle.ipc_history.specs.declared.entry.Entry.{Entry}
use Rattle.ipc_lines.specs.Lines.{entry_text}
use Rattle.ipc_trace.specs.Reading.{kept}
use Rattle.ipc_trace.specs.Traces.{IsBadLine}
use Rattle.ipc_trace.specs.Versions.{header_lines, may_hold, tells_version, version_line, version_so_far}
use Rattle.ipc_trace.specs.declared.fault.TraceEnd.{TraceEnd}
use Rattle.ipc_trace.specs.declared.fault.TraceEnd.TheVariants.{Whole, DeviceFailed, Torn, BadLine, UnknownVersion, NoMemory}
use Rattle.ipc_trace.specs.declared.fault.LineFault.{LineFault}
use Rattle.ipc_trace.specs.declared.fault.LineFault.TheVariants as fault
use Rattle.ipc_trace.specs.declared.version.TraceVersion.{TraceVersion}
use Rattle.ipc_trace.specs.declared.version.TraceVersion.TheVariants.{One, Two}

-- each line of which this is kept is bad in a trace of this version
abbrev pub KeepsBadLine : TraceVersion → List ℕ → Type 0
KeepsBadLine version line = (text : List ℕ) → line ≡ kept text → IsBadLine version text

-- a line spells an entry that a trace of this version may have, or is bad
abbrev pub ReadsEntry : TraceVersion → List ℕ → Result Entry LineFault → Type 0
ReadsEntry version line (Ok entry) = (line ≡ entry_text entry) × IsTrue (may_hold version entry)
    × (length line ≤ max_line_bytes)
ReadsEntry version line (Err fault.Bad) = KeepsBadLine version line
ReadsEntry version line (Err fault.UnknownVersion) = ⊥
ReadsEntry version line (Err fault.NoMemory) = Unit {0}

-- the first line tells the version, if it begins as one that does; each other line spells an entry,
-- or is bad
abbrev pub ReadsLine : Option TraceVersion → Option TraceVersion → List ℕ → Result (Option Entry) LineFault → Type 0
ReadsLine None new line (Ok None) = (new ≡ Some Two) × (line ≡ version_line)
ReadsLine None new line (Ok (Some entry)) = (new ≡ Some One) × (tells_version line ≡ false)
    × ReadsEntry One line (Ok entry)
ReadsLine None new line (Err fault.Bad) = (new ≡ Some One) × (tells_version line ≡ false)
    × KeepsBadLine One line
ReadsLine None new line (Err fault.UnknownVersion) = (new ≡ None) × (line ≢ version_line)
    × IsTrue (tells_version line)
ReadsLine None new line (Err fault.NoMemory) = new ≡ Some One
ReadsLine (Some version) new line (Ok None) = ⊥
ReadsLine (Some version) new line (Ok (Some entry)) = (new ≡ Some version) × ReadsEntry version line (Ok entry)
ReadsLine (Some version) new line (Err fault.Bad) = (new ≡ Some version) × KeepsBadLine version line
ReadsLine (Some version) new line (Err fault.UnknownVersion) = ⊥
ReadsLine (Some version) new line (Err fault.NoMemory) = new ≡ Some version

-- the entry of a line is appended; where the line tells the version there is none
abbrev pub AddsEntry : List Entry → List Entry → Option Entry → Type 0
AddsEntry old new None = new ≡ old
AddsEntry old new (Some entry) = new ≡ old ++ entry ∷ []

-- how the reading ends at a line that is not read
abbrev pub EndsSo : TraceVersion → List Entry → LineFault → TraceEnd → Type 0
EndsSo version entries fault.Bad at = at ≡ BadLine (header_lines version + length entries + 1)
EndsSo version entries fault.UnknownVersion at = at ≡ UnknownVersion
EndsSo version entries fault.NoMemory at = at ≡ NoMemory

-- a line was read and its entry is appended, or the reading ends so
abbrev pub TakesEntry : Option TraceVersion → Option TraceVersion → List Entry → List Entry → List ℕ → Option TraceEnd → Type 0
TakesEntry before after old new line None =
    (entry : Option Entry) × ReadsLine before after line (Ok entry) × AddsEntry old new entry
TakesEntry before after old new line (Some at) = (new ≡ old)
    × (((at ≡ NoMemory) × ((entry : Entry) × ReadsLine before after line (Ok (Some entry))))
    ⊎ ((wrong : LineFault) × ReadsLine before after line (Err wrong) × EndsSo (version_so_far after) old wrong at))

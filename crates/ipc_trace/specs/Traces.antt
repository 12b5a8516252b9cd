-- Our choice (docs/FORMATS.md): a trace, and how its reading ends.
use Rattle.std.specs.Prelude.{◌≡◌, ◌≢◌, ℕ, ◌+◌, ◌<◌, ◌⊎◌, List, [], ◌∷◌, ◌++◌, Option, IfSome, IsTrue, false, length}
use Rattle.std.specs.List.{flat_map}
use Rattle.std.specs.Io.KnownBytes.{Consumes, IsAtEnd}
use mathlib.Core.List.{IsPrefix}
use Rattle.ipc_history.specs.declared.entry.Entry.{Entry}
use Rattle.ipc_lines.specs.Lines.{entry_text}
use Rattle.ipc_lines.specs.Reading.{IsReadable}
use Rattle.ipc_base.specs.Lines.{IsOneLine}
use Rattle.ipc_trace.specs.Versions.{MayHold, header_lines, header_text, may_hold, tells_version, version_line}
use Rattle.ipc_trace.specs.declared.fault.TraceEnd.{TraceEnd}
use Rattle.ipc_trace.specs.declared.fault.TraceEnd.TheVariants.{Whole, DeviceFailed, Torn, BadLine, UnknownVersion, NoMemory}
use Rattle.ipc_trace.specs.declared.version.TraceVersion.{TraceVersion}
use Rattle.ipc_trace.specs.declared.version.TraceVersion.TheVariants.{One, Two}

-- a line and its newline
abbrev pub ended : List ℕ → List ℕ
ended line = line ++ 10 ∷ []

-- the lines of entries
abbrev pub trace_text : List Entry → List ℕ
trace_text entries = flat_map (λ entry. ended (entry_text entry)) entries

-- a trace: the line of its version, where it has one, and behind it the lines of its entries
abbrev pub versioned_text : TraceVersion → List Entry → List ℕ
versioned_text version entries = header_text version ++ trace_text entries

-- a line that spells no entry
abbrev pub IsNoEntry : List ℕ → Type 0
IsNoEntry line = (entry : Entry) → IsReadable entry → line ≢ entry_text entry

-- a line that spells no entry, or one that a trace of this version may not have
abbrev pub IsBadLine : TraceVersion → List ℕ → Type 0
IsBadLine version line =
    IsNoEntry line ⊎ ((entry : Entry) × (line ≡ entry_text entry) × (may_hold version entry ≡ false))

-- such a line behind these entries; a first one that tells a version is no bad line
abbrev pub IsBadBehind : TraceVersion → List Entry → List ℕ → Type 0
IsBadBehind One [] line = IsBadLine One line × (tells_version line ≡ false)
IsBadBehind One (entry ∷ entries) line = IsBadLine One line
IsBadBehind Two entries line = IsBadLine Two line

-- the first line tells a version that is not known
pub record HasUnknownVersion (bytes : List ℕ) : Type 0 where
  pub first : List ℕ
  pub rest : List ℕ
  pub one : IsOneLine first
  pub is_other : first ≢ version_line
  pub tells : IsTrue (tells_version first)
  pub bytes_are : bytes ≡ ended first ++ rest

-- how the reading of such bytes may end
abbrev pub MayEndAtUnknown : TraceEnd → Type 0
MayEndAtUnknown UnknownVersion = Unit {0}
MayEndAtUnknown DeviceFailed = Unit {0}
MayEndAtUnknown NoMemory = Unit {0}
MayEndAtUnknown Whole = ⊥
MayEndAtUnknown Torn = ⊥
MayEndAtUnknown (BadLine number) = ⊥

-- the version and the entries are those of the whole lines, and the line behind them is as the end
-- says
abbrev pub IsRead : Option (List ℕ) → Option (List ℕ) → TraceVersion → List Entry → TraceEnd → Type 0
IsRead old new version entries Whole = MayHold version entries
    × Consumes old new (versioned_text version entries) × IsAtEnd new
IsRead old new version entries DeviceFailed = MayHold version entries
    × ((torn : List ℕ) × IsOneLine torn × Consumes old new (versioned_text version entries ++ torn))
IsRead old new version entries Torn = MayHold version entries
    × ((torn : List ℕ) × IsOneLine torn × (0 < length torn)
    × Consumes old new (versioned_text version entries ++ torn) × IsAtEnd new)
IsRead old new version entries (BadLine number) = MayHold version entries
    × (number ≡ header_lines version + length entries + 1)
    × ((bad : List ℕ) × IsOneLine bad × IsBadBehind version entries bad
    × IfSome old (IsPrefix (versioned_text version entries ++ ended bad)))
IsRead old new version entries UnknownVersion = (version ≡ One) × (entries ≡ [])
    × IfSome old HasUnknownVersion
IsRead old new version entries NoMemory = MayHold version entries
    × IfSome old (IsPrefix (versioned_text version entries))

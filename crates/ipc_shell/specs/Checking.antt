-- Our choice (docs/FORMATS.md): what is printed of a trace that is checked.
use Rattle.std.specs.Prelude.{◌≡◌, ℕ, ◌+◌, ◌<◌, ◌⊎◌, List, [], ◌++◌, length, codes}
use Rattle.std.specs.Prelude.{Bool, true, false, Option, Some, None, IfSome}
use Rattle.std.specs.Fmt.{decimal}
use Rattle.std.specs.Io.KnownBytes.{Appends}
use Rattle.ipc_history.specs.Legal.{Legal}
use Rattle.ipc_history.specs.declared.entry.Entry.{Entry}
use Rattle.ipc_history.specs.declared.entry.Entry.TheVariants.{Written}
use Rattle.ipc_history.specs.declared.entry.Output.{Output}
use Rattle.ipc_lines.specs.Lines.{entry_text}
use Rattle.ipc_base.specs.Lines.{IsOneLine}
use Rattle.ipc_base.specs.Ports.{AppendsFront}
use Rattle.ipc_check.specs.Faults.{IsFirstFault}
use Rattle.ipc_check.specs.declared.checker.Verdict.{Verdict}
use Rattle.ipc_check.specs.declared.checker.Verdict.TheVariants.{Yes, No}
use Rattle.ipc_trace.specs.Traces.{HasUnknownVersion, IsBadBehind, versioned_text}
use Rattle.ipc_trace.specs.Versions.{MayHold, header_lines}
use Rattle.ipc_trace.specs.declared.version.TraceVersion.{TraceVersion}
use Rattle.ipc_shell.specs.Printing.{ended}
use Rattle.ipc_shell.specs.declared.exit.Exit.{Exit}
use Rattle.ipc_shell.specs.declared.exit.Exit.TheVariants.{Done, BadLine, NoMemory, DeviceFailed, Illegal, UnknownVersion}

-- what the rules ask for
abbrev pub expected_text : Option Output → List ℕ
expected_text (Some output) = entry_text (Written output)
expected_text None = codes "input"

-- a verdict on a trace of a version; lines are counted from 1, that of the version too
abbrev pub judged_text : TraceVersion → Verdict → List ℕ
judged_text version Yes = codes "yes"
judged_text version (No index expected) =
    codes "no " ++ decimal (header_lines version + index + 1) ++ codes " " ++ expected_text expected

abbrev pub torn_text : Bool → List ℕ
torn_text true = ended (codes "torn")
torn_text false = []

-- the lines of a verdict, and whether a torn line stands behind those that were judged
abbrev pub verdict_text : TraceVersion → Verdict → Bool → List ℕ
verdict_text version verdict is_torn = ended (judged_text version verdict) ++ torn_text is_torn

-- the verdict on entries
abbrev pub IsVerdict : List Entry → Verdict → Type 0
IsVerdict entries Yes = Legal entries
IsVerdict entries (No index expected) = IsFirstFault entries index expected

-- how a verdict ends the run
abbrev pub exit_of : Verdict → Exit
exit_of Yes = Done
exit_of (No index expected) = Illegal

-- the verdict is printed, or nothing for want of memory, or a front of it where a write failed
abbrev pub PrintsVerdict : TraceVersion → List Entry → Bool → Option (List ℕ) → Option (List ℕ) → Exit → Type 0
PrintsVerdict version entries is_torn before after Done =
    IsVerdict entries Yes × Appends before after (verdict_text version Yes is_torn)
PrintsVerdict version entries is_torn before after Illegal =
    (index : ℕ) × ((expected : Option Output) × IsVerdict entries (No index expected)
    × Appends before after (verdict_text version (No index expected) is_torn))
PrintsVerdict version entries is_torn before after NoMemory = Appends before after []
PrintsVerdict version entries is_torn before after DeviceFailed =
    (verdict : Verdict) × IsVerdict entries verdict
    × AppendsFront before after (verdict_text version verdict is_torn)
PrintsVerdict version entries is_torn before after other = ⊥

-- a trace of this version has these whole lines, and a torn line behind them or none
pub record HasLines (bytes : List ℕ) (version : TraceVersion) (entries : List Entry) (is_torn : Bool) : Type 0 where
  pub held : MayHold version entries
  pub torn : List ℕ
  pub one : IsOneLine torn
  pub bytes_are : bytes ≡ versioned_text version entries ++ torn
  pub is_there : is_torn ≡ true → 0 < length torn
  pub is_none : is_torn ≡ false → torn ≡ []

-- the verdict is that on the whole lines
abbrev pub PrintsTrace : List ℕ → Option (List ℕ) → Option (List ℕ) → Exit → Type 0
PrintsTrace bytes before after exit =
    (version : TraceVersion) × ((entries : List Entry) × ((is_torn : Bool)
    × HasLines bytes version entries is_torn
    × PrintsVerdict version entries is_torn before after exit))

-- a line behind whole lines is bad
pub record HasBadLine (bytes : List ℕ) (number : ℕ) : Type 0 where
  pub version : TraceVersion
  pub entries : List Entry
  pub held : MayHold version entries
  pub bad : List ℕ
  pub rest : List ℕ
  pub one : IsOneLine bad
  pub is_bad : IsBadBehind version entries bad
  pub bytes_are : bytes ≡ (versioned_text version entries ++ ended bad) ++ rest
  pub number_is : number ≡ header_lines version + length entries + 1

-- what a run over these bytes appends to the writer's, and how it ends
abbrev pub ChecksBytes : List ℕ → Option (List ℕ) → Option (List ℕ) → Exit → Type 0
ChecksBytes bytes before after Done = PrintsTrace bytes before after Done
ChecksBytes bytes before after Illegal = PrintsTrace bytes before after Illegal
ChecksBytes bytes before after (BadLine number) = HasBadLine bytes number × Appends before after []
ChecksBytes bytes before after UnknownVersion = HasUnknownVersion bytes × Appends before after []
ChecksBytes bytes before after NoMemory = Appends before after []
ChecksBytes bytes before after DeviceFailed =
    Appends before after [] ⊎ PrintsTrace bytes before after DeviceFailed

-- where the reader tells its bytes
abbrev pub ChecksTrace : Option (List ℕ) → Option (List ℕ) → Option (List ℕ) → Exit → Type 0
ChecksTrace bytes before after exit = IfSome bytes (λ bytes. ChecksBytes bytes before after exit)

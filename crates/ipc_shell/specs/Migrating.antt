-- Our choice (docs/FORMATS.md): what is written of a trace that is migrated.
use Rattle.std.specs.Prelude.{ℕ, ◌⊎◌, List, [], Bool, true, Option, IfSome}
use Rattle.std.specs.Io.KnownBytes.{Appends}
use Rattle.ipc_base.specs.Ports.{AppendsFront}
use Rattle.ipc_history.specs.declared.entry.Entry.{Entry}
use Rattle.ipc_trace.specs.Traces.{HasUnknownVersion, versioned_text}
use Rattle.ipc_trace.specs.Versions.{newest}
use Rattle.ipc_trace.specs.declared.version.TraceVersion.{TraceVersion}
use Rattle.ipc_shell.specs.Checking.{HasBadLine, HasLines, torn_text}
use Rattle.ipc_shell.specs.declared.exit.Exit.{Exit}
use Rattle.ipc_shell.specs.declared.exit.Exit.TheVariants.{Done, BadLine, NoMemory, DeviceFailed, Illegal, UnknownVersion}

-- a trace of the newest version of these entries was written, or a front of it where there is no
-- memory or a device failed
abbrev pub WritesMigrated : List Entry → Option (List ℕ) → Option (List ℕ) → Exit → Type 0
WritesMigrated entries before after Done = Appends before after (versioned_text newest entries)
WritesMigrated entries before after NoMemory = AppendsFront before after (versioned_text newest entries)
WritesMigrated entries before after DeviceFailed = AppendsFront before after (versioned_text newest entries)
WritesMigrated entries before after other = ⊥

-- it is told that a trace is torn, or a front of that where a write failed
abbrev pub TellsTorn : Option (List ℕ) → Option (List ℕ) → Exit → Type 0
TellsTorn before after Done = Appends before after (torn_text true)
TellsTorn before after DeviceFailed = AppendsFront before after (torn_text true)
TellsTorn before after other = ⊥

-- the entries of the whole lines are written as a trace of the newest version, and it is told
-- whether a torn line stands behind them; what is appended to the bytes of the new trace, and to
-- those of the writer
pub record Migrates (bytes : List ℕ) (before after said_before said_after : Option (List ℕ)) : Type 0 where
  pub version : TraceVersion
  pub entries : List Entry
  pub is_torn : Bool
  pub lines : HasLines bytes version entries is_torn
  pub written : Appends before after (versioned_text newest entries)
  pub said : Appends said_before said_after (torn_text is_torn)

-- a front of that: the run ended before
pub record MigratesFront (bytes : List ℕ) (before after said_before said_after : Option (List ℕ)) : Type 0 where
  pub version : TraceVersion
  pub entries : List Entry
  pub is_torn : Bool
  pub lines : HasLines bytes version entries is_torn
  pub written : AppendsFront before after (versioned_text newest entries)
  pub said : AppendsFront said_before said_after (torn_text is_torn)

-- nothing is written, and nothing is told
abbrev pub WritesNothing : Option (List ℕ) → Option (List ℕ) → Option (List ℕ) → Option (List ℕ) → Type 0
WritesNothing before after said_before said_after = Appends before after [] × Appends said_before said_after []

-- what a run over these bytes writes, and how it ends
abbrev pub MigratesBytes : List ℕ → Option (List ℕ) → Option (List ℕ) → Option (List ℕ) → Option (List ℕ) → Exit → Type 0
MigratesBytes bytes before after said_before said_after Done =
    Migrates bytes before after said_before said_after
MigratesBytes bytes before after said_before said_after (BadLine number) =
    HasBadLine bytes number × WritesNothing before after said_before said_after
MigratesBytes bytes before after said_before said_after UnknownVersion =
    HasUnknownVersion bytes × WritesNothing before after said_before said_after
MigratesBytes bytes before after said_before said_after NoMemory =
    WritesNothing before after said_before said_after
    ⊎ MigratesFront bytes before after said_before said_after
MigratesBytes bytes before after said_before said_after DeviceFailed =
    WritesNothing before after said_before said_after
    ⊎ MigratesFront bytes before after said_before said_after
MigratesBytes bytes before after said_before said_after Illegal = ⊥

-- where the reader tells its bytes
abbrev pub MigratesTrace : Option (List ℕ) → Option (List ℕ) → Option (List ℕ) → Option (List ℕ) → Option (List ℕ) → Exit → Type 0
MigratesTrace bytes before after said_before said_after exit =
    IfSome bytes (λ bytes. MigratesBytes bytes before after said_before said_after exit)

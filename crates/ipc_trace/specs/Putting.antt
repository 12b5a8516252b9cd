-- What putting a line leaves written.
use Rattle.std.specs.Prelude.{◌≡◌, ℕ, ◌<◌, List, Bool, true, false, Option, Result, IsErrOf, ◌⊎◌}
use Rattle.std.specs.Io.KnownBytes.{Appends, Keeps}
use Rattle.ipc_base.specs.Ports.{AppendsPart}
use Rattle.ipc_trace.specs.declared.fault.PutFault.{PutFault}
use Rattle.ipc_trace.specs.declared.fault.PutFault.TheVariants.{Stopped, NoMemory}

-- a trace that is written: the bytes so far, where its port tells them, how often its device
-- failed, whether the device holds none of the bytes back, and whether the trace has stopped
pub record TraceParts : Type 0 where
  pub written : Option (List ℕ)
  pub failures : ℕ
  pub is_flushed : Bool
  pub is_stopped : Bool

-- a line was put whole, and the trace goes on
pub record PutsLine (old new : TraceParts) (line : List ℕ) : Type 0 where
  pub was_going : old.is_stopped ≡ false
  pub appended : Appends old.written new.written line
  pub failures : new.failures ≡ old.failures
  pub goes_on : new.is_stopped ≡ false

-- the device failed: a part of the line stands, and the trace has stopped
pub record FailsInLine (old new : TraceParts) (line : List ℕ) : Type 0 where
  pub was_going : old.is_stopped ≡ false
  pub appended : AppendsPart old.written new.written line
  pub failed : old.failures < new.failures
  pub stopped : new.is_stopped ≡ true

-- what was written is handed on, and the trace goes on
pub record HandsOn (old new : TraceParts) : Type 0 where
  pub was_going : old.is_stopped ≡ false
  pub same_bytes : Keeps old.written new.written
  pub failures : new.failures ≡ old.failures
  pub flushed : new.is_flushed ≡ true
  pub goes_on : new.is_stopped ≡ false

-- the device failed where it had to hand on what was written, and the trace has stopped
pub record FailsToHandOn (old new : TraceParts) : Type 0 where
  pub was_going : old.is_stopped ≡ false
  pub same_bytes : Keeps old.written new.written
  pub failed : old.failures < new.failures
  pub stopped : new.is_stopped ≡ true

-- the call was refused before anything was written
abbrev pub IsNoDevice : {X : Type 0} → Result X PutFault → Type 0
IsNoDevice result = IsErrOf result Stopped ⊎ IsErrOf result NoMemory

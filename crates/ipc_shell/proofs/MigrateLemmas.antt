-- From the entries that were read to the trace that is written anew.
use Rattle.std.proofs.Common.{◌≡◌, ◌≢◌, ℕ, Bool, true, false, Option, Some, None, IfSome, List, refl, ◌+◌, ◌<◌, ◌⊎◌, arith, inl, inr}
use Rattle.std.proofs.KnownBytes.{Appends-nil}
use Rattle.ipc_base.proofs.Fronts.{all_is_front, none_is_front}
use Rattle.ipc_history.specs.declared.entry.Entry.{Entry}
use Rattle.ipc_trace.specs.Traces.{HasUnknownVersion, versioned_text}
use Rattle.ipc_trace.specs.Versions.{newest}
use Rattle.ipc_trace.specs.declared.fault.TraceEnd.{TraceEnd}
use Rattle.ipc_trace.specs.declared.fault.TraceEnd.TheVariants as end
use Rattle.ipc_trace.specs.declared.version.TraceVersion.{TraceVersion}
use Rattle.ipc_shell.specs.Checking.{HasBadLine, HasLines, torn_text}
use Rattle.ipc_shell.specs.Migrating.{MigratesTrace, TellsTorn, WritesMigrated}
use Rattle.ipc_shell.specs.declared.exit.Exit.{Exit}
use Rattle.ipc_shell.specs.declared.exit.Exit.TheVariants.{Done, BadLine, NoMemory, DeviceFailed, Illegal, UnknownVersion}

-- the trace was not written whole
pub not_migrated : (bytes before after said : Option (List ℕ)) (version : TraceVersion) (entries : List Entry) (is_torn : Bool) (exit : Exit)
    → IfSome bytes (λ bytes. HasLines bytes version entries is_torn) → WritesMigrated entries before after exit → exit ≢ Done → MigratesTrace bytes before after said said exit
not_migrated None before after said version entries is_torn exit lines writes other = tt
not_migrated (Some bytes) before after said version entries is_torn Done lines writes other = absurd (other refl)
not_migrated (Some bytes) before after said version entries is_torn NoMemory lines writes other =
    inr (record { version = version; entries = entries; is_torn = is_torn; lines = lines; written = writes; said = none_is_front said (torn_text is_torn) })
not_migrated (Some bytes) before after said version entries is_torn DeviceFailed lines writes other =
    inr (record { version = version; entries = entries; is_torn = is_torn; lines = lines; written = writes; said = none_is_front said (torn_text is_torn) })
not_migrated (Some bytes) before after said version entries is_torn (BadLine number) lines writes other = absurd writes
not_migrated (Some bytes) before after said version entries is_torn Illegal lines writes other = absurd writes
not_migrated (Some bytes) before after said version entries is_torn UnknownVersion lines writes other = absurd writes

no_memory_is_other : NoMemory ≢ Done
no_memory_is_other is = cc

failure_is_other : DeviceFailed ≢ Done
failure_is_other is = cc

-- a trace without a torn line
pub migrated : (bytes before after said : Option (List ℕ)) (version : TraceVersion) (entries : List Entry) (exit : Exit)
    → IfSome bytes (λ bytes. HasLines bytes version entries false) → WritesMigrated entries before after exit → MigratesTrace bytes before after said said exit
migrated None before after said version entries exit lines writes = tt
migrated (Some bytes) before after said version entries Done lines writes =
    record { version = version; entries = entries; is_torn = false; lines = lines; written = writes; said = Appends-nil said }
migrated (Some bytes) before after said version entries NoMemory lines writes = not_migrated (Some bytes) before after said version entries false NoMemory lines writes no_memory_is_other
migrated (Some bytes) before after said version entries DeviceFailed lines writes =
    not_migrated (Some bytes) before after said version entries false DeviceFailed lines writes failure_is_other
migrated (Some bytes) before after said version entries (BadLine number) lines writes = absurd writes
migrated (Some bytes) before after said version entries Illegal lines writes = absurd writes
migrated (Some bytes) before after said version entries UnknownVersion lines writes = absurd writes

-- a trace with a torn line, of which was told
pub migrated_torn : (bytes before after said_before said_after : Option (List ℕ)) (version : TraceVersion) (entries : List Entry) (exit : Exit)
    → IfSome bytes (λ bytes. HasLines bytes version entries true) → WritesMigrated entries before after Done → TellsTorn said_before said_after exit
    → MigratesTrace bytes before after said_before said_after exit
migrated_torn None before after said_before said_after version entries exit lines writes tells = tt
migrated_torn (Some bytes) before after said_before said_after version entries Done lines writes tells =
    record { version = version; entries = entries; is_torn = true; lines = lines; written = writes; said = tells }
migrated_torn (Some bytes) before after said_before said_after version entries DeviceFailed lines writes tells =
    let written = all_is_front before after (versioned_text newest entries) writes in
    inr (record { version = version; entries = entries; is_torn = true; lines = lines; written = written; said = tells })
migrated_torn (Some bytes) before after said_before said_after version entries NoMemory lines writes tells = absurd tells
migrated_torn (Some bytes) before after said_before said_after version entries (BadLine number) lines writes tells = absurd tells
migrated_torn (Some bytes) before after said_before said_after version entries Illegal lines writes tells = absurd tells
migrated_torn (Some bytes) before after said_before said_after version entries UnknownVersion lines writes tells = absurd tells

-- nothing is written of a trace with a bad line, nor of one of an unknown version
pub bad_unmigrated : (bytes written said : Option (List ℕ)) (number : ℕ) → IfSome bytes (λ bytes. HasBadLine bytes number)
    → MigratesTrace bytes written written said said (BadLine number)
bad_unmigrated None written said number has = tt
bad_unmigrated (Some bytes) written said number has = (has, (Appends-nil written, Appends-nil said))

pub unknown_unmigrated : (bytes written said : Option (List ℕ)) → IfSome bytes HasUnknownVersion → MigratesTrace bytes written written said said UnknownVersion
unknown_unmigrated None written said has = tt
unknown_unmigrated (Some bytes) written said has = (has, (Appends-nil written, Appends-nil said))

pub failed_unmigrated : (bytes written said : Option (List ℕ)) → MigratesTrace bytes written written said said DeviceFailed
failed_unmigrated None written said = tt
failed_unmigrated (Some bytes) written said = inl (Appends-nil written, Appends-nil said)

pub unread_unmigrated : (bytes written said : Option (List ℕ)) → MigratesTrace bytes written written said said NoMemory
unread_unmigrated None written said = tt
unread_unmigrated (Some bytes) written said = inl (Appends-nil written, Appends-nil said)

-- the device of the new trace failed, and no read did
pub device_in_trace : (S : Type 0) (reads more_reads puts more_puts writes : ℕ) → more_reads ≡ reads → S ⊎ (puts < more_puts)
    → S ⊎ (reads + puts + writes < more_reads + more_puts + writes)
device_in_trace S reads more_reads puts more_puts writes same (inl stopped) = inl stopped
device_in_trace S reads more_reads puts more_puts writes same (inr failed) = inr (omega (arith, same, failed))

pub torn_is_no_failure : (at : TraceEnd) → at ≡ end.Torn → at ≢ end.DeviceFailed
torn_is_no_failure at torn failed = cc

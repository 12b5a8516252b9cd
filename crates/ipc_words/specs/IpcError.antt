-- L4 X.2 manual, ErrorCode: the phase that failed, and what went wrong in it.
use Rattle.std.specs.Prelude.{ℕ, Option, Some, None, ◌==◌, if◌then◌else◌}
use Rattle.ipc_words.specs.ErrorCode.{error_code, phase_bit}
use Rattle.ipc_words.specs.declared.ipc_error.Phase.{Phase}
use Rattle.ipc_words.specs.declared.ipc_error.Phase.TheVariants.{Send, Receive}
use Rattle.ipc_words.specs.declared.ipc_error.ErrorKind.{ErrorKind}
use Rattle.ipc_words.specs.declared.ipc_error.ErrorKind.TheVariants.{Timeout, NonExistingPartner}
use Rattle.ipc_words.specs.declared.ipc_error.ErrorKind.TheVariants.{Cancelled, MessageOverflow}
use Rattle.ipc_words.specs.declared.ipc_error.ErrorKind.TheVariants.{Aborted}

-- p of a phase
abbrev pub bit_of_phase : Phase → ℕ
bit_of_phase Send = 0
bit_of_phase Receive = 1

-- e of what went wrong
abbrev pub code_of_kind : ErrorKind → ℕ
code_of_kind Timeout = 1
code_of_kind NonExistingPartner = 2
code_of_kind Cancelled = 3
code_of_kind MessageOverflow = 4
code_of_kind Aborted = 7

-- the code of what went wrong in a phase, at an offset
abbrev pub failure_code : Phase → ErrorKind → ℕ → ℕ
failure_code phase kind offset = error_code (bit_of_phase phase) (code_of_kind kind) offset

-- the phase of an error code
abbrev pub phase_of : ℕ → Phase
phase_of error = (if phase_bit error == 0 then Send else Receive)

-- what an e stands for; none for 0, 5 and 6
abbrev pub kind_of_code : ℕ → Option ErrorKind
kind_of_code e =
    (if e == 1 then Some Timeout
    else (if e == 2 then Some NonExistingPartner
    else (if e == 3 then Some Cancelled
    else (if e == 4 then Some MessageOverflow
    else (if e == 7 then Some Aborted else None)))))

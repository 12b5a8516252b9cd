-- How a run tells its end.
use Rattle.std.specs.Prelude.{ℕ, List, ◌++◌, codes}
use Rattle.std.specs.Fmt.{decimal}
use Rattle.ipc_shell.specs.declared.exit.Exit.{Exit}
use Rattle.ipc_shell.specs.declared.exit.Exit.TheVariants.{Done, BadLine, NoMemory, DeviceFailed, Illegal, UnknownVersion}

-- the status of the program
abbrev pub status_of : Exit → ℕ
status_of Done = 0
status_of (BadLine number) = 2
status_of NoMemory = 1
status_of DeviceFailed = 1
status_of Illegal = 3
status_of UnknownVersion = 2

-- the words for standard error
abbrev pub exit_text : Exit → List ℕ
exit_text Done = codes "l4sh: done"
exit_text (BadLine number) = codes "l4sh: bad line " ++ decimal number
exit_text NoMemory = codes "l4sh: no memory"
exit_text DeviceFailed = codes "l4sh: device failed"
exit_text Illegal = codes "l4sh: illegal"
exit_text UnknownVersion = codes "l4sh: unknown version"

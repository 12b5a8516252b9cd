-- How a command of l4sh tells its end: as a run does, or in words of its own.
use Rattle.std.specs.Prelude.{ℕ, List, ◌++◌, codes}
use Rattle.std.specs.Fmt.{decimal}
use Rattle.ipc_shell.specs.Exits as run
use Rattle.ipc_shell.specs.declared.exit.Exit.TheVariants as ends
use Rattle.l4sh_look.specs.declared.exit.Exit.{Exit}
use Rattle.l4sh_look.specs.declared.exit.Exit.TheVariants.{Done, BadLine, NoMemory, DeviceFailed, Illegal, BadThreads, NoChart, BadWord, UnknownVersion, IllegalLine, Torn}

-- the status of the program
abbrev pub status_of : Exit → ℕ
status_of Done = run.status_of ends.Done
status_of (BadLine number) = run.status_of (ends.BadLine number)
status_of NoMemory = run.status_of ends.NoMemory
status_of DeviceFailed = run.status_of ends.DeviceFailed
status_of Illegal = run.status_of ends.Illegal
status_of BadThreads = 2
status_of (NoChart fault) = 2
status_of BadWord = 2
status_of UnknownVersion = run.status_of ends.UnknownVersion
status_of (IllegalLine number place) = 3
status_of (Torn number) = 5

-- the words for standard error
abbrev pub exit_text : Exit → List ℕ
exit_text Done = run.exit_text ends.Done
exit_text (BadLine number) = run.exit_text (ends.BadLine number)
exit_text NoMemory = run.exit_text ends.NoMemory
exit_text DeviceFailed = run.exit_text ends.DeviceFailed
exit_text Illegal = run.exit_text ends.Illegal
exit_text BadThreads = codes "l4sh: bad list of threads"
exit_text (NoChart fault) = codes "l4sh: nothing to draw"
exit_text BadWord = codes "l4sh: bad word"
exit_text UnknownVersion = run.exit_text ends.UnknownVersion
exit_text (IllegalLine number place) =
    codes "l4sh: line " ++ decimal number ++ codes " does not follow those before it"
exit_text (Torn number) = codes "l4sh: torn: what came after line " ++ decimal number ++ codes " is not here"

-- How a talk tells its end.
use Rattle.std.specs.Prelude.{ℕ}
use Rattle.ipc_frame.specs.declared.fault.FrameFault.TheVariants as fault
use Rattle.ipc_client.specs.declared.error.ClientError.{ClientError}
use Rattle.ipc_client.specs.declared.error.ClientError.TheVariants as error
use Rattle.l4sh_talk.specs.declared.ending.Ending.{Ending}
use Rattle.l4sh_talk.specs.declared.ending.Ending.TheVariants.{Done, NoMemory, DeviceFailed, NoServer, Refused, Ended}

-- the ending by an error of the client: F14 is want of memory here, and not at the server
abbrev pub ending_of : ClientError → Ending
ending_of (error.Frame fault.NoMemory) = NoMemory
ending_of other = Ended other

-- the status of the program
abbrev pub status_of : Ending → ℕ
status_of Done = 0
status_of NoMemory = 1
status_of DeviceFailed = 1
status_of NoServer = 4
status_of (Refused number) = 4
status_of (Ended error) = 4

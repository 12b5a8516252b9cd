-- How a request that was answered is told to the client, and what stage comes next.
use Rattle.std.specs.Prelude.{ℕ, Bool, true, false, Option, Some, None, if◌then◌else◌}
use Rattle.ipc_frame.specs.declared.frame.Frame.{Frame}
use Rattle.ipc_frame.specs.declared.version.WireVersion.{WireVersion}
use Rattle.ipc_frame.specs.declared.version.WireVersion.TheVariants.{One, Two}
use Rattle.ipc_frame.specs.declared.frame.Frame.TheVariants as frame
use Rattle.ipc_core.specs.RefusalNumbers.{refusal_number}
use Rattle.ipc_core.specs.declared.command.Answer.{Answer}
use Rattle.ipc_core.specs.declared.command.Answer.TheVariants as answer
use Rattle.ipc_core.specs.declared.refusal.Refusal.{Refusal}
use Rattle.ipc_core.specs.declared.refusal.Refusal.TheVariants.{NoThread, Busy}
use Rattle.ipc_connection.specs.Faults.{of_kernel}
use Rattle.ipc_connection.specs.declared.stage.Stage.{Stage}
use Rattle.ipc_connection.specs.declared.stage.Stage.TheVariants.{Serving, Finished}
use Rattle.ipc_connection.specs.declared.replying.Told.{Told}
use Rattle.ipc_connection.specs.declared.replying.Told.TheVariants.{Opened, Entered, Exchanged, Refused, Faulted, Left}

-- what a kernel's answer tells a connection, where its request named this version, and the kernel's
-- moment after it is this
abbrev pub told_of : WireVersion → ℕ → Answer → Told
told_of version moment (answer.Opened thread) = Opened thread version
told_of version moment (answer.Entered number) = Entered
told_of version moment (answer.Exchanged exchanged) = Exchanged exchanged.result exchanged.control exchanged.code moment
told_of version moment (answer.Refused refusal) = Refused refusal
told_of version moment answer.Done = Entered
told_of version moment (answer.Advanced advance) = Entered
told_of version moment (answer.Taken outcome) = Entered

-- the frame of a refusal: a busy thread is a fault; that the thread is gone is told to nobody
abbrev pub frame_of : Refusal → Option Frame
frame_of Busy = Some (frame.Fault of_kernel (refusal_number Busy))
frame_of NoThread = None
frame_of refusal = Some (frame.Refused (refusal_number refusal))

-- the moment of an ExchangeRegisters, where a version tells it
abbrev pub moment_in : WireVersion → ℕ → Option ℕ
moment_in One moment = None
moment_in Two moment = Some moment

unfoldable pub reply : WireVersion → Told → Option Frame
reply version (Opened thread named) = Some (frame.Welcome thread)
reply version Entered = None
reply version (Exchanged result control code moment) =
    Some (frame.Exregr result control code (moment_in version moment))
reply version (Refused refusal) = frame_of refusal
reply version (Faulted class number) = Some (frame.Fault class number)
reply version Left = None

-- the refusals that end a connection: the thread is gone, or it is busy
abbrev pub ends_by : Refusal → Bool
ends_by NoThread = true
ends_by Busy = true
ends_by _ = false

unfoldable pub next_stage : Stage → Told → Stage
next_stage stage (Opened thread named) = Serving thread
next_stage stage Entered = stage
next_stage stage (Exchanged result control code moment) = stage
next_stage stage (Refused refusal) = (if ends_by refusal then Finished else stage)
next_stage stage (Faulted class number) = Finished
next_stage stage Left = Finished

-- the version in which a connection is answered after it was told this
unfoldable pub next_version : WireVersion → Told → WireVersion
next_version version (Opened thread named) = named
next_version version Entered = version
next_version version (Exchanged result control code moment) = version
next_version version (Refused refusal) = version
next_version version (Faulted class number) = version
next_version version Left = version

-- the thread of a connection that ends
unfoldable pub thread_left : Stage → Stage → Option ℕ
thread_left (Serving thread) Finished = Some thread
thread_left _ _ = None

-- One frame out, one frame in.
use Rattle.std.specs.Prelude.{◌≡◌, ◌<◌, Bool, true, false, not, is_some, Some, IfSome, Result, Err, ◌⊎◌}
use Rattle.std.specs.Io.KnownBytes.{Appends}
use Rattle.ipc_frame.specs.declared.fault.FrameFault.{FrameFault}
use Rattle.ipc_frame.specs.declared.frame.Frame.{Frame}
use Rattle.ipc_frame.specs.declared.frame.Frame.TheVariants as frame
use Rattle.ipc_frame.specs.declared.kind.Side.TheVariants.{Client}
use Rattle.ipc_frame.specs.declared.version.WireVersion.{WireVersion}
use Rattle.ipc_frame.specs.declared.version.WireVersion.TheVariants.{One, Two}
use Rattle.ipc_frame.specs.Frames.{spelling}
use Rattle.ipc_frame.specs.Making.{ipc_fault}
use Rattle.ipc_frame.specs.Parts.{IpcParts}
use Rattle.ipc_client.specs.declared.error.ClientError.{ClientError}
use Rattle.ipc_client.specs.declared.error.ClientError.TheVariants as error
use Rattle.ipc_client.specs.declared.answer.Greeting.{Greeting}
use Rattle.ipc_client.specs.declared.answer.Greeting.TheVariants as greeting
use Rattle.ipc_client.specs.declared.answer.Answer.{Answer}
use Rattle.ipc_client.specs.declared.answer.Answer.TheVariants as answer
use Rattle.ipc_client.specs.declared.answer.Registers.{Registers}
use Rattle.ipc_client.specs.declared.answer.Registers.TheVariants as registers
use Rattle.ipc_client.specs.ClientParts.{ClientParts, Notes, NotesLast}
use Rattle.ipc_client.specs.Devices.{IsDeviceFault}
use Rattle.ipc_client.specs.Reading.{TakesFrame, TakesNoFrame}
use Rattle.ipc_base.specs.Ports.{AppendsFront}

-- the frames of the answers
abbrev pub greeting_frame : Greeting → Frame
greeting_frame (greeting.Welcome id) = frame.Welcome id
greeting_frame (greeting.Refused number) = frame.Refused number

abbrev pub answer_frame : Answer → Frame
answer_frame (answer.Outcome ipcr) = frame.Ipcr ipcr
answer_frame (answer.Refused number) = frame.Refused number

abbrev pub registers_frame : Registers → Frame
registers_frame (registers.Exchanged result control code moment) = frame.Exregr result control code moment
registers_frame (registers.Refused number) = frame.Refused number

-- exactly the bytes of one frame went out, the next frame was read and no byte behind it, and no
-- device failed
pub record Exchanges (old new : ClientParts) (asked answered : Frame) : Type 0 where
  pub was_open : old.is_closed ≡ false
  pub sent : Appends old.written new.written (spelling asked)
  pub read : TakesFrame Client old.input new.input answered
  pub noted : Notes old new asked answered
  pub reader : new.read_failures ≡ old.read_failures
  pub writer : new.write_failures ≡ old.write_failures

-- and the client goes on
pub record Answers (old new : ClientParts) (asked answered : Frame) : Type 0 where
  pub exchanges : Exchanges old new asked answered
  pub goes_on : new.is_closed ≡ false

-- nothing more came of it than a front of the frame, and nothing was read
pub record FailsToSend (old new : ClientParts) (asked : Frame) (fault : FrameFault) : Type 0 where
  pub front : AppendsFront old.written new.written (spelling asked)
  pub device : IsDeviceFault fault
  pub failed : old.write_failures < new.write_failures
  pub unread : new.input ≡ old.input
  pub noted : NotesLast old new asked
  pub reader : new.read_failures ≡ old.read_failures

-- the frame went out, and no frame came: the bytes that were read show the fault, or the reader
-- failed
pub record FailsToRead (old new : ClientParts) (asked : Frame) (fault : FrameFault) : Type 0 where
  pub sent : Appends old.written new.written (spelling asked)
  pub writer : new.write_failures ≡ old.write_failures
  pub read : TakesNoFrame Client old.input new.input fault
  pub noted : NotesLast old new asked
  pub failed : IsDeviceFault fault → old.read_failures < new.read_failures

-- the frame of a call that is past the limits was not made, and nothing was written or read
pub record IsPastLimits (old new : ClientParts) (parts : IpcParts) (fault : FrameFault) : Type 0 where
  pub past : ipc_fault parts ≡ Some fault
  pub same : new ≡ record old { is_closed = true }

-- a frame that is no answer, nor FAULT
abbrev pub IsOther : (Frame → Bool) → Frame → Type 0
IsOther is_answer (frame.Fault class number) = ⊥
IsOther is_answer other = is_answer other ≡ false

-- the answers to HELLO, and, in a version, to a call and to ExchangeRegisters
abbrev pub greets : Frame → Bool
greets (frame.Welcome id) = true
greets (frame.Refused number) = true
greets _ = false

-- whether a version tells calls and moments as it is told here
abbrev pub tells_so : WireVersion → Bool → Bool
tells_so One told = not told
tells_so Two told = told

abbrev pub answers_call : WireVersion → Frame → Bool
answers_call version (frame.Ipcr ipcr) = tells_so version (is_some ipcr.end)
answers_call version (frame.Refused number) = true
answers_call version _ = false

abbrev pub answers_exchange : WireVersion → Frame → Bool
answers_exchange version (frame.Exregr result control code moment) = tells_so version (is_some moment)
answers_exchange version (frame.Refused number) = true
answers_exchange version _ = false

-- the version in which a client is answered after its HELLO named this one and was answered so
abbrev pub version_after : WireVersion → WireVersion → Greeting → WireVersion
version_after old named (greeting.Welcome id) = named
version_after old named (greeting.Refused number) = old

-- what it tells
abbrev pub error_at : Frame → ClientError
error_at (frame.Fault class number) = error.Fault class number
error_at _ = error.Unexpected

-- each error only where its cause is there, and the client is closed
abbrev pub FailsBy : (Frame → Bool) → ClientParts → ClientParts → Frame → ClientError → Type 0
FailsBy is_answer old new asked (error.Frame fault) = FailsToSend old new asked fault ⊎ FailsToRead old new asked fault
FailsBy is_answer old new asked (error.Fault class number) = Exchanges old new asked (frame.Fault class number)
FailsBy is_answer old new asked error.Unexpected = (other : Frame) × Exchanges old new asked other × IsOther is_answer other
FailsBy is_answer old new asked error.Closed = ⊥

-- an error: the client was closed before and nothing changed, or it was open and is closed now
abbrev pub Fails : (Frame → Bool) → ClientParts → ClientParts → Frame → ClientError → Type 0
Fails is_answer old new asked error.Closed = (old.is_closed ≡ true) × (new ≡ old)
Fails is_answer old new asked error = (old.is_closed ≡ false) × (new.is_closed ≡ true) × FailsBy is_answer old new asked error

-- the same of a call whose parts may be past the limits of a frame
abbrev pub FailsCall : ClientParts → ClientParts → IpcParts → ClientError → Type 0
FailsCall old new parts (error.Frame fault) =
    (old.is_closed ≡ false) × (new.is_closed ≡ true)
    × (IsPastLimits old new parts fault ⊎ FailsBy (answers_call old.version) old new (frame.Ipc parts) (error.Frame fault))
FailsCall old new parts error = Fails (answers_call old.version) old new (frame.Ipc parts) error

-- a call that is past the limits fails so, and nothing is written or read
abbrev pub IsWithheld : ClientParts → ClientParts → IpcParts → Result Answer ClientError → Type 0
IsWithheld old new parts result =
    IfSome (ipc_fault parts) (λ fault. old.is_closed ≡ false
    → (result ≡ Err (error.Frame fault)) × (new ≡ record old { is_closed = true }))

-- BYE went out, nothing was read, and the client is closed
pub record SaysBye (old new : ClientParts) : Type 0 where
  pub was_open : old.is_closed ≡ false
  pub sent : Appends old.written new.written (spelling frame.Bye)
  pub unread : new.input ≡ old.input
  pub noted : NotesLast old new frame.Bye
  pub reader : new.read_failures ≡ old.read_failures
  pub writer : new.write_failures ≡ old.write_failures
  pub closed : new.is_closed ≡ true

-- or a front of it, where the device failed
abbrev pub FailsBye : ClientParts → ClientParts → ClientError → Type 0
FailsBye old new error.Closed = (old.is_closed ≡ true) × (new ≡ old)
FailsBye old new (error.Frame fault) = (old.is_closed ≡ false) × (new.is_closed ≡ true) × FailsToSend old new frame.Bye fault
FailsBye old new _ = ⊥

-- What the server hears: what each whole frame says, or the fault that stands in its place.
use Rattle.std.specs.Prelude.{◌≡◌, ℕ, List, [], ◌∷◌, ◌++◌, map, Result, Ok, Err}
use Rattle.ipc_history.specs.CallParts.{CallParts}
use Rattle.ipc_frame.specs.Stream.{End, Rest, Stopped, Stream}
use Rattle.ipc_frame.specs.declared.fault.FrameFault.{FrameFault}
use Rattle.ipc_frame.specs.declared.fault.FrameFault.TheVariants.{NoMemory, UnknownKind, Unfinished}
use Rattle.ipc_frame.specs.declared.frame.Frame.{Frame}
use Rattle.ipc_frame.specs.declared.frame.Frame.TheVariants as frame
use Rattle.ipc_connection.specs.CallOf.{call_of}
use Rattle.ipc_connection.specs.declared.heard.Heard.{Heard}
use Rattle.ipc_connection.specs.declared.heard.Heard.TheVariants.{Hello, Call, Exreg, Bye}

abbrev pub call_heard : Result CallParts FrameFault → Result Heard FrameFault
call_heard (Ok call) = Ok (Call call)
call_heard (Err fault) = Err fault

-- what a frame says; one that is sent to clients alone is no frame here
unfoldable pub heard_of : Frame → Result Heard FrameFault
heard_of (frame.Hello number version) = Ok (Hello number version)
heard_of (frame.Ipc ipc) = call_heard (call_of ipc)
heard_of (frame.Exreg target control) = Ok (Exreg target control)
heard_of frame.Bye = Ok Bye
heard_of _ = Err UnknownKind

-- behind the frames, a fault of the stream
abbrev pub heard_behind : End → List (Result Heard FrameFault)
heard_behind (Rest bytes) = []
heard_behind (Stopped fault) = Err fault ∷ []

-- all that a stream says
abbrev pub heard_in : Stream → List (Result Heard FrameFault)
heard_in stream = map heard_of stream.frames ++ heard_behind stream.end

-- the first frames of a stream are heard, and in place of what the next one says, if such a frame
-- may lack memory, that there is none
pub record IsCut (May : Frame → Type 0) (stream : Stream) (heard : List (Result Heard FrameFault)) : Type 0 where
  pub front : List Frame
  pub frame : Frame
  pub behind : List Frame
  pub frames_are : stream.frames ≡ front ++ frame ∷ behind
  pub may : May frame
  pub heard_is : heard ≡ map heard_of front ++ Err NoMemory ∷ []

-- the bytes since its last whole frame
abbrev pub left_in : End → List ℕ
left_in (Rest bytes) = bytes
left_in (Stopped fault) = []

-- the end of the input: it ends a connection as BYE does, unless it comes inside a frame
abbrev pub heard_at_end : List ℕ → Result Heard FrameFault
heard_at_end [] = Ok Bye
heard_at_end (byte ∷ bytes) = Err Unfinished

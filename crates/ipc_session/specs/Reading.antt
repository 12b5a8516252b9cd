-- What a reader did with the bytes that it read, and how it ends by them.
use Rattle.std.specs.Prelude.{◌≡◌, ◌<◌, ◌⊎◌, ℕ, List, [], ◌∷◌, ◌++◌, map, Option, Result, Ok, Err}
use Rattle.std.specs.Io.KnownBytes.{IsAtEnd}
use Rattle.ipc_base.specs.Ports.{Gives, Input, input_of}
use Rattle.ipc_frame.specs.Stream.{End, Rest, Stopped, Stream, put_front, stream_of}
use Rattle.ipc_frame.specs.declared.fault.FrameFault.{FrameFault}
use Rattle.ipc_frame.specs.declared.fault.FrameFault.TheVariants.{Unfinished}
use Rattle.ipc_frame.specs.declared.frame.Frame.{Frame}
use Rattle.ipc_frame.specs.declared.frame.Frame.TheVariants as frame
use Rattle.ipc_frame.specs.declared.kind.Side.TheVariants.{Server}
use Rattle.ipc_connection.specs.Hearing.{heard_of}
use Rattle.ipc_connection.specs.Holding.{HearsOf}
use Rattle.ipc_connection.specs.Taking.{Decoding, Holds}
use Rattle.ipc_connection.specs.declared.heard.Heard.{Heard}
use Rattle.ipc_connection.specs.declared.heard.Heard.TheVariants as said
use Rattle.ipc_connection.specs.KernelCalls.{Asks, KernelCall, Posts, TellsMore}
use Rattle.ipc_connection.specs.Faults.{fault_number, of_frame, of_kernel, of_session, out_of_place}
use Rattle.ipc_connection.specs.declared.asking.Request.{Request}
use Rattle.ipc_connection.specs.declared.replying.Told.TheVariants.{Refused}
use Rattle.ipc_core.specs.RefusalNumbers.{refusal_number}
use Rattle.ipc_core.specs.declared.refusal.Refusal.TheVariants.{Busy, NoThread}
use Rattle.ipc_connection.specs.declared.stage.Stage.{Stage}
use Rattle.ipc_connection.specs.declared.stage.Stage.TheVariants.{Greeting}
use Rattle.ipc_session.specs.Serving.{ServesAll}
use Rattle.ipc_session.specs.declared.ending.Ending.{Ending}
use Rattle.ipc_session.specs.declared.ending.Ending.TheVariants.{Protocol, Device, Stopped as Halted, Gone, Bye, EndOfInput}
use Rattle.ipc_session.specs.declared.turned.Turned.{Turned}
use Rattle.ipc_session.specs.declared.turned.Turned.TheVariants.{On, Over}

-- the calls of a kernel port, where it tells them
abbrev pub Log : Type 0
Log = Option (List KernelCall)

-- all whole frames of these bytes were served, in order, each once; these bytes are left behind
-- them
pub record HasServed (old new : Log) (before : Stage) (bytes left : List ℕ) (after : Stage) (last : List KernelCall) : Type 0 where
  pub calls : List KernelCall
  pub tells : TellsMore old new (calls ++ last)
  pub serves : ServesAll (On before) (map heard_of (stream_of Server bytes).frames) calls (On after)
  pub rest : (stream_of Server bytes).end ≡ Rest left

-- what is heard next: what the next frame says, or want of memory for its call; else the fault of
-- the stream, or the end of the input inside a frame
abbrev pub IsNext : List Frame → End → Option (List ℕ) → Result Heard FrameFault → Type 0
IsNext (frame ∷ more) end input heard = HearsOf frame heard
IsNext [] (Stopped fault) input heard = heard ≡ Err fault
IsNext [] (Rest []) input heard = ⊥
IsNext [] (Rest (byte ∷ bytes)) input heard = (heard ≡ Err Unfinished) × IsAtEnd input

-- what was heard of a stream, where the connection ended by what was heard last; this is left of
-- the input
pub record HeardUpTo (stream : Stream) (input : Option (List ℕ)) (heard : List (Result Heard FrameFault)) : Type 0 where
  pub front : List Frame
  pub behind : Stream
  pub stream_is : stream ≡ put_front front behind
  pub last : Result Heard FrameFault
  pub is_next : IsNext behind.frames behind.end input last
  pub heard_is : heard ≡ map heard_of front ++ last ∷ []

-- the kernel port answered K7, and that was told
abbrev pub IsBusy : List KernelCall → Type 0
IsBusy calls =
    (front : List KernelCall) × (request : Request)
    × (calls ≡ front ++ Asks request (Refused Busy) ∷ Posts (frame.Fault of_kernel (refusal_number Busy)) ∷ [])

-- a fault was heard, and told by its number
abbrev pub IsFault : List (Result Heard FrameFault) → List KernelCall → Type 0
IsFault heard calls =
    (before : List (Result Heard FrameFault)) × (front : List KernelCall) × (fault : FrameFault)
    × (heard ≡ before ++ Err fault ∷ []) × (calls ≡ front ++ Posts (frame.Fault of_frame (fault_number fault)) ∷ [])

-- a frame was out of place, and S1 was told
abbrev pub IsOutOfPlace : List (Result Heard FrameFault) → List KernelCall → Type 0
IsOutOfPlace heard calls =
    (before : List (Result Heard FrameFault)) × (front : List KernelCall) × (other : Heard)
    × (heard ≡ before ++ Ok other ∷ []) × (calls ≡ front ++ Posts (frame.Fault of_session out_of_place) ∷ [])

-- why a connection ended so, by what was heard or asked last: a FAULT, K6, or BYE
abbrev pub IsCause : Ending → List (Result Heard FrameFault) → List KernelCall → Type 0
IsCause Protocol heard calls = IsBusy calls ⊎ (IsFault heard calls ⊎ IsOutOfPlace heard calls)
IsCause Gone heard calls = (front : List KernelCall) × (request : Request) × (calls ≡ front ++ Asks request (Refused NoThread) ∷ [])
IsCause Bye heard calls = (front : List (Result Heard FrameFault)) × (heard ≡ front ++ Ok said.Bye ∷ [])
IsCause _ heard calls = ⊥

-- what these bytes say was served, in order, each once, up to what ended the connection
pub record HasEnded (old new : Log) (before : Stage) (bytes : List ℕ) (input : Option (List ℕ)) (ending : Ending)
    (last : List KernelCall) : Type 0 where
  pub heard : List (Result Heard FrameFault)
  pub up_to : HeardUpTo (stream_of Server bytes) input heard
  pub calls : List KernelCall
  pub tells : TellsMore old new (calls ++ last)
  pub serves : ServesAll (On before) heard calls (Over ending)
  pub cause : IsCause ending heard calls

-- the frames that end in a piece were served: up to the end of the piece, or of the connection
abbrev pub ServesPiece : Log → Log → Stage → List ℕ → Option (List ℕ) → Decoding → Turned → Type 0
ServesPiece old new before bytes input decoder (On stage) =
    (left : List ℕ) × HasServed old new before bytes left stage [] × Holds decoder left
ServesPiece old new before bytes input decoder (Over ending) = HasEnded old new before bytes input ending []

-- a reader that read these bytes ends so: behind all whole frames, at the end of the input with
-- nothing left; or by what it heard or was told last
abbrev pub EndsSo : Ending → Log → Log → List ℕ → Option (List ℕ) → List KernelCall → Type 0
EndsSo Device old new bytes input last = (left : List ℕ) × (stage : Stage) × HasServed old new Greeting bytes left stage last
EndsSo Halted old new bytes input last = (left : List ℕ) × (stage : Stage) × HasServed old new Greeting bytes left stage last
EndsSo EndOfInput old new bytes input last = (stage : Stage) × HasServed old new Greeting bytes [] stage last
EndsSo ending old new bytes input last = HasEnded old new Greeting bytes input ending last

-- what a turn leaves: all whole frames of the bytes read so far were served, or the reader ended
-- by what it read
abbrev pub Leaves : Turned → Log → Log → List ℕ → Option (List ℕ) → Decoding → Type 0
Leaves (On stage) old new bytes input decoder =
    (left : List ℕ) × HasServed old new Greeting bytes left stage [] × Holds decoder left
Leaves (Over ending) old new bytes input decoder = EndsSo ending old new bytes input []

-- a reader: what is known of its input, the calls of its kernel port, what its decoder holds, and
-- how often its device has failed
pub record ReaderParts : Type 0 where
  pub input : Input
  pub log : Log
  pub decoder : Decoding
  pub failures : ℕ

-- by the bytes that came, those that are left, and so on
abbrev pub reader_of : Option (List ℕ) → Option (List ℕ) → Log → Decoding → ℕ → ReaderParts
reader_of came left log decoder failures =
    record { input = input_of came left; log = log; decoder = decoder; failures = failures }

-- what a reader has read and served from a beginning on, one more read included, before which its
-- device had failed so often. That read ends it for a failure of the device, at the end of the
-- input, or by what it heard
pub record HasRead (start : Input) (first : Log) (failures : ℕ) (reader : ReaderParts) (turned : Turned) : Type 0 where
  pub bytes : List ℕ
  pub gave : Gives start reader.input bytes
  pub leaves : Leaves turned first reader.log bytes reader.input.left reader.decoder
  pub device : turned ≡ Over Device → failures < reader.failures
  pub kept : (stage : Stage) → turned ≡ On stage → reader.failures ≡ failures
  pub ended : turned ≡ Over EndOfInput → IsAtEnd reader.input.left
  pub not_stopped : turned ≡ Over Halted → ⊥

-- one read, whatever was read and served before it
abbrev pub ReadsOn : ReaderParts → ReaderParts → Stage → Turned → Type 0
ReadsOn before after stage turned =
    (start : Input) → (first : Log) → (bytes left : List ℕ)
    → Gives start before.input bytes → Holds before.decoder left
    → HasServed first before.log Greeting bytes left stage []
    → HasRead start first before.failures after turned

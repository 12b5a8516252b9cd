-- Serving a piece of bytes on one connection, frame by frame.
use Rattle.std.specs.Prelude.{◌≡◌, ℕ, List, [], ◌∷◌, ◌++◌, Result, Ok, Err, ◌⊎◌, ⊤, Bool, true, false, drop}
use Rattle.ipc_frame.specs.Stream.{put_front, stream_of}
use Rattle.ipc_frame.specs.declared.fault.FrameFault.{FrameFault}
use Rattle.ipc_frame.specs.declared.fault.FrameFault.TheVariants as fault
use Rattle.ipc_frame.specs.declared.frame.Frame.{Frame}
use Rattle.ipc_frame.specs.declared.kind.Side.TheVariants.{Server}
use Rattle.ipc_connection.specs.Hearing.{heard_of, left_in}
use Rattle.ipc_connection.specs.Taking.{Decoding, Holds}
use Rattle.ipc_connection.specs.declared.heard.Heard.{Heard}
use Rattle.ipc_connection.specs.declared.stage.Stage.{Stage}
use Rattle.ipc_connection.specs.declared.stage.Stage.TheVariants.{Greeting, Serving, Finished}
use Rattle.ipc_exchange.specs.Service.{ServiceParts, connection_at}
use Rattle.ipc_exchange.specs.Serving.{Asked, Hears, MayLack, Serves, ServesAll}
use Rattle.ipc_exchange.specs.Rooms.{WantsRoom}

abbrev pub has_finished : Stage → Bool
has_finished Greeting = false
has_finished (Serving thread) = false
has_finished Finished = true

-- what was said is heard; or, in place of what wants room, that there is no memory
abbrev pub IsHeard : Result Heard FrameFault → Result Heard FrameFault → Type 0
IsHeard said heard = (heard ≡ said) ⊎ ((heard ≡ Err fault.NoMemory) × WantsRoom said)

-- and so it is served
pub record HearsOne (old : ServiceParts) (place : ℕ) (said : Result Heard FrameFault) (new : ServiceParts) : Type 0 where
  pub heard : Result Heard FrameFault
  pub is : IsHeard said heard
  pub asked : List Asked
  pub serves : Serves MayLack old place heard asked new

-- what a decoder holds for a connection at a stage; for one that has ended it may hold anything
abbrev pub HoldsFor : Stage → Decoding → List ℕ → Type 0
HoldsFor Finished decoder bytes = ⊤
HoldsFor Greeting decoder bytes = Holds decoder bytes
HoldsFor (Serving thread) decoder bytes = Holds decoder bytes

-- what the bytes held and a piece say is served, one after the other, and the decoder holds what is
-- left
pub record FeedsConnection (old : ServiceParts) (place : ℕ) (bytes piece : List ℕ)
    (new : ServiceParts) (decoder : Decoding) : Type 0 where
  pub heard : List (Result Heard FrameFault)
  pub hears : Hears MayLack (stream_of Server (bytes ++ piece)) heard
  pub asked : List Asked
  pub serves : ServesAll MayLack old place heard asked new
  pub holds : HoldsFor (connection_at new.connections place).stage decoder (left_in (stream_of Server (bytes ++ piece)).end)

-- the first frame of it is served, so many bytes of the piece are used, and the connection goes on
pub record FeedsFirst (old : ServiceParts) (place : ℕ) (bytes piece : List ℕ) (used : ℕ) (new : ServiceParts) : Type 0 where
  pub frame : Frame
  pub stream : stream_of Server (bytes ++ piece) ≡ put_front (frame ∷ []) (stream_of Server (drop used piece))
  pub heard : Heard
  pub says : heard_of frame ≡ Ok heard
  pub asked : List Asked
  pub serves : Serves MayLack old place (Ok heard) asked new

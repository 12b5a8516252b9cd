-- What holds of what is heard.
use Rattle.std.specs.Prelude.{◌≡◌, ◌⊎◌, ℕ, true, List, [], ◌∷◌, ◌++◌, Result, Ok, Err}
use Rattle.ipc_frame.specs.Stream.{End, Stream, stream_of, Rest, Stopped}
use Rattle.ipc_frame.specs.Frames.{spelling, kind_of, side_of, IsFrame}
use Rattle.ipc_frame.specs.declared.fault.FrameFault.{FrameFault}
use Rattle.ipc_frame.specs.declared.frame.Frame.{Frame}
use Rattle.ipc_frame.specs.declared.kind.Side.TheVariants.{Server}
use Rattle.ipc_connection.specs.Hearing.{IsCut, heard_in, heard_of}
use Rattle.ipc_connection.specs.Taking.{Decoding, Holds, MayLack, TakesUp}
use Rattle.ipc_connection.specs.declared.heard.Heard.{Heard}

-- where bytes end inside a frame, what is heard of them and a piece is what was heard, and then
-- what is heard of the rest with the piece
abbrev pub FramesAddUp : Type 0
FramesAddUp = (bytes rest piece : List ℕ)
    → (stream_of Server bytes).end ≡ Rest rest
    → (heard_in (stream_of Server (bytes ++ piece))
    ≡ heard_in (stream_of Server bytes) ++ heard_in (stream_of Server (rest ++ piece)))
    × ((stream_of Server (bytes ++ piece)).end ≡ (stream_of Server (rest ++ piece)).end)

-- a frame that is spelled is heard
abbrev pub FrameIsHeard : Type 0
FrameIsHeard = (f : Frame) → IsFrame f → side_of (kind_of f) ≡ Server
    → heard_in (stream_of Server (spelling f)) ≡ heard_of f ∷ []

-- what is heard up to the first fault
abbrev pub to_fault : List (Result Heard FrameFault) → List (Result Heard FrameFault)
to_fault [] = []
to_fault (Ok heard ∷ rest) = Ok heard ∷ to_fault rest
to_fault (Err fault ∷ rest) = Err fault ∷ []

-- all that is said up to the first fault was heard; or the first frames of it, and want of memory
-- in place of a call that may want it
abbrev pub IsHeardOf : Stream → List (Result Heard FrameFault) → Type 0
IsHeardOf stream heard = (heard ≡ to_fault (heard_in stream)) ⊎ IsCut MayLack stream heard

-- where a decoder stands after what it heard: it holds what is left, or it answered a fault
abbrev pub StandsAt : List (Result Heard FrameFault) → End → Decoding → Type 0
StandsAt [] (Rest bytes) decoder = Holds decoder bytes
StandsAt [] (Stopped fault) decoder = ⊥
StandsAt (Ok heard ∷ rest) end decoder = StandsAt rest end decoder
StandsAt (Err fault ∷ rest) end decoder = decoder.spent ≡ true

-- what is heard of a piece, call by call, is what it says behind the bytes held, however they are
-- cut
abbrev pub PieceIsHeard : Type 0
PieceIsHeard = (new : Decoding) (bytes piece : List ℕ) (heard : List (Result Heard FrameFault))
    → TakesUp bytes piece heard new
    → IsHeardOf (stream_of Server (bytes ++ piece)) heard
    × StandsAt heard (stream_of Server (bytes ++ piece)).end new

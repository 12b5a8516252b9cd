-- A decoder of what the server is sent: what it holds between two pieces, and what it hears of a
-- piece.
use Rattle.std.specs.Prelude.{◌≡◌, ◌⊎◌, ℕ, ◌-◌, ◌<◌, ◌≤◌, Bool, true, false, List, [], ◌∷◌, ◌++◌}
use Rattle.std.specs.Prelude.{length, drop, Option, Some, None, Result, Ok, Err, IsOk, IsTrue, ⊤}
use Rattle.ipc_frame.specs.Numbers.{IsBytes}
use Rattle.ipc_frame.specs.Reading.{Reading, Short, Bad, Whole, reading}
use Rattle.ipc_frame.specs.declared.fault.FrameFault.{FrameFault}
use Rattle.ipc_frame.specs.declared.fault.FrameFault.TheVariants.{NoMemory, Unfinished}
use Rattle.ipc_frame.specs.declared.frame.Frame.{Frame}
use Rattle.ipc_frame.specs.declared.frame.Frame.TheVariants.{Ipc}
use Rattle.ipc_frame.specs.declared.kind.Side.TheVariants.{Server}
use Rattle.ipc_connection.specs.CallOf.{call_of, has_time_point, asks_memory}
use Rattle.ipc_connection.specs.Hearing.{heard_of}
use Rattle.ipc_connection.specs.declared.heard.Heard.{Heard}

-- the bytes since the last whole frame, as far as they are kept; how many bytes of a payload were
-- counted off behind them, where there was no memory for it; whether a fault was answered
pub record Decoding : Type 0 where
  pub kept : List ℕ
  pub lost : ℕ
  pub spent : Bool

-- no fault was answered, and these are the bytes since the last whole frame
pub record Holds (decoder : Decoding) (bytes : List ℕ) : Type 0 where
  pub unspent : decoder.spent ≡ false
  pub gone : List ℕ
  pub counted : length gone ≡ decoder.lost
  pub are_bytes : IsBytes gone
  pub bytes_are : bytes ≡ decoder.kept ++ gone

-- no whole frame and no fault is shown
abbrev pub IsUnfinished : List ℕ → Type 0
IsUnfinished bytes = (wanted : ℕ) × (reading Server bytes ≡ Short wanted)

-- the answer where a frame that ends with so many bytes of the piece says this
abbrev pub answer_of : ℕ → Result Heard FrameFault → Result (ℕ × Option Heard) FrameFault
answer_of used (Ok heard) = Ok (used, Some heard)
answer_of used (Err fault) = Err fault

-- want of memory may be answered in place of what a frame says: for a call without a time point,
-- where there is a payload (its items aren't looked at then), or where its items have no fault
abbrev pub MayLack : Frame → Type 0
MayLack (Ipc ipc) =
    (has_time_point ipc ≡ false) × ((0 < length ipc.payload) ⊎ (IsOk (call_of ipc) × IsTrue (asks_memory ipc)))
MayLack _ = ⊥

-- after an answer nothing is held; after a fault nothing more is taken
abbrev pub StandsAfter : Decoding → Result (ℕ × Option Heard) FrameFault → Type 0
StandsAfter new (Ok answer) = Holds new []
StandsAfter new (Err fault) = new.spent ≡ true

-- a frame ends with so many bytes of the piece
pub record Ends (frame : Frame) (used : ℕ) (new : Decoding) (result : Result (ℕ × Option Heard) FrameFault) : Type 0 where
  pub answer : (result ≡ answer_of used (heard_of frame)) ⊎ ((result ≡ Err NoMemory) × MayLack frame)
  pub after : StandsAfter new result

-- by what the bytes held and the piece show: all of the piece is used; or there is a fault; or a
-- frame ends in it
abbrev pub TakesBy : Reading → List ℕ → List ℕ → Decoding → Result (ℕ × Option Heard) FrameFault → Type 0
TakesBy (Short wanted) bytes piece new result = (result ≡ Ok (length piece, None)) × Holds new (bytes ++ piece)
TakesBy (Bad fault) bytes piece new result = (result ≡ Err fault) × (new.spent ≡ true)
TakesBy (Whole frame size) bytes piece new result =
    (length bytes ≤ size) × Ends frame (size - length bytes) new result

-- a decoder that holds these bytes is given a piece
unfoldable pub Takes : List ℕ → List ℕ → Decoding → Result (ℕ × Option Heard) FrameFault → Type 0
Takes bytes piece new result = TakesBy (reading Server (bytes ++ piece)) bytes piece new result

-- the end of the input: nothing happens where no bytes are held; else it ends inside a frame
abbrev pub Finishes : List ℕ → Decoding → Decoding → Result ⊤ FrameFault → Type 0
Finishes [] old new result = (result ≡ Ok tt) × (new ≡ old)
Finishes (byte ∷ bytes) old new result = (result ≡ Err Unfinished) × (new.spent ≡ true)

-- what the calls of `take` hear of a piece behind the bytes held, each given what the one before
-- left of it: until all of it is used, or a fault comes
pub data TakesUp : List ℕ → List ℕ → List (Result Heard FrameFault) → Decoding → Type 0 where
  uses_up : (new : Decoding) (bytes piece : List ℕ)
      → Takes bytes piece new (Ok (length piece, None))
      → TakesUp bytes piece [] new
  hears : (between new : Decoding) (bytes piece : List ℕ) (used : ℕ) (heard : Heard) (rest : List (Result Heard FrameFault))
      → Takes bytes piece between (Ok (used, Some heard))
      → TakesUp [] (drop used piece) rest new
      → TakesUp bytes piece (Ok heard ∷ rest) new
  fails : (new : Decoding) (bytes piece : List ℕ) (fault : FrameFault)
      → Takes bytes piece new (Err fault)
      → TakesUp bytes piece (Err fault ∷ []) new

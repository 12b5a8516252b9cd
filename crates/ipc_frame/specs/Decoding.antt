-- What decoding answers.
use Rattle.std.specs.Prelude.{◌≡◌, ℕ, ◌+◌, Bool, true, false, ◌≤◌, ◌<◌, List, ◌++◌, length, drop}
use Rattle.std.specs.Prelude.{sum, Option, Some, None, Result, Ok, Err, ◌⊎◌}
use Rattle.ipc_frame.specs.declared.fault.FrameFault.{FrameFault}
use Rattle.ipc_frame.specs.declared.fault.FrameFault.TheVariants.{Unfinished, NoMemory}
use Rattle.ipc_frame.specs.declared.kind.FrameKind.{FrameKind}
use Rattle.ipc_frame.specs.declared.kind.Side.{Side}
use Rattle.ipc_frame.specs.declared.frame.Frame.{Frame}
use Rattle.ipc_frame.specs.Frames.{kind_of, widths, size_of, HasTail}
use Rattle.ipc_frame.specs.declared.version.CallEnd.{CallEnd}
use Rattle.ipc_frame.specs.Parts.{end_size}
use Rattle.ipc_frame.specs.Reading.{Reading, Short, Bad, Whole, is_longer, frame_of, ipcr_in}
use Rattle.ipc_frame.specs.Stream.{Stream, Rest, Stopped, put_front, stream_of}

-- F9 for a prefix that shows no fault, the fault that it shows, or the frame and its length; F14
-- only for IPC and IPCR, which alone take memory
abbrev pub Decodes : Reading → Result (Frame × ℕ) FrameFault → Type 0
Decodes (Short wanted) result = result ≡ Err Unfinished
Decodes (Bad fault) result = result ≡ Err fault
Decodes (Whole f size) result = (result ≡ Ok (f, size)) ⊎ ((result ≡ Err NoMemory) × (is_longer (kind_of f) ≡ true))

-- the same where no growth was refused
abbrev pub decoded_of : Reading → Result (Frame × ℕ) FrameFault
decoded_of (Short wanted) = Err Unfinished
decoded_of (Bad fault) = Err fault
decoded_of (Whole f size) = Ok (f, size)

-- numbers and what comes after them make a frame within the limits
pub record MakesFrame (kind : FrameKind) (fields tail : List ℕ) (f : Frame) : Type 0 where
  pub made : frame_of kind fields tail ≡ Some f
  pub has : HasTail f
  pub size : size_of f ≡ 1 + (sum (widths kind) + length tail)

-- the same of an IPCR, of its numbers from the tag on
pub record MakesIpcr (end : Option CallEnd) (fields tail : List ℕ) (f : Frame) : Type 0 where
  pub made : ipcr_in end fields tail ≡ Some f
  pub has : HasTail f
  pub size : size_of f ≡ 33 + end_size end + length tail

-- a decoder: who reads, the bytes behind the last whole frame, and whether it has answered a fault
pub record Decoding : Type 0 where
  pub side : Side
  pub bytes : List ℕ
  pub is_spent : Bool

-- the frames so far and the bytes left are those of a stream
abbrev pub stream_at : List Frame → List ℕ → Stream
stream_at frames bytes = record { frames = frames; end = Rest bytes }

-- the stream stops at a fault behind the frames
abbrev pub StopsFor : Stream → List Frame → FrameFault → Type 0
StopsFor stream frames fault = stream ≡ record { frames = frames; end = Stopped fault }

-- the same, or memory was refused and it has them in front
abbrev pub StopsAt : Stream → List Frame → FrameFault → Type 0
StopsAt stream frames fault =
    StopsFor stream frames fault
    ⊎ ((fault ≡ NoMemory) × ((others : List Frame) × (stream.frames ≡ frames ++ others)))

-- after a piece: the stream's frames and what is left of it, or its fault
abbrev pub Feeds : Stream → List Frame → Decoding → Result (Unit {0}) FrameFault → Type 0
Feeds stream frames decoder (Ok done) = (stream ≡ stream_at frames decoder.bytes) × (decoder.is_spent ≡ false)
Feeds stream frames decoder (Err fault) = StopsAt stream frames fault × (decoder.is_spent ≡ true)

-- one step over bytes: their first frame is taken behind the others, or there is no whole one
abbrev pub TakesFrame : Side → List ℕ → Stream → List Frame → Result (Option ℕ) FrameFault → Type 0
TakesFrame side bytes stream frames (Ok None) = stream ≡ stream_at frames bytes
TakesFrame side bytes stream frames (Ok (Some n)) =
    (stream ≡ put_front frames (stream_of side (drop n bytes))) × (0 < n) × (n ≤ length bytes)
TakesFrame side bytes stream frames (Err fault) = StopsAt stream frames fault

-- all steps: the frames, and where the next one would begin
abbrev pub Unreads : Stream → List Frame → List ℕ → Result ℕ FrameFault → Type 0
Unreads stream frames bytes (Ok used) = (stream ≡ stream_at frames (drop used bytes)) × (used ≤ length bytes)
Unreads stream frames bytes (Err fault) = StopsAt stream frames fault

-- The bytes that a decoder holds of a frame, and what filling them up with a piece does.
use Rattle.std.specs.Prelude.{◌≡◌, ◌⊎◌, ℕ, ◌+◌, ◌*◌, ◌≤◌, Bool, true, false, min, List, [], ◌++◌}
use Rattle.std.specs.Prelude.{length, take, drop, slice_index, Result, Ok, Err, ◌==◌, if◌then◌else◌}
use Rattle.ipc_words.specs.Limits.{max_buffer_words, max_message_words}
use Rattle.ipc_frame.specs.Numbers.{IsBytes, number_in, words_in}
use Rattle.ipc_frame.specs.Parts.{IpcParts, words_of}
use Rattle.ipc_frame.specs.Reading.{Reading, Short, Bad, Whole, reading, Tells}
use Rattle.ipc_frame.specs.declared.fault.FrameFault.{FrameFault}
use Rattle.ipc_frame.specs.declared.judging.Judgement.{Judgement}
use Rattle.ipc_frame.specs.declared.kind.Side.TheVariants.{Server}
use Rattle.ipc_frame.specs.declared.fault.FrameFault.TheVariants.{NoMemory}
use Rattle.ipc_frame.specs.declared.frame.Frame.{Frame}
use Rattle.ipc_frame.specs.declared.frame.Frame.TheVariants as frame
use Rattle.ipc_frame.specs.declared.version.WireVersion.{WireVersion}
use Rattle.ipc_frame.specs.declared.version.WireVersion.TheVariants.{One, Two}
use Rattle.ipc_connection.specs.Hearing.{heard_of}
use Rattle.ipc_connection.specs.Taking.{MayLack}
use Rattle.ipc_connection.specs.declared.calls.IpcHead.{IpcHead}
use Rattle.ipc_connection.specs.declared.heard.Heard.{Heard}

-- bytes that are kept, and how many of a payload were counted off behind them
pub record Kept : Type 0 where
  pub bytes : List ℕ
  pub lost : ℕ

-- bytes that may have been counted off
pub record AreGone (held : Kept) (gone : List ℕ) : Type 0 where
  pub counted : length gone ≡ held.lost
  pub are_bytes : IsBytes gone

-- whatever was counted off
abbrev pub ForGone : Kept → (List ℕ → Type 0) → Type 0
ForGone held P = (gone : List ℕ) → AreGone held gone → P (held.bytes ++ gone)

-- these are the bytes kept and those counted off
pub record HoldsIn (held : Kept) (bytes : List ℕ) : Type 0 where
  pub gone : List ℕ
  pub are_gone : AreGone held gone
  pub bytes_are : bytes ≡ held.bytes ++ gone

-- the most bytes of an IPC frame before its payload: the head, the words and the buffer words
abbrev pub max_start : ℕ
max_start = 50 + 8 * (max_message_words + max_buffer_words)

-- how many bytes of an IPC frame come before its payload, as its first 50 bytes say
abbrev pub start_size : List ℕ → ℕ
start_size head = min (50 + 8 * (words_of (number_in 8 (drop 33 head)) + slice_index head 49)) max_start

-- bytes from the front of some are kept, or counted off
abbrev pub Keeps : Kept → List ℕ → Kept → Type 0
Keeps old more new =
    ((old.lost ≡ 0) × (new.lost ≡ 0) × (new.bytes ≡ old.bytes ++ more))
    ⊎ ((new.bytes ≡ old.bytes) × (new.lost ≡ old.lost + length more))

-- by what the bytes and the piece show: all of the piece is taken; or there is a fault; or the
-- frame's bytes are held
abbrev pub Fills : Reading → List ℕ → List ℕ → Kept → Result (ℕ × Bool) FrameFault → Type 0
Fills (Short wanted) old piece new result = (result ≡ Ok (length piece, false)) × HoldsIn new (old ++ piece)
Fills (Bad fault) old piece new result = result ≡ Err fault
Fills (Whole f n) old piece new result =
    (used : ℕ) × (result ≡ Ok (used, true)) × (length old + used ≡ n)
    × HoldsIn new (take n (old ++ piece)) × (reading Server (take n (old ++ piece)) ≡ Whole f n)

abbrev pub FillsUp : List ℕ → List ℕ → Kept → Result (ℕ × Bool) FrameFault → Type 0
FillsUp old piece new result = Fills (reading Server (old ++ piece)) old piece new result

-- bytes that are a whole frame
abbrev pub IsWhole : List ℕ → Frame → Type 0
IsWhole bytes f = reading Server bytes ≡ Whole f (length bytes)

-- the judgement of the bytes
abbrev pub TellsOf : Judgement → List ℕ → Type 0
TellsOf judgement bytes = Tells judgement (reading Server bytes)

-- the numbers of an IPC frame, by their places
abbrev pub head_in : List ℕ → IpcHead
head_in start = record {
  to = number_in 8 (drop 5 start);
  from = number_in 8 (drop 13 start);
  timeouts = number_in 4 (drop 21 start);
  originator = number_in 8 (drop 25 start);
  tag = number_in 8 (drop 33 start);
  acceptor = number_in 8 (drop 41 start);
}

-- an IPC frame, whose numbers and words are these bytes, with its payload behind them
pub record IpcAt (start rest : List ℕ) (ipc : IpcParts) : Type 0 where
  pub kind : slice_index start 4 ≡ 2
  pub size : length start ≡ 50 + 8 * (words_of ipc.tag + length ipc.buffer_words)
  pub to : ipc.to ≡ number_in 8 (drop 5 start)
  pub from : ipc.from ≡ number_in 8 (drop 13 start)
  pub timeouts : ipc.timeouts ≡ number_in 4 (drop 21 start)
  pub originator : ipc.originator ≡ number_in 8 (drop 25 start)
  pub tag : ipc.tag ≡ number_in 8 (drop 33 start)
  pub acceptor : ipc.acceptor ≡ number_in 8 (drop 41 start)
  pub buffer_count : slice_index start 49 ≡ length ipc.buffer_words
  pub words : words_in (words_of ipc.tag) (drop 50 start) ≡ ipc.words
  pub buffer_words : words_in (length ipc.buffer_words) (drop (8 * words_of ipc.tag) (drop 50 start)) ≡ ipc.buffer_words
  pub payload : rest ≡ ipc.payload
  pub few_words : words_of ipc.tag ≤ max_message_words
  pub few_buffer_words : length ipc.buffer_words ≤ max_buffer_words

-- the version of a HELLO of so many bytes
abbrev pub version_at : ℕ → WireVersion
version_at size = (if size == 9 then Two else One)

-- the frame that bytes are, a payload apart
abbrev pub FrameAt : List ℕ → List ℕ → Frame → Type 0
FrameAt start rest (frame.Hello number version) =
    (slice_index start 4 ≡ 1) × (7 ≤ length start) × (rest ≡ []) × (number ≡ number_in 2 (drop 5 start))
    × (version ≡ version_at (length start))
FrameAt start rest (frame.Ipc ipc) = IpcAt start rest ipc
FrameAt start rest (frame.Exreg target control) =
    (slice_index start 4 ≡ 3) × (21 ≤ length start) × (rest ≡ [])
    × (target ≡ number_in 8 (drop 5 start)) × (control ≡ number_in 8 (drop 13 start))
FrameAt start rest frame.Bye = (slice_index start 4 ≡ 4) × (5 ≤ length start) × (rest ≡ [])
FrameAt start rest _ = ⊥

-- what a frame says, or want of memory in its place
abbrev pub HearsOf : Frame → Result Heard FrameFault → Type 0
HearsOf frame result = (result ≡ heard_of frame) ⊎ ((result ≡ Err NoMemory) × MayLack frame)

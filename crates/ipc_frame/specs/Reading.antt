-- What the bytes of a stream show of its first frame, and when: each test is made as soon as the
-- bytes that it looks at are there.
use Rattle.std.specs.Prelude.{◌≡◌, ℕ, zero, suc, ◌+◌, ◌-◌, ◌*◌, ◌==◌, ◌||◌, ◌&&◌, Bool, true, false}
use Rattle.std.specs.Prelude.{not, nat_lt, List, [], ◌∷◌, length, take, drop, slice_index, sum}
use Rattle.std.specs.Prelude.{Option, Some, None, option_map, if◌then◌else◌}
use Rattle.ipc_words.specs.Limits.{max_message_words, max_buffer_words, max_frame_body}
use Rattle.ipc_items.specs.Pieces.{PlacedBytes}
use Rattle.ipc_frame.specs.declared.fault.FrameFault.{FrameFault}
use Rattle.ipc_frame.specs.declared.fault.FrameFault.TheVariants.{TooLong, UnknownKind, WrongSize, TooManyWords, UnknownVersion}
use Rattle.ipc_frame.specs.declared.kind.FrameKind.{FrameKind}
use Rattle.ipc_frame.specs.declared.kind.FrameKind.TheVariants.{Hello, HelloTwo, Ipc, Exreg, Bye, Welcome, Ipcr, Exregr, Refused, Fault, ExregrTwo}
use Rattle.ipc_frame.specs.declared.kind.Side.{Side}
use Rattle.ipc_frame.specs.declared.judging.Judgement.{Judgement}
use Rattle.ipc_frame.specs.declared.judging.Judgement.TheVariants as judged
use Rattle.ipc_frame.specs.declared.frame.Frame.{Frame}
use Rattle.ipc_frame.specs.declared.frame.Frame.TheVariants as frame
use Rattle.ipc_frame.specs.declared.version.CallEnd.{CallEnd}
use Rattle.ipc_frame.specs.declared.version.WireVersion.TheVariants.{One}
use Rattle.ipc_frame.specs.Versions.{end_count, end_in, version_of}
use Rattle.ipc_frame.specs.Numbers.{number_in, fields_in, words_in}
use Rattle.ipc_frame.specs.Parts.{IpcParts, IpcrParts, words_of}
use Rattle.ipc_frame.specs.Frames.{kind_byte, kinds, widths}

-- nothing before so many more bytes are there; a fault; a frame, and how many bytes it takes
pub data Reading : Type 0 where
  Short : ℕ → Reading
  Bad : FrameFault → Reading
  Whole : Frame → ℕ → Reading

-- as soon as so many bytes are there: these bytes, and those behind them
abbrev pub once : ℕ → List ℕ → (List ℕ → List ℕ → Reading) → Reading
once count bytes next =
    if nat_lt (length bytes) count then Short (count - length bytes)
    else next (take count bytes) (drop count bytes)

-- a fault where a test says so
abbrev pub bad_if : Bool → FrameFault → Reading → Reading
bad_if true fault reading = Bad fault
bad_if false fault reading = reading

-- the kind of a byte, among those that a side reads
abbrev pub kind_among : List FrameKind → ℕ → Option FrameKind
kind_among [] byte = None
kind_among (kind ∷ kinds) byte = (if kind_byte kind == byte then Some kind else kind_among kinds byte)

-- the kind of a body of this length: a HELLO of five bytes names its version
abbrev pub kind_with : FrameKind → ℕ → FrameKind
kind_with Hello size = (if size == 5 then HelloTwo else Hello)
kind_with kind size = kind

-- the kind of a byte and a body length
abbrev pub kind_in : Side → ℕ → ℕ → Option FrameKind
kind_in side size byte = option_map (λ kind. kind_with kind size) (kind_among (kinds side) byte)

-- the body length of a kind; the least one of IPC and IPCR
abbrev pub least_size : FrameKind → ℕ
least_size Hello = 3
least_size HelloTwo = 5
least_size Ipc = 46
least_size Exreg = 17
least_size Bye = 1
least_size Welcome = 9
least_size (Ipcr version) = 34 + 8 * end_count version
least_size Exregr = 25
least_size Refused = 2
least_size Fault = 3
least_size ExregrTwo = 33

abbrev pub is_longer : FrameKind → Bool
is_longer Ipc = true
is_longer (Ipcr version) = true
is_longer _ = false

-- a kind doesn't have this body length
abbrev pub is_wrong_size : FrameKind → ℕ → Bool
is_wrong_size kind size = nat_lt size (least_size kind) || (not (is_longer kind) && nat_lt (least_size kind) size)

-- the numbers after the kind: IPC has the tag in place 4 and b in place 6, IPCR the tag behind the
-- words of its version
abbrev pub has_too_many_words : FrameKind → List ℕ → Bool
has_too_many_words Ipc fields =
    nat_lt max_message_words (words_of (slice_index fields 4))
    || nat_lt max_buffer_words (slice_index fields 6)
has_too_many_words (Ipcr version) fields = nat_lt max_message_words (words_of (slice_index fields (end_count version)))
has_too_many_words _ fields = false

-- the tag of an IPCR
abbrev pub tag_in : FrameKind → List ℕ → ℕ
tag_in (Ipcr version) fields = slice_index fields (end_count version)
tag_in kind fields = slice_index fields 0

-- the kinds of an IPCR, with its pieces behind its words
abbrev pub is_pieced : FrameKind → Bool
is_pieced (Ipcr version) = true
is_pieced _ = false

-- the body length that their words ask for at least
abbrev pub least_size_with : FrameKind → List ℕ → ℕ
least_size_with Ipc fields = 46 + 8 * words_of (slice_index fields 4) + 8 * slice_index fields 6
least_size_with (Ipcr version) fields = 34 + 8 * end_count version + 8 * words_of (slice_index fields (end_count version))
least_size_with kind fields = least_size kind

-- pieces that end with the bytes
abbrev pub pieces_in : ℕ → List ℕ → Option (List PlacedBytes)
pieces_in zero bytes = (if length bytes == 0 then Some [] else None)
pieces_in (suc count) bytes =
    let size = number_in 4 (drop 8 bytes) in
    if nat_lt (length bytes) (12 + size) then None
    else option_map
    (λ pieces. record { pointer = number_in 8 bytes; bytes = take size (drop 12 bytes) } ∷ pieces)
    (pieces_in count (drop (12 + size) bytes))

abbrev pub ipc_parts : List ℕ → List ℕ → IpcParts
ipc_parts fields tail =
    let count = words_of (slice_index fields 4) in
    record {
      to = slice_index fields 0;
      from = slice_index fields 1;
      timeouts = slice_index fields 2;
      originator = slice_index fields 3;
      tag = slice_index fields 4;
      acceptor = slice_index fields 5;
      words = words_in count tail;
      buffer_words = words_in (slice_index fields 6) (drop (8 * count) tail);
      payload = drop (8 * slice_index fields 6) (drop (8 * count) tail);
    }

-- of the numbers from the tag on
abbrev pub ipcr_parts : Option CallEnd → List ℕ → List ℕ → List PlacedBytes → IpcrParts
ipcr_parts end fields tail pieces = record {
  end = end;
  tag = slice_index fields 0;
  sender = slice_index fields 1;
  actual = slice_index fields 2;
  error = slice_index fields 3;
  words = words_in (words_of (slice_index fields 0)) tail;
  pieces = pieces;
}

abbrev pub ipcr_in : Option CallEnd → List ℕ → List ℕ → Option Frame
ipcr_in end fields tail =
    let rest = drop (8 * words_of (slice_index fields 0)) tail in
    option_map (λ pieces. frame.Ipcr (ipcr_parts end fields tail pieces)) (pieces_in (number_in 1 rest) (drop 1 rest))

-- the frame of a kind, of its numbers and what comes after them; none where pieces don't end there,
-- or a version is not there
abbrev pub frame_of : FrameKind → List ℕ → List ℕ → Option Frame
frame_of Hello fields tail = Some (frame.Hello (slice_index fields 0) One)
frame_of HelloTwo fields tail = option_map (frame.Hello (slice_index fields 0)) (version_of (slice_index fields 1))
frame_of Ipc fields tail = Some (frame.Ipc (ipc_parts fields tail))
frame_of Exreg fields tail = Some (frame.Exreg (slice_index fields 0) (slice_index fields 1))
frame_of Bye fields tail = Some frame.Bye
frame_of Welcome fields tail = Some (frame.Welcome (slice_index fields 0))
frame_of (Ipcr version) fields tail = ipcr_in (end_in version fields) (drop (end_count version) fields) tail
frame_of Exregr fields tail = Some (frame.Exregr (slice_index fields 0) (slice_index fields 1) (slice_index fields 2) None)
frame_of Refused fields tail = Some (frame.Refused (slice_index fields 0))
frame_of Fault fields tail = Some (frame.Fault (slice_index fields 0) (slice_index fields 1))
frame_of ExregrTwo fields tail =
    Some (frame.Exregr (slice_index fields 1) (slice_index fields 2) (slice_index fields 3) (Some (slice_index fields 0)))

-- what is wrong where there is none
abbrev pub missing : FrameKind → FrameFault
missing HelloTwo = UnknownVersion
missing kind = WrongSize

-- the body is whole: F3 for pieces that don't end with it, F15 for another version
abbrev pub whole_if : FrameFault → ℕ → Option Frame → Reading
whole_if fault size None = Bad fault
whole_if fault size (Some frame) = Whole frame (4 + size)

unfoldable pub body_known : FrameKind → ℕ → List ℕ → List ℕ → Reading
body_known kind size fields tail = whole_if (missing kind) size (frame_of kind fields tail)

-- the numbers after the kind are there: F4, and F3 for a body that is too short for its words and
-- its count byte
unfoldable pub fields_known : FrameKind → ℕ → List ℕ → List ℕ → Reading
fields_known kind size fields rest =
    bad_if (has_too_many_words kind fields) TooManyWords (
    bad_if (nat_lt size (least_size_with kind fields)) WrongSize (
    once (size - (1 + sum (widths kind))) rest (λ tail behind. body_known kind size fields tail)))

-- the kind byte is there: F2, and F3 for a kind with a body length that it doesn't have
unfoldable pub kind_known : ℕ → Option FrameKind → List ℕ → Reading
kind_known size None rest = Bad UnknownKind
kind_known size (Some kind) rest =
    bad_if (is_wrong_size kind size) WrongSize (
    once (sum (widths kind)) rest (λ head behind. fields_known kind size (fields_in (widths kind) head) behind))

-- the four length bytes are there: F1, and F3 for a body length of 0
unfoldable pub size_known : Side → ℕ → List ℕ → Reading
size_known side size rest =
    bad_if (nat_lt max_frame_body size) TooLong (
    bad_if (size == 0) WrongSize (
    once 1 rest (λ kind behind. kind_known size (kind_in side size (number_in 1 kind)) behind)))

-- what bytes show of the frame that they begin with
unfoldable pub reading : Side → List ℕ → Reading
reading side bytes = once 4 bytes (λ size behind. size_known side (number_in 4 size) behind)

-- the fault of the numbers after the kind
abbrev pub words_fault : FrameKind → ℕ → List ℕ → Option FrameFault
words_fault kind size fields =
    (if has_too_many_words kind fields then Some TooManyWords
    else if nat_lt size (least_size_with kind fields) then Some WrongSize
    else None)

-- what is told of bytes, without the frame
abbrev pub Tells : Judgement → Reading → Type 0
Tells (judged.Short wanted) reading = reading ≡ Short wanted
Tells (judged.Bad fault) reading = reading ≡ Bad fault
Tells (judged.Whole) reading = (f : Frame) × ((n : ℕ) × (reading ≡ Whole f n))

-- a judgement of bytes, whatever so many bytes behind them are
abbrev pub TellsBefore : Judgement → ℕ → (List ℕ → Reading) → Type 0
TellsBefore judgement behind reading = (more : List ℕ) → length more ≡ behind → Tells judgement (reading more)

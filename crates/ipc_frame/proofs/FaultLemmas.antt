-- The faults that bytes can show are those of a frame's form.
use Rattle.std.proofs.Common.{◌≡◌, ℕ, ◌+◌, ◌-◌, ◌==◌, sum, List, Option, Some, None, Bool, true, false, inl, inr, length, take, drop, subst, nat_lt}
use Rattle.std.proofs.lemmas.Bool.{cases_Bool}
use Rattle.ipc_frame.specs.declared.fault.FrameFault.{FrameFault}
use Rattle.ipc_frame.specs.declared.fault.FrameFault.TheVariants as fault
use Rattle.ipc_frame.specs.declared.frame.Frame.{Frame}
use Rattle.ipc_frame.specs.declared.kind.FrameKind.{FrameKind}
use Rattle.ipc_frame.specs.declared.kind.FrameKind.TheVariants.{Hello, HelloTwo, Ipc, Exreg, Bye, Welcome, Ipcr, Exregr, Refused, Fault, ExregrTwo}
use Rattle.ipc_frame.specs.declared.kind.Side.{Side}
use Rattle.ipc_frame.specs.Reading.{Reading, Short, Bad, Whole, once, bad_if, whole_if, body_known, fields_known, kind_known, size_known, reading, kind_in, is_wrong_size, has_too_many_words, least_size_with, frame_of, missing}
use Rattle.ipc_frame.specs.Frames.{widths}
use Rattle.ipc_frame.specs.Numbers.{number_in, fields_in}
use Rattle.ipc_words.specs.Limits.{max_frame_body}

-- F1 to F4 and F15
abbrev pub IsFormatFault : FrameFault → Type 0
IsFormatFault fault.TooLong = Unit {0}
IsFormatFault fault.UnknownKind = Unit {0}
IsFormatFault fault.WrongSize = Unit {0}
IsFormatFault fault.TooManyWords = Unit {0}
IsFormatFault fault.UnknownVersion = Unit {0}
IsFormatFault _ = ⊥

abbrev Formats : Reading → Type 0
Formats (Short wanted) = Unit {0}
Formats (Bad shown) = IsFormatFault shown
Formats (Whole frame size) = Unit {0}

once_formats : (count : ℕ) (bytes : List ℕ) (next : List ℕ → List ℕ → Reading) → ((front behind : List ℕ) → Formats (next front behind)) → Formats (once count bytes next)
once_formats count bytes next h = elim (cases_Bool (nat_lt (length bytes) count)) [
  | inl here ↦ rw here tt
  | inr other ↦ rw other (h (take count bytes) (drop count bytes))
]

bad_if_formats : (test : Bool) (shown : FrameFault) (next : Reading) → IsFormatFault shown → Formats next → Formats (bad_if test shown next)
bad_if_formats true shown next h k = h
bad_if_formats false shown next h k = k

whole_if_formats : (shown : FrameFault) (size : ℕ) (o : Option Frame) → IsFormatFault shown → Formats (whole_if shown size o)
whole_if_formats shown size None h = h
whole_if_formats shown size (Some f) h = tt

missing_formats : (kind : FrameKind) → IsFormatFault (missing kind)
missing_formats Hello = tt
missing_formats HelloTwo = tt
missing_formats Ipc = tt
missing_formats Exreg = tt
missing_formats Bye = tt
missing_formats Welcome = tt
missing_formats (Ipcr version) = tt
missing_formats Exregr = tt
missing_formats Refused = tt
missing_formats Fault = tt
missing_formats ExregrTwo = tt

fields_format : (kind : FrameKind) (size : ℕ) (fields rest : List ℕ) → Formats (fields_known kind size fields rest)
unfolding fields_known body_known
fields_format kind size fields rest =
    let tail : Reading = once (size - (1 + sum (widths kind))) rest (λ tail behind. whole_if (missing kind) size (frame_of kind fields tail)) in
    let long : Bool = nat_lt size (least_size_with kind fields) in
    bad_if_formats (has_too_many_words kind fields) fault.TooManyWords (bad_if long fault.WrongSize tail) tt (
    bad_if_formats long fault.WrongSize tail tt (
    once_formats (size - (1 + sum (widths kind))) rest (λ tail behind. whole_if (missing kind) size (frame_of kind fields tail)) (λ tail behind. whole_if_formats (missing kind) size (frame_of kind fields tail) (missing_formats kind))))

kind_formats : (size : ℕ) (o : Option FrameKind) (rest : List ℕ) → Formats (kind_known size o rest)
unfolding kind_known
kind_formats size None rest = tt
kind_formats size (Some kind) rest =
    bad_if_formats (is_wrong_size kind size) fault.WrongSize (once (sum (widths kind)) rest (λ head behind. fields_known kind size (fields_in (widths kind) head) behind)) tt (
    once_formats (sum (widths kind)) rest (λ head behind. fields_known kind size (fields_in (widths kind) head) behind) (λ head behind. fields_format kind size (fields_in (widths kind) head) behind))

size_formats : (side : Side) (size : ℕ) (rest : List ℕ) → Formats (size_known side size rest)
unfolding size_known
size_formats side size rest =
    let next : List ℕ → List ℕ → Reading = λ kind behind. kind_known size (kind_in side size (number_in 1 kind)) behind in
    bad_if_formats (nat_lt max_frame_body size) fault.TooLong (bad_if (size == 0) fault.WrongSize (once 1 rest next)) tt (
    bad_if_formats (size == 0) fault.WrongSize (once 1 rest next) tt (
    once_formats 1 rest next (λ kind behind. kind_formats size (kind_in side size (number_in 1 kind)) behind)))

reading_formats : (side : Side) (bytes : List ℕ) → Formats (reading side bytes)
unfolding reading
reading_formats side bytes = once_formats 4 bytes (λ size behind. size_known side (number_in 4 size) behind) (λ size behind. size_formats side (number_in 4 size) behind)

pub bad_formats : (side : Side) (bytes : List ℕ) (shown : FrameFault) → reading side bytes ≡ Bad shown → IsFormatFault shown
bad_formats side bytes shown bad = subst Formats bad (reading_formats side bytes)

-- A frame that isn't whole wants no more bytes than the longest frame has.
use Rattle.std.proofs.Common.{◌≡◌, ◌⊎◌, inl, inr, ℕ, ◌+◌, ◌-◌, ◌<◌, ◌≤◌, ◌^◌, ◌==◌, ◌||◌, Bool, true, false, List, length, take, drop, sum, nat_lt, Option, Some, None, refl, arith, length-drop}
use Rattle.std.proofs.lemmas.Bool.{cases_lt, lt-ltb, le-ltb, ltb-false}
use Rattle.ipc_words.specs.Limits.{max_frame_body}
use Rattle.ipc_frame.specs.declared.fault.FrameFault.{FrameFault}
use Rattle.ipc_frame.specs.declared.kind.FrameKind.{FrameKind}
use Rattle.ipc_frame.specs.declared.kind.Side.{Side}
use Rattle.ipc_frame.specs.declared.frame.Frame.{Frame}
use Rattle.ipc_frame.specs.Numbers.{number_in, fields_in}
use Rattle.ipc_frame.specs.Frames.{widths}
use Rattle.ipc_frame.specs.Reading.{Reading, Short, once, bad_if, kind_in, is_wrong_size, least_size, has_too_many_words, least_size_with, whole_if, body_known, fields_known, kind_known, size_known, reading}
use Rattle.ipc_frame.proofs.FoundLemmas.{least_is_head}

once_short : (count : ℕ) (bytes : List ℕ) (next : List ℕ → List ℕ → Reading) (wanted : ℕ) → once count bytes next ≡ Short wanted → ((length bytes < count) × (length bytes + wanted ≡ count)) ⊎ ((count ≤ length bytes) × (next (take count bytes) (drop count bytes) ≡ Short wanted))
once_short count bytes next wanted e = elim (cases_lt (length bytes) count) [
  | inl short ↦
      let t : nat_lt (length bytes) count ≡ true = lt-ltb (length bytes) count short in
      let e2 = rw t at e in
      let is : count - length bytes ≡ wanted = cc in
      inl (short, omega arith)
  | inr there ↦ let t : nat_lt (length bytes) count ≡ false = le-ltb (length bytes) count there in inr (there, rw t at e)
]

bad_if_short : (test : Bool) (fault : FrameFault) (next : Reading) (wanted : ℕ) → bad_if test fault next ≡ Short wanted → (test ≡ false) × (next ≡ Short wanted)
bad_if_short true fault next wanted e = absurd (cc)
bad_if_short false fault next wanted e = (refl, e)

whole_if_not : (fault : FrameFault) (size : ℕ) (o : Option Frame) (wanted : ℕ) → whole_if fault size o ≡ Short wanted → ⊥
whole_if_not fault size None wanted e = cc
whole_if_not fault size (Some f) wanted e = cc

either : (a b : Bool) → (a || b) ≡ false → a ≡ false
either false b h = refl
either true b h = absurd (cc)

fields_short : (kind : FrameKind) (size : ℕ) (fields rest : List ℕ) (wanted : ℕ) → fields_known kind size fields rest ≡ Short wanted → length rest + wanted ≡ size - (1 + sum (widths kind))
unfolding fields_known body_known
fields_short kind size fields rest wanted e =
    let a = bad_if_short (has_too_many_words kind fields) _ _ wanted e in
    let b = bad_if_short (nat_lt size (least_size_with kind fields)) _ _ wanted a.1 in
    elim (once_short (size - (1 + sum (widths kind))) rest (λ tail behind. body_known kind size fields tail) wanted b.1) [
      | inl short ↦ short.1
      | inr there ↦ absurd (whole_if_not _ size _ wanted there.1)
    ]

kind_short : (size : ℕ) (o : Option FrameKind) (rest : List ℕ) (wanted : ℕ) → kind_known size o rest ≡ Short wanted → length rest + wanted ≤ size
unfolding kind_known
kind_short size None rest wanted e = absurd (cc)
kind_short size (Some kind) rest wanted e =
    let a = bad_if_short (is_wrong_size kind size) _ _ wanted e in
    let least : least_size kind ≤ size = ltb-false size (least_size kind) (either _ _ a.0) in
    let head = least_is_head kind in
    elim (once_short (sum (widths kind)) rest (λ head behind. fields_known kind size (fields_in (widths kind) head) behind) wanted a.1) [
      | inl short ↦ omega (arith, short.1)
      | inr there ↦ omega (arith, fields_short kind size _ _ wanted there.1, length-drop (sum (widths kind)) rest, there.0)
    ]

pub short_within : (side : Side) (bytes : List ℕ) (wanted : ℕ) → reading side bytes ≡ Short wanted → length bytes + wanted ≤ max_frame_body + 5
unfolding reading size_known
short_within side bytes wanted e =
    let size = number_in 4 (take 4 bytes) in
    elim (once_short 4 bytes (λ size behind. size_known side (number_in 4 size) behind) wanted e) [
      | inl short ↦ omega (arith, short.1)
      | inr there ↦
          let b = bad_if_short (nat_lt max_frame_body size) _ _ wanted there.1 in
          let c = bad_if_short (size == 0) _ _ wanted b.1 in
          let few : size ≤ max_frame_body = ltb-false max_frame_body size b.0 in
          let rest = length-drop 4 bytes in
          elim (once_short 1 (drop 4 bytes) (λ kind behind. kind_known size (kind_in side size (number_in 1 kind)) behind) wanted c.1) [
            | inl short ↦ omega (arith, short.1, there.0)
            | inr more ↦ omega (arith, kind_short size _ _ wanted more.1, length-drop 1 (drop 4 bytes), more.0, there.0)
          ]
    ]

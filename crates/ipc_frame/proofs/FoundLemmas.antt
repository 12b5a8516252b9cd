-- What is read as a frame begins with the spelling of that frame.
use Rattle.std.proofs.Common.{◌≡◌, ℕ, zero, suc, ◌+◌, ◌*◌, ◌-◌, ◌<◌, ◌≤◌, ◌^◌, ◌==◌, inl, inr, Bool, true, false, if◌then◌else◌, List, [], ◌∷◌, ◌++◌, length, take, drop, sum, replicate, slice_index, Option, Some, None, refl, sym, ap, ap₂, subst, ◌∙◌, arith, length-drop, nat_lt}
use Rattle.std.specs.List.{AllByRecursion}
use Rattle.std.specs.Option.{option_map}
use Rattle.std.proofs.lemmas.List.{append_assoc, drop-drop, length-take-le, nil_from_length, take-append-drop}
use Rattle.std.proofs.lemmas.Bool.{cases_Bool, eqb-true, ltb-false, or_parts}
use Rattle.ipc_words.specs.Limits.{max_frame_body}
use Rattle.ipc_items.specs.Pieces.{PlacedBytes}
use Rattle.ipc_frame.specs.declared.kind.FrameKind.{FrameKind}
use Rattle.ipc_frame.specs.declared.kind.FrameKind.TheVariants.{Hello, HelloTwo, Ipc, Exreg, Bye, Welcome, Ipcr, Exregr, Refused, Fault, ExregrTwo}
use Rattle.ipc_frame.specs.declared.kind.Side.{Side}
use Rattle.ipc_frame.specs.declared.kind.Side.TheVariants.{Server, Client}
use Rattle.ipc_frame.specs.declared.frame.Frame.{Frame}
use Rattle.ipc_frame.specs.declared.frame.Frame.TheVariants as frame
use Rattle.ipc_frame.specs.Numbers.{IsBytes, number_text, number_in, fields_text, fields_in, AreWords, words_text, words_in}
use Rattle.ipc_frame.specs.declared.fault.FrameFault.{FrameFault}
use Rattle.ipc_frame.specs.declared.version.CallEnd.{CallEnd}
use Rattle.ipc_frame.specs.Versions.{version_of, version_told, end_count, end_in, end_words}
use Rattle.ipc_frame.specs.Parts.{IsPiece, words_of, piece_text, pieces_text, end_size}
use Rattle.ipc_frame.specs.Frames.{kind_byte, side_of, kinds, outcome_widths, widths, ipcr_kind, kind_of, fields_of, tail_of, size_of, body_of, spelling, HasTail, IsFrame}
use Rattle.ipc_frame.specs.Reading.{Whole, kind_among, kind_in, kind_with, is_wrong_size, is_longer, least_size, has_too_many_words, least_size_with, pieces_in, ipc_parts, ipcr_parts, ipcr_in, frame_of, missing, whole_if, body_known, fields_known, kind_known, size_known, reading}
use Rattle.ipc_frame.proofs.NumberLemmas.{number_below, number_spelled, number_taken, bytes_drop, bytes_take}
use Rattle.ipc_frame.proofs.FieldLemmas.{fields_fit, fields_taken, length_words_in, words_spelled}
use Rattle.ipc_frame.proofs.VersionLemmas.{fields_behind, ipcr_sides, outcome_fields, outcome_head, tag_behind, told_in, version_found, words_found}
use Rattle.ipc_frame.proofs.StageLemmas.{once_whole, bad_if_whole}
use Rattle.ipc_frame.proofs.SpellingLemmas.{length_spelling}
use Rattle.ipc_frame.specs.Laws.{Begins}

-- a kind that was found has this byte, and its side is the one that reads it
kind_among_byte : (ks : List FrameKind) (byte : ℕ) (kind : FrameKind) → kind_among ks byte ≡ Some kind → kind_byte kind ≡ byte
kind_among_byte [] byte kind e = absurd (cc)
kind_among_byte (k ∷ ks) byte kind e = elim (cases_Bool (kind_byte k == byte)) [
  | inl here ↦ let e2 = rw here at e in let same : k ≡ kind = cc in ap kind_byte (sym same) ∙ eqb-true (kind_byte k) byte here
  | inr other ↦ kind_among_byte ks byte kind (rw other at e)
]

kind_among_all : (P : FrameKind → Type 0) (ks : List FrameKind) (byte : ℕ) (kind : FrameKind) → AllByRecursion P ks → kind_among ks byte ≡ Some kind → P kind
kind_among_all P [] byte kind h e = absurd (cc)
kind_among_all P (k ∷ ks) byte kind h e = elim (cases_Bool (kind_byte k == byte)) [
  | inl here ↦ let e2 = rw here at e in let same : k ≡ kind = cc in subst P same h.0
  | inr other ↦ kind_among_all P ks byte kind h.1 (rw other at e)
]

side_among : (side : Side) (byte : ℕ) (kind : FrameKind) → kind_among (kinds side) byte ≡ Some kind → side_of kind ≡ side
side_among Server byte kind e = kind_among_all (λ k. side_of k ≡ Server) (kinds Server) byte kind (refl, (refl, (refl, (refl, tt)))) e
side_among Client byte kind e = kind_among_all (λ k. side_of k ≡ Client) (kinds Client) byte kind (refl, (refl, (refl, (refl, (refl, (refl, (refl, tt))))))) e

pub some_mapped : {X Y : Type 0} (f : X → Y) (o : Option X) (y : Y) → option_map f o ≡ Some y → (x : X) × (o ≡ Some x) × (f x ≡ y)
some_mapped f None y e = absurd (cc)
some_mapped f (Some x) y e = (x, refl, cc)

-- a kind that its length decides has the same byte and the same side
with_byte : (kind : FrameKind) (size : ℕ) → kind_byte (kind_with kind size) ≡ kind_byte kind
with_byte Hello size = of_five (size == 5)
  where
    of_five : (b : Bool) → kind_byte (if b then HelloTwo else Hello) ≡ 1
    of_five true = refl
    of_five false = refl
with_byte HelloTwo size = refl
with_byte Ipc size = refl
with_byte Exreg size = refl
with_byte Bye size = refl
with_byte Welcome size = refl
with_byte (Ipcr version) size = refl
with_byte Exregr size = refl
with_byte Refused size = refl
with_byte Fault size = refl
with_byte ExregrTwo size = refl

with_side : (kind : FrameKind) (size : ℕ) → side_of (kind_with kind size) ≡ side_of kind
with_side Hello size = of_five (size == 5)
  where
    of_five : (b : Bool) → side_of (if b then HelloTwo else Hello) ≡ Server
    of_five true = refl
    of_five false = refl
with_side HelloTwo size = refl
with_side Ipc size = refl
with_side Exreg size = refl
with_side Bye size = refl
with_side Welcome size = refl
with_side (Ipcr version) size = refl
with_side Exregr size = refl
with_side Refused size = refl
with_side Fault size = refl
with_side ExregrTwo size = refl

kind_in_byte : (side : Side) (size byte : ℕ) (kind : FrameKind) → kind_in side size byte ≡ Some kind → kind_byte kind ≡ byte
kind_in_byte side size byte kind e =
    let found = some_mapped (λ k. kind_with k size) (kind_among (kinds side) byte) kind e in
    ap kind_byte (sym found.2) ∙ (with_byte found.0 size ∙ kind_among_byte (kinds side) byte found.0 found.1)

pub side_found : (side : Side) (size byte : ℕ) (kind : FrameKind) → kind_in side size byte ≡ Some kind → side_of kind ≡ side
side_found side size byte kind e =
    let found = some_mapped (λ k. kind_with k size) (kind_among (kinds side) byte) kind e in
    ap side_of (sym found.2) ∙ (with_side found.0 size ∙ side_among side byte found.0 found.1)

-- words of any bytes
are_words_in : (count : ℕ) (bytes : List ℕ) → IsBytes bytes → AreWords (words_in count bytes)
are_words_in count bytes h = rw (length_words_in count bytes) (fields_fit (replicate count 8) bytes h)

-- pieces
pub record Pieces (count : ℕ) (bytes : List ℕ) (pieces : List PlacedBytes) : Type 0 where
  pub number : length pieces ≡ count
  pub text : pieces_text pieces ≡ bytes
  pub each : AllByRecursion IsPiece pieces

pieces_found : (count : ℕ) (bytes : List ℕ) (pieces : List PlacedBytes) → IsBytes bytes → pieces_in count bytes ≡ Some pieces → Pieces count bytes pieces
pieces_found zero bytes pieces h e = elim (cases_Bool (length bytes == 0)) [
  | inl here ↦
      let none : bytes ≡ [] = nil_from_length bytes (eqb-true (length bytes) 0 here) in
      let e2 = rw here at e in
      let same : [] ≡ pieces = cc in
      subst (λ ps. Pieces zero bytes ps) same (record { number = refl; text = sym none; each = tt })
  | inr other ↦ let e2 = rw other at e in absurd (cc)
]
pieces_found (suc count) bytes pieces h e =
    let size = number_in 4 (drop 8 bytes) in
    elim (cases_Bool (nat_lt (length bytes) (12 + size))) [
      | inl here ↦ let e2 = rw here at e in absurd (cc)
      | inr other ↦
          let room : 12 + size ≤ length bytes = ltb-false (length bytes) (12 + size) other in
          let first : PlacedBytes = record { pointer = number_in 8 bytes; bytes = take size (drop 12 bytes) } in
          let rest = drop (12 + size) bytes in
          let found = some_mapped (λ ps. first ∷ ps) (pieces_in count rest) pieces (rw other at e) in
          let later = pieces_found count rest found.0 (bytes_drop (12 + size) bytes h) found.1 in
          let taken : length (take size (drop 12 bytes)) ≡ size = length-take-le size (drop 12 bytes) (omega (arith, length-drop 12 bytes)) in
          let pointer = number_text 8 (number_in 8 bytes) in
          let text4 = number_text 4 size in
          let t12 : text4 ++ drop 12 bytes ≡ drop 8 bytes = ap (λ xs. text4 ++ xs) (sym (drop-drop 4 8 bytes)) ∙ number_spelled 4 (drop 8 bytes) (bytes_drop 8 bytes h) (omega (arith, length-drop 8 bytes)) in
          let t8 : pointer ++ drop 8 bytes ≡ bytes = number_spelled 8 bytes h (omega arith) in
          let bytes12 : take size (drop 12 bytes) ++ rest ≡ drop 12 bytes = ap (λ xs. take size (drop 12 bytes) ++ xs) (sym (drop-drop size 12 bytes)) ∙ take-append-drop size (drop 12 bytes) in
          let whole : piece_text first ++ rest ≡ bytes =
          ap (λ n. ((pointer ++ number_text 4 n) ++ first.bytes) ++ rest) taken ∙ (append_assoc (pointer ++ text4) first.bytes rest ∙ (ap (λ xs. (pointer ++ text4) ++ xs) bytes12 ∙ (append_assoc pointer text4 (drop 12 bytes) ∙ (ap (λ xs. pointer ++ xs) t12 ∙ t8)))) in
          let small : length first.bytes < 256 ^ 4 = rw taken (number_below 4 (drop 8 bytes) (bytes_drop 8 bytes h)) in
          subst (λ ps. Pieces (suc count) bytes ps) found.2 (record {
            number = ap suc later.number;
            text = ap (λ xs. piece_text first ++ xs) later.text ∙ whole;
            each = ((number_below 8 bytes h, small, bytes_take size (drop 12 bytes) (bytes_drop 12 bytes h)), later.each);
          })
    ]

-- the parts of a frame that was made of numbers and what comes after them
pub record Found (kind : FrameKind) (head tail : List ℕ) (f : Frame) : Type 0 where
  pub kind_is : kind_of f ≡ kind
  pub fields : fields_of f ≡ fields_in (widths kind) head
  pub tail_is : tail_of f ≡ tail
  pub size : size_of f ≡ 1 + (sum (widths kind) + length tail)
  pub has : HasTail f

-- what a reading has asked of them
pub record Asked (kind : FrameKind) (head tail : List ℕ) : Type 0 where
  pub tail_bytes : IsBytes tail
  pub head_bytes : IsBytes head
  pub within : 1 + (sum (widths kind) + length tail) ≤ max_frame_body
  pub few_words : has_too_many_words kind (fields_in (widths kind) head) ≡ false
  pub room : least_size_with kind (fields_in (widths kind) head) ≤ 1 + (sum (widths kind) + length tail)
  pub no_tail : is_longer kind ≡ false → length tail ≡ 0

fixed_found : (kind : FrameKind) (head tail : List ℕ) (f made : Frame) → Asked kind head tail → is_longer kind ≡ false → Some made ≡ Some f → kind_of made ≡ kind → fields_of made ≡ fields_in (widths kind) head → tail_of made ≡ [] → size_of made ≡ 1 + (sum (widths kind) + 0) → HasTail made → Found kind head tail f
fixed_found kind head tail f made asked fixed e k fs t s has =
    let same : made ≡ f = cc in
    let none = asked.no_tail fixed in
    subst (λ g. Found kind head tail g) same (record { kind_is = k; fields = fs; tail_is = t ∙ sym (nil_from_length tail none); size = rw none s; has = has })

ipc_found : (head tail : List ℕ) → Asked Ipc head tail → Found Ipc head tail (frame.Ipc (ipc_parts (fields_in (widths Ipc) head) tail))
ipc_found head tail asked =
    let fields = fields_in (widths Ipc) head in
    let count = words_of (slice_index fields 4) in
    let few = slice_index fields 6 in
    let rest = drop (8 * count) tail in
    let payload = drop (8 * few) rest in
    let tests = or_parts _ _ asked.few_words in
    let few_words : count ≤ 63 = ltb-false 63 count tests.0 in
    let few_buffers : few ≤ 32 = ltb-false 32 few tests.1 in
    let room1 : 8 * count + 8 * few ≤ length tail = omega (arith, asked.room) in
    let l1 = length_words_in count tail in
    let l2 = length_words_in few rest in
    let rest_length = length-drop (8 * count) tail in
    let payload_length = length-drop (8 * few) rest in
    let b2 = bytes_drop (8 * count) tail asked.tail_bytes in
    let t1 = words_spelled count tail asked.tail_bytes (omega arith) in
    let t2 = words_spelled few rest b2 (omega arith) in
    let total : 46 + 8 * length (words_in count tail) + 8 * length (words_in few rest) + length payload ≡ 1 + (45 + length tail) = omega arith in
    record {
      kind_is = refl;
      fields = ap (λ n. slice_index fields 0 ∷ slice_index fields 1 ∷ slice_index fields 2 ∷ slice_index fields 3 ∷ slice_index fields 4 ∷ slice_index fields 5 ∷ n ∷ []) l2;
      tail_is = append_assoc (words_text (words_in count tail)) (words_text (words_in few rest)) payload ∙ (ap (λ xs. words_text (words_in count tail) ++ xs) t2 ∙ t1);
      size = total;
      has = (record { words = l1; few_words = few_words; few_buffer_words = omega arith; within = omega (arith, asked.within, total) }, are_words_in count tail asked.tail_bytes, are_words_in few rest b2, bytes_drop (8 * few) rest b2);
    }

-- the numbers of an outcome from the tag on, and of what stands before them
record AskedIpcr (end : Option CallEnd) (fields tail : List ℕ) : Type 0 where
  pub tail_bytes : IsBytes tail
  pub within : 33 + end_size end + length tail ≤ max_frame_body
  pub few_words : nat_lt 63 (words_of (slice_index fields 0)) ≡ false
  pub room : 34 + 8 * words_of (slice_index fields 0) ≤ 33 + length tail

record FoundIpcr (end : Option CallEnd) (fields tail : List ℕ) (f : Frame) : Type 0 where
  pub kind_is : kind_of f ≡ ipcr_kind end
  pub numbers : fields_of f ≡ end_words end ++ (slice_index fields 0 ∷ slice_index fields 1 ∷ slice_index fields 2 ∷ slice_index fields 3 ∷ [])
  pub tail_is : tail_of f ≡ tail
  pub size : size_of f ≡ 33 + end_size end + length tail
  pub has : HasTail f

ipcr_found : (end : Option CallEnd) (fields tail : List ℕ) (f : Frame) → AskedIpcr end fields tail → ipcr_in end fields tail ≡ Some f → FoundIpcr end fields tail f
ipcr_found end fields tail f asked made =
    let got = some_mapped (λ pieces. frame.Ipcr (ipcr_parts end fields tail pieces)) _ f made in
    let pieces = got.0 in
    let count = words_of (slice_index fields 0) in
    let rest = drop (8 * count) tail in
    let few_words : count ≤ 63 = ltb-false 63 count asked.few_words in
    let room : 8 * count + 1 ≤ length tail = omega (arith, asked.room) in
    let l1 = length_words_in count tail in
    let rest_length = length-drop (8 * count) tail in
    let b2 = bytes_drop (8 * count) tail asked.tail_bytes in
    let t1 = words_spelled count tail asked.tail_bytes (omega arith) in
    let t2 = number_spelled 1 rest b2 (omega arith) in
    let found = pieces_found (number_in 1 rest) (drop 1 rest) pieces (bytes_drop 1 rest b2) got.1 in
    let small = number_below 1 rest b2 in
    let behind : number_text 1 (length pieces) ++ pieces_text pieces ≡ rest = ap₂ (λ n xs. number_text 1 n ++ xs) found.number found.text ∙ t2 in
    let total : 34 + end_size end + 8 * length (words_in count tail) + length (pieces_text pieces) ≡ 33 + end_size end + length tail = omega (arith, ap length found.text, length-drop 1 rest) in
    subst (FoundIpcr end fields tail) got.2 (record {
      kind_is = refl;
      numbers = refl;
      tail_is = append_assoc (words_text (words_in count tail)) (number_text 1 (length pieces)) (pieces_text pieces) ∙ (ap (λ xs. words_text (words_in count tail) ++ xs) behind ∙ t1);
      size = total;
      has = (record { words = l1; few_words = few_words; few_pieces = omega (arith, found.number); within = omega (arith, asked.within, total) }, are_words_in count tail asked.tail_bytes, found.each);
    })

frame_found : (kind : FrameKind) (head tail : List ℕ) (f : Frame) → Asked kind head tail → frame_of kind (fields_in (widths kind) head) tail ≡ Some f → Found kind head tail f
frame_found Ipc head tail f asked e = let same : frame.Ipc (ipc_parts (fields_in (widths Ipc) head) tail) ≡ f = cc in subst (λ g. Found Ipc head tail g) same (ipc_found head tail asked)
frame_found (Ipcr version) head tail f asked e =
    let fields = fields_in (widths (Ipcr version)) head in
    let end = end_in version fields in
    let behind = drop (end_count version) fields in
    let told : version_told end ≡ version = told_in version fields in
    let size_is : end_size end ≡ 8 * end_count version = ap (λ v. 8 * end_count v) told in
    let total = outcome_head version in
    let tag = tag_behind version fields in
    let found = ipcr_found end behind tail f (record { tail_bytes = asked.tail_bytes; within = omega (arith, asked.within, total, size_is); few_words = rw tag asked.few_words; room = rw tag (omega (arith, asked.room, total)) }) e in
    let numbers : fields_in outcome_widths (drop (8 * end_count version) head) ≡ slice_index behind 0 ∷ slice_index behind 1 ∷ slice_index behind 2 ∷ slice_index behind 3 ∷ [] =
    ap (λ (xs : List ℕ). slice_index xs 0 ∷ slice_index xs 1 ∷ slice_index xs 2 ∷ slice_index xs 3 ∷ []) (sym (fields_behind version head)) in
    let all : end_words end ++ (slice_index behind 0 ∷ slice_index behind 1 ∷ slice_index behind 2 ∷ slice_index behind 3 ∷ []) ≡ fields =
    ap₂ (λ xs ys. xs ++ ys) (words_found version head) (sym numbers) ∙ sym (outcome_fields version head) in
    record { kind_is = found.kind_is ∙ ap Ipcr told; fields = found.numbers ∙ all; tail_is = found.tail_is; size = omega (arith, found.size, total, size_is); has = found.has }
frame_found HelloTwo head tail f asked e =
    let fields = fields_in (widths HelloTwo) head in
    let found = some_mapped (frame.Hello (slice_index fields 0)) (version_of (slice_index fields 1)) f e in
    let named = version_found (slice_index fields 1) found.0 found.1 in
    let none = nil_from_length tail (asked.no_tail refl) in
    subst (Found HelloTwo head tail) found.2 (record { kind_is = rw named.0 refl; fields = rw named.0 (ap (λ n. slice_index fields 0 ∷ n ∷ []) named.1); tail_is = sym none; size = rw named.0 (ap (λ n. 1 + (4 + n)) (sym (asked.no_tail refl))); has = tt })
frame_found Hello head tail f asked e = fixed_found Hello head tail f _ asked refl e refl refl refl refl tt
frame_found Exreg head tail f asked e = fixed_found Exreg head tail f _ asked refl e refl refl refl refl tt
frame_found Bye head tail f asked e = fixed_found Bye head tail f _ asked refl e refl refl refl refl tt
frame_found Welcome head tail f asked e = fixed_found Welcome head tail f _ asked refl e refl refl refl refl tt
frame_found Exregr head tail f asked e = fixed_found Exregr head tail f _ asked refl e refl refl refl refl tt
frame_found ExregrTwo head tail f asked e = fixed_found ExregrTwo head tail f _ asked refl e refl refl refl refl tt
frame_found Refused head tail f asked e = fixed_found Refused head tail f _ asked refl e refl refl refl refl tt
frame_found Fault head tail f asked e = fixed_found Fault head tail f _ asked refl e refl refl refl refl tt

whole_if_shown : (fault : FrameFault) (size : ℕ) (o : Option Frame) (f : Frame) (n : ℕ) → whole_if fault size o ≡ Whole f n → (o ≡ Some f) × (n ≡ 4 + size)
whole_if_shown fault size None f n e = absurd (cc)
whole_if_shown fault size (Some g) f n e = (cc, cc)

-- what a reading of a whole frame has gone through, stage by stage: its numbers, and what comes
-- after them
pub record FieldsShown (kind : FrameKind) (size : ℕ) (fields rest : List ℕ) (f : Frame) (n : ℕ) : Type 0 where
  pub few_words : has_too_many_words kind fields ≡ false
  pub room : least_size_with kind fields ≤ size
  pub there : size - (1 + sum (widths kind)) ≤ length rest
  pub made : frame_of kind fields (take (size - (1 + sum (widths kind))) rest) ≡ Some f
  pub count : n ≡ 4 + size

fields_shown : (kind : FrameKind) (size : ℕ) (fields rest : List ℕ) (f : Frame) (n : ℕ) → fields_known kind size fields rest ≡ Whole f n → FieldsShown kind size fields rest f n
unfolding fields_known body_known
fields_shown kind size fields rest f n e =
    let a = bad_if_whole (has_too_many_words kind fields) _ _ f n e in
    let b = bad_if_whole (nat_lt size (least_size_with kind fields)) _ _ f n a.1 in
    let c = once_whole (size - (1 + sum (widths kind))) rest (λ tail behind. body_known kind size fields tail) f n b.1 in
    let d = whole_if_shown (missing kind) size _ f n c.1 in
    record { few_words = a.0; room = ltb-false _ _ b.0; there = c.0; made = d.0; count = d.1 }

pub record KindShown (size : ℕ) (kind : FrameKind) (rest : List ℕ) (f : Frame) (n : ℕ) : Type 0 where
  pub right_size : is_wrong_size kind size ≡ false
  pub there : sum (widths kind) ≤ length rest
  pub fields : FieldsShown kind size (fields_in (widths kind) (take (sum (widths kind)) rest)) (drop (sum (widths kind)) rest) f n

kind_shown : (size : ℕ) (o : Option FrameKind) (rest : List ℕ) (f : Frame) (n : ℕ) → kind_known size o rest ≡ Whole f n → (kind : FrameKind) × (o ≡ Some kind) × KindShown size kind rest f n
unfolding kind_known
kind_shown size None rest f n e = absurd (cc)
kind_shown size (Some kind) rest f n e =
    let a = bad_if_whole (is_wrong_size kind size) _ _ f n e in
    let b = once_whole (sum (widths kind)) rest (λ head behind. fields_known kind size (fields_in (widths kind) head) behind) f n a.1 in
    (kind, refl, record { right_size = a.0; there = b.0; fields = fields_shown kind size _ _ f n b.1 })

pub record Shown (side : Side) (bytes : List ℕ) (f : Frame) (n : ℕ) (kind : FrameKind) : Type 0 where
  pub size_there : 4 ≤ length bytes
  pub within : number_in 4 (take 4 bytes) ≤ max_frame_body
  pub kind_there : 1 ≤ length (drop 4 bytes)
  pub kind_is : kind_in side (number_in 4 (take 4 bytes)) (number_in 1 (take 1 (drop 4 bytes))) ≡ Some kind
  pub behind : KindShown (number_in 4 (take 4 bytes)) kind (drop 1 (drop 4 bytes)) f n

pub whole_shown : (side : Side) (bytes : List ℕ) (f : Frame) (n : ℕ) → reading side bytes ≡ Whole f n → (kind : FrameKind) × Shown side bytes f n kind
unfolding reading size_known
whole_shown side bytes f n e =
    let a = once_whole 4 bytes (λ size behind. size_known side (number_in 4 size) behind) f n e in
    let size = number_in 4 (take 4 bytes) in
    let b = bad_if_whole (nat_lt max_frame_body size) _ _ f n a.1 in
    let c = bad_if_whole (size == 0) _ _ f n b.1 in
    let d = once_whole 1 (drop 4 bytes) (λ kind behind. kind_known size (kind_in side size (number_in 1 kind)) behind) f n c.1 in
    let k = kind_shown size _ _ f n d.1 in
    (k.0, record { size_there = a.0; within = ltb-false _ _ b.0; kind_there = d.0; kind_is = k.1; behind = k.2 })

-- a size that is not wrong
pub wrong_fixed : (kind : FrameKind) (size : ℕ) → is_wrong_size kind size ≡ false → (least_size kind ≤ size) × (is_longer kind ≡ false → size ≤ least_size kind)
wrong_fixed kind size e =
    let tests = or_parts _ _ e in
    (ltb-false _ _ tests.0, λ fixed. let t = rw fixed at tests.1 in ltb-false (least_size kind) size t)

pub least_is_head : (kind : FrameKind) → 1 + sum (widths kind) ≤ least_size kind
least_is_head Hello = omega arith
least_is_head Ipc = omega arith
least_is_head Exreg = omega arith
least_is_head Bye = omega arith
least_is_head Welcome = omega arith
least_is_head (Ipcr version) = omega (arith, outcome_head version)
least_is_head Exregr = omega arith
least_is_head Refused = omega arith
least_is_head Fault = omega arith
least_is_head HelloTwo = omega arith
least_is_head ExregrTwo = omega arith

head_is_least : (kind : FrameKind) → is_longer kind ≡ false → least_size kind ≤ 1 + sum (widths kind)
head_is_least Hello e = omega arith
head_is_least Ipc e = absurd (cc)
head_is_least Exreg e = omega arith
head_is_least Bye e = omega arith
head_is_least Welcome e = omega arith
head_is_least (Ipcr version) e = absurd (cc)
head_is_least Exregr e = omega arith
head_is_least Refused e = omega arith
head_is_least Fault e = omega arith
head_is_least HelloTwo e = omega arith
head_is_least ExregrTwo e = omega arith

-- the frame ends where its length says
pub whole_ends : (side : Side) (bytes : List ℕ) (f : Frame) (n : ℕ) → reading side bytes ≡ Whole f n → n ≡ 4 + number_in 4 (take 4 bytes)
whole_ends side bytes f n e = (whole_shown side bytes f n e).1.behind.fields.count

-- the frame ends within the bytes
pub whole_within : (side : Side) (bytes : List ℕ) (f : Frame) (n : ℕ) → reading side bytes ≡ Whole f n → (5 ≤ n) × (n ≤ length bytes)
whole_within side bytes f n e =
    let shown = whole_shown side bytes f n e in
    let kind = shown.0 in
    let s = shown.1 in
    let size = number_in 4 (take 4 bytes) in
    let least = least_is_head kind in
    let right = (wrong_fixed kind size s.behind.right_size).0 in
    let l1 = length-drop 4 bytes in
    let l2 = length-drop 1 (drop 4 bytes) in
    let l3 = length-drop (sum (widths kind)) (drop 1 (drop 4 bytes)) in
    let lt = s.behind.fields.there in
    let l4 = s.behind.there in
    let k = s.behind.fields.count in
    (omega arith, omega (arith, s.kind_there, s.size_there))

joined_parts : (a b c d : ℕ) (xs : List ℕ) → (take a xs ++ (take b (drop a xs) ++ (take c (drop b (drop a xs)) ++ take d (drop c (drop b (drop a xs)))))) ++ drop d (drop c (drop b (drop a xs))) ≡ xs
joined_parts a b c d xs =
    let x1 = drop a xs in
    let x2 = drop b x1 in
    let x3 = drop c x2 in
    append_assoc (take a xs) (take b x1 ++ (take c x2 ++ take d x3)) (drop d x3)
    ∙ (ap (λ ys. take a xs ++ ys) (append_assoc (take b x1) (take c x2 ++ take d x3) (drop d x3)
    ∙ (ap (λ ys. take b x1 ++ ys) (append_assoc (take c x2) (take d x3) (drop d x3)
    ∙ (ap (λ ys. take c x2 ++ ys) (take-append-drop d x3) ∙ take-append-drop c x2)) ∙ take-append-drop b x1)) ∙ take-append-drop a xs)

-- the frame is that of its numbers and what comes after them
pub shown_found : (side : Side) (bytes : List ℕ) (f : Frame) (n : ℕ) (kind : FrameKind) → IsBytes bytes → Shown side bytes f n kind → Found kind (take (sum (widths kind)) (drop 1 (drop 4 bytes))) (take (number_in 4 (take 4 bytes) - (1 + sum (widths kind))) (drop (sum (widths kind)) (drop 1 (drop 4 bytes)))) f
shown_found side bytes f n kind h s =
    let size = number_in 4 (take 4 bytes) in
    let rest1 = drop 4 bytes in
    let rest2 = drop 1 rest1 in
    let rest3 = drop (sum (widths kind)) rest2 in
    let head = take (sum (widths kind)) rest2 in
    let tail = take (size - (1 + sum (widths kind))) rest3 in
    let b1 = bytes_drop 4 bytes h in
    let b2 = bytes_drop 1 rest1 b1 in
    let b3 = bytes_drop (sum (widths kind)) rest2 b2 in
    let wrong = wrong_fixed kind size s.behind.right_size in
    let least = least_is_head kind in
    let right = wrong.0 in
    let fields = s.behind.fields in
    let tail_length : length tail ≡ size - (1 + sum (widths kind)) = length-take-le (size - (1 + sum (widths kind))) rest3 fields.there in
    let body : 1 + (sum (widths kind) + length tail) ≡ size = omega arith in
    let asked : Asked kind head tail = record {
      tail_bytes = bytes_take (size - (1 + sum (widths kind))) rest3 b3;
      head_bytes = bytes_take (sum (widths kind)) rest2 b2;
      within = omega (arith, s.within, body);
      few_words = fields.few_words;
      room = omega (arith, fields.room, body);
      no_tail = λ fixed. let most = wrong.1 fixed in let is_head = head_is_least kind fixed in omega arith;
    } in
    frame_found kind head tail f asked fields.made

frame_begins : (side : Side) (bytes : List ℕ) (f : Frame) (n : ℕ) (kind : FrameKind) → IsBytes bytes → Shown side bytes f n kind → Begins side bytes f n
unfolding spelling body_of
frame_begins side bytes f n kind h s =
    let size = number_in 4 (take 4 bytes) in
    let rest1 = drop 4 bytes in
    let rest2 = drop 1 rest1 in
    let rest3 = drop (sum (widths kind)) rest2 in
    let head = take (sum (widths kind)) rest2 in
    let tail = take (size - (1 + sum (widths kind))) rest3 in
    let b1 = bytes_drop 4 bytes h in
    let b2 = bytes_drop 1 rest1 b1 in
    let head_bytes = bytes_take (sum (widths kind)) rest2 b2 in
    let wrong = wrong_fixed kind size s.behind.right_size in
    let least = least_is_head kind in
    let right = wrong.0 in
    let fields = s.behind.fields in
    let head_length : length head ≡ sum (widths kind) = length-take-le (sum (widths kind)) rest2 s.behind.there in
    let tail_length : length tail ≡ size - (1 + sum (widths kind)) = length-take-le (size - (1 + sum (widths kind))) rest3 fields.there in
    let body : 1 + (sum (widths kind) + length tail) ≡ size = omega arith in
    let found = shown_found side bytes f n kind h s in
    let byte_is = kind_in_byte side size (number_in 1 (take 1 rest1)) kind s.kind_is in
    let size_is : size_of f ≡ size = found.size ∙ body in
    let t_size : number_text 4 (size_of f) ≡ take 4 bytes = ap (number_text 4) size_is ∙ number_taken 4 bytes h s.size_there in
    let t_kind : number_text 1 (kind_byte (kind_of f)) ≡ take 1 rest1 = ap (λ k. number_text 1 (kind_byte k)) found.kind_is ∙ (ap (number_text 1) byte_is ∙ number_taken 1 rest1 b1 s.kind_there) in
    let t_head : fields_text (widths (kind_of f)) (fields_of f) ≡ head = ap₂ (λ k vs. fields_text (widths k) vs) found.kind_is found.fields ∙ fields_taken (widths kind) head head_bytes head_length in
    let count_is : n ≡ 4 + size = fields.count in
    let left : drop n bytes ≡ drop (size - (1 + sum (widths kind))) rest3 =
    ap (λ k. drop k bytes) (let sums : n ≡ ((4 + 1) + sum (widths kind)) + (size - (1 + sum (widths kind))) = omega arith in sums)
    ∙ (sym (drop-drop (size - (1 + sum (widths kind))) ((4 + 1) + sum (widths kind)) bytes)
    ∙ ap (drop (size - (1 + sum (widths kind)))) (sym (drop-drop (sum (widths kind)) (4 + 1) bytes) ∙ ap (drop (sum (widths kind))) (sym (drop-drop 1 4 bytes)))) in
    let whole : spelling f ++ drop n bytes ≡ bytes =
    ap₂ (λ a b. (number_text 4 (size_of f) ++ (number_text 1 (kind_byte (kind_of f)) ++ (fields_text (widths (kind_of f)) (fields_of f) ++ a))) ++ b) found.tail_is left
    ∙ (ap (λ a. (a ++ (number_text 1 (kind_byte (kind_of f)) ++ (fields_text (widths (kind_of f)) (fields_of f) ++ tail))) ++ drop (size - (1 + sum (widths kind))) rest3) t_size
    ∙ (ap (λ a. (take 4 bytes ++ (a ++ (fields_text (widths (kind_of f)) (fields_of f) ++ tail))) ++ drop (size - (1 + sum (widths kind))) rest3) t_kind
    ∙ (ap (λ a. (take 4 bytes ++ (take 1 rest1 ++ (a ++ tail))) ++ drop (size - (1 + sum (widths kind))) rest3) t_head
    ∙ joined_parts 4 1 (sum (widths kind)) (size - (1 + sum (widths kind))) bytes))) in
    let is : IsFrame f = record { fields = rw (found.kind_is, found.fields) (fields_fit (widths kind) head head_bytes); tail = found.has } in
    record {
      is = is;
      side_is = ap side_of found.kind_is ∙ side_found side size _ kind s.kind_is;
      count = omega (arith, length_spelling f, size_is, count_is);
      text = whole;
    }

-- what is read as a frame begins with its spelling
pub reading_begins : (side : Side) (bytes : List ℕ) (f : Frame) (n : ℕ) → IsBytes bytes → reading side bytes ≡ Whole f n → Begins side bytes f n
reading_begins side bytes f n h e = let shown = whole_shown side bytes f n e in frame_begins side bytes f n shown.0 h shown.1

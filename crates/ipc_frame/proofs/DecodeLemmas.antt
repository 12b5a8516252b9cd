-- What a reading of a whole frame shows of its parts, by their places.
use Rattle.std.proofs.Common.{◌≡◌, ℕ, suc, ◌+◌, ◌*◌, ◌-◌, ◌<◌, ◌≤◌, inl, inr, List, [], ◌∷◌, ◌++◌, length, take, drop, sum, slice_index, Option, Some, None, Ok, Err, refl, sym, ap, ap₂, subst, ◌∙◌, arith, length-drop}
use Rattle.std.proofs.lemmas.List.{append-nil, append_assoc, drop-drop, get_or-drop, length-take-le, take-append-drop, take_at, take_rest}
use Rattle.ipc_words.specs.MsgTag.{untyped_of, typed_of}
use Rattle.ipc_items.specs.Pieces.{PlacedBytes}
use Rattle.ipc_frame.specs.declared.fault.FrameFault.{FrameFault}
use Rattle.ipc_frame.specs.declared.fault.FrameFault.TheVariants.{NoMemory}
use Rattle.ipc_frame.specs.declared.kind.FrameKind.{FrameKind}
use Rattle.ipc_frame.specs.declared.kind.FrameKind.TheVariants.{Ipc, Ipcr}
use Rattle.ipc_frame.specs.declared.kind.Side.{Side}
use Rattle.ipc_frame.specs.declared.frame.Frame.{Frame}
use Rattle.ipc_frame.specs.declared.frame.Frame.TheVariants as frame
use Rattle.ipc_frame.specs.declared.judging.Judgement.{Judgement}
use Rattle.ipc_frame.specs.Numbers.{IsBytes, number_in, fields_in, words_in}
use Rattle.ipc_frame.specs.declared.version.CallEnd.{CallEnd}
use Rattle.ipc_frame.specs.declared.version.WireVersion.{WireVersion}
use Rattle.ipc_frame.specs.Versions.{end_count, end_in}
use Rattle.ipc_frame.specs.Parts.{IpcParts, IpcrParts, FitsIpcr, words_of, end_size, ipc_size, ipcr_size}
use Rattle.ipc_frame.specs.Frames.{widths, kind_of, size_of, HasTail}
use Rattle.ipc_frame.specs.Reading.{Short, Bad, Whole, kind_in, pieces_in, ipc_parts, ipcr_parts, reading, Tells, TellsBefore}
use Rattle.ipc_frame.specs.Stream.{Stream, Rest, Stopped, put_front, frames_within, stream_of}
use Rattle.ipc_frame.specs.Decoding.{Decodes, MakesFrame, MakesIpcr, stream_at, StopsAt, StopsFor}
use Rattle.ipc_frame.proofs.NumberLemmas.{number_more}
use Rattle.ipc_frame.proofs.FieldLemmas.{length_words_in}
use Rattle.ipc_frame.proofs.VersionLemmas.{outcome_head, told_in}
use Rattle.ipc_frame.proofs.FoundLemmas.{whole_shown, shown_found, whole_within, wrong_fixed, least_is_head, some_mapped}
use Rattle.ipc_frame.proofs.JudgeLemmas.{number_one}
use Rattle.ipc_frame.proofs.StreamLemmas.{enough}

-- words, one at a time
pub word_step : (count index word : ℕ) (words new rest behind all : List ℕ) → index < count → word ≡ number_in 8 rest → behind ≡ drop 8 rest → new ≡ words ++ word ∷ [] → words ++ words_in (count - index) rest ≡ all → new ++ words_in (count - (index + 1)) behind ≡ all
word_step count index word words new rest behind all h is_word is_behind is_new e =
    let left : count - index ≡ suc (count - (index + 1)) = omega arith in
    let later = words_in (count - (index + 1)) (drop 8 rest) in
    ap₂ (λ xs ys. xs ++ words_in (count - (index + 1)) ys) (is_new ∙ ap (λ x. words ++ x ∷ []) is_word) is_behind
    ∙ (append_assoc words (number_in 8 rest ∷ []) later ∙ (ap (λ k. words ++ words_in k rest) (sym left) ∙ e))

-- the room that the words of a call have
pub ipc_room : (fields tail : List ℕ) → ipc_size (ipc_parts fields tail) ≡ 46 + length tail → 8 * words_of (slice_index fields 4) + 8 * slice_index fields 6 ≤ length tail
ipc_room fields tail e =
    let count = words_of (slice_index fields 4) in
    let few = slice_index fields 6 in
    omega (arith, e, length_words_in count tail, length_words_in few (drop (8 * count) tail), length-drop (8 * count) tail, length-drop (8 * few) (drop (8 * count) tail))

pub same_ipc : (p : IpcParts) (to from timeouts originator tag acceptor : ℕ) (words buffer_words payload : List ℕ) → to ≡ p.to → from ≡ p.from → timeouts ≡ p.timeouts → originator ≡ p.originator → tag ≡ p.tag → acceptor ≡ p.acceptor → words ≡ p.words → buffer_words ≡ p.buffer_words → payload ≡ p.payload → record { to = to; from = from; timeouts = timeouts; originator = originator; tag = tag; acceptor = acceptor; words = words; buffer_words = buffer_words; payload = payload } ≡ p
same_ipc p to from timeouts originator tag acceptor words buffer_words payload a b c d e f g h i = rw (a, b, c, d, e, f, g, h, i) refl

pub same_ipcr : (p : IpcrParts) (end : Option CallEnd) (tag sender actual error : ℕ) (words : List ℕ) (pieces : List PlacedBytes) → end ≡ p.end → tag ≡ p.tag → sender ≡ p.sender → actual ≡ p.actual → error ≡ p.error → words ≡ p.words → pieces ≡ p.pieces → record { end = end; tag = tag; sender = sender; actual = actual; error = error; words = words; pieces = pieces } ≡ p
same_ipcr p end tag sender actual error words pieces z a b c d e f = rw (z, a, b, c, d, e, f) refl

-- a call by its parts, as they are read
pub record ReadsCall (head : List ℕ) (tag untyped typed few : ℕ) : Type 0 where
  pub count : untyped + typed ≡ words_of (slice_index (fields_in (widths Ipc) head) 4)
  pub few_is : few ≡ slice_index (fields_in (widths Ipc) head) 6
  pub tag_is : tag ≡ slice_index (fields_in (widths Ipc) head) 4

pub reads_call : (head r1 r2 r3 r4 r5 r6 : List ℕ) (tag word untyped typed : ℕ) → r1 ≡ drop 8 head → r2 ≡ drop 8 r1 → r3 ≡ drop 4 r2 → r4 ≡ drop 8 r3 → r5 ≡ drop 8 r4 → r6 ≡ drop 8 r5 → word ≡ number_in 8 r4 → tag ≡ word → untyped ≡ untyped_of tag → typed ≡ typed_of tag → ReadsCall head tag untyped typed (slice_index r6 0)
reads_call head r1 r2 r3 r4 r5 r6 tag word untyped typed e1 e2 e3 e4 e5 e6 is_word is_tag is_untyped is_typed =
    let four : r4 ≡ drop 8 (drop 4 (drop 8 (drop 8 head))) = cc in
    let six : r6 ≡ drop 8 (drop 8 (drop 8 (drop 4 (drop 8 (drop 8 head))))) = cc in
    let same : tag ≡ number_in 8 (drop 8 (drop 4 (drop 8 (drop 8 head)))) = is_tag ∙ (is_word ∙ ap (number_in 8) four) in
    record {
      count = ap₂ (λ a b. a + b) is_untyped is_typed ∙ ap words_of same;
      few_is = sym (number_one r6) ∙ ap (number_in 1) six;
      tag_is = same;
    }

-- an outcome that was found, with its pieces
pub record IpcrMade (end : Option CallEnd) (fields tail : List ℕ) : Type 0 where
  pub pieces : List PlacedBytes
  pub found : pieces_in (number_in 1 (drop (8 * words_of (slice_index fields 0)) tail)) (drop 1 (drop (8 * words_of (slice_index fields 0)) tail)) ≡ Some pieces
  pub fits : FitsIpcr (ipcr_parts end fields tail pieces)
  pub room : 8 * words_of (slice_index fields 0) + 1 ≤ length tail

pub ipcr_made : (end : Option CallEnd) (fields tail : List ℕ) (f : Frame) → MakesIpcr end fields tail f → IpcrMade end fields tail
ipcr_made end fields tail f made =
    let found = some_mapped (λ pieces. frame.Ipcr (ipcr_parts end fields tail pieces)) _ f made.made in
    let fits = subst HasTail (sym found.2) made.has in
    let size : ipcr_size (ipcr_parts end fields tail found.0) ≡ 33 + end_size end + length tail = ap size_of found.2 ∙ made.size in
    record { pieces = found.0; found = found.1; fits = fits; room = omega (arith, size, length_words_in (words_of (slice_index fields 0)) tail) }

-- an outcome of a version is what its words say, and the numbers from the tag on
pub makes_outcome : (version : WireVersion) (fields tail : List ℕ) (f : Frame) → MakesFrame (Ipcr version) fields tail f → MakesIpcr (end_in version fields) (drop (end_count version) fields) tail f
makes_outcome version fields tail f made =
    let size_is : end_size (end_in version fields) ≡ 8 * end_count version = ap (λ v. 8 * end_count v) (told_in version fields) in
    record { made = made.made; has = made.has; size = omega (arith, made.size, size_is, outcome_head version) }

pub pieces_there : (behind tail : List ℕ) (count words : ℕ) (pieces : List PlacedBytes) → behind ≡ drop (8 * count) tail → count ≡ words → pieces_in (number_in 1 (drop (8 * words) tail)) (drop 1 (drop (8 * words) tail)) ≡ Some pieces → pieces_in (slice_index behind 0) (take (length behind - 1) (drop 1 behind)) ≡ Some pieces
pieces_there behind tail count words pieces is_behind is_count found =
    let there : behind ≡ drop (8 * words) tail = is_behind ∙ ap (λ k. drop (8 * k) tail) is_count in
    ap₂ (λ n xs. pieces_in n xs) (sym (number_one behind)) (take_rest behind 1) ∙ (ap (λ xs. pieces_in (number_in 1 xs) (drop 1 xs)) there ∙ found)

pub one_value : {X : Type 0} (o : Option X) (x y : X) → o ≡ Some x → o ≡ Some y → x ≡ y
one_value o x y a b = let both : Some x ≡ Some y = sym a ∙ b in cc

front_number : (width : ℕ) (bytes : List ℕ) → width ≤ length bytes → number_in width (take width bytes) ≡ number_in width bytes
front_number width bytes h =
    sym (number_more width (take width bytes) (drop width bytes) (omega (arith, length-take-le width bytes h))) ∙ ap (number_in width) (take-append-drop width bytes)

-- a whole frame's numbers and what comes after them, by their places
pub record WholeAt (side : Side) (bytes : List ℕ) (kind : FrameKind) (f : Frame) (n : ℕ) : Type 0 where
  pub there : 4 + number_in 4 bytes ≤ length bytes
  pub least : 1 + sum (widths kind) ≤ number_in 4 bytes
  pub kind_is : kind_in side (number_in 4 bytes) (slice_index bytes 4) ≡ Some kind
  pub is : kind_of f ≡ kind
  pub count : n ≡ 4 + number_in 4 bytes
  pub makes : MakesFrame kind (fields_in (widths kind) (take (sum (widths kind)) (drop 5 bytes))) (take (number_in 4 bytes - (1 + sum (widths kind))) (drop (sum (widths kind)) (drop 5 bytes))) f

pub whole_at : (side : Side) (bytes : List ℕ) (f : Frame) (n : ℕ) → IsBytes bytes → reading side bytes ≡ Whole f n → (kind : FrameKind) × WholeAt side bytes kind f n
whole_at side bytes f n h e =
    let shown = whole_shown side bytes f n e in
    let kind = shown.0 in
    let s = shown.1 in
    let found = shown_found side bytes f n kind h s in
    let size = number_in 4 (take 4 bytes) in
    let within = whole_within side bytes f n e in
    let size_is : size ≡ number_in 4 bytes = front_number 4 bytes s.size_there in
    let byte_is : number_in 1 (take 1 (drop 4 bytes)) ≡ slice_index bytes 4 = front_number 1 (drop 4 bytes) s.kind_there ∙ (number_one (drop 4 bytes) ∙ get_or-drop 4 bytes 0 0) in
    let rest_is : drop 1 (drop 4 bytes) ≡ drop 5 bytes = drop-drop 1 4 bytes in
    let count = s.behind.fields.count in
    let least = least_is_head kind in
    let right = (wrong_fixed kind size s.behind.right_size).0 in
    let m : MakesFrame kind (fields_in (widths kind) (take (sum (widths kind)) (drop 1 (drop 4 bytes)))) (take (size - (1 + sum (widths kind))) (drop (sum (widths kind)) (drop 1 (drop 4 bytes)))) f = record { made = s.behind.fields.made; has = found.has; size = found.size } in
    let m2 = subst (λ xs. MakesFrame kind (fields_in (widths kind) (take (sum (widths kind)) xs)) (take (size - (1 + sum (widths kind))) (drop (sum (widths kind)) xs)) f) rest_is m in (
      kind,
      record {
        there = omega (arith, within, count, size_is);
        least = omega (arith, least, right, size_is);
        kind_is = ap₂ (kind_in side) (sym size_is) (sym byte_is) ∙ s.kind_is;
        is = found.kind_is;
        count = count ∙ ap (λ k. 4 + k) size_is;
        makes = subst (λ k. MakesFrame kind (fields_in (widths kind) (take (sum (widths kind)) (drop 5 bytes))) (take (k - (1 + sum (widths kind))) (drop (sum (widths kind)) (drop 5 bytes))) f) size_is m2;
      },
    )

pub whole_of : (side : Side) (bytes : List ℕ) (f : Frame) (n : ℕ) (kind : FrameKind) → IsBytes bytes → reading side bytes ≡ Whole f n → kind_in side (number_in 4 bytes) (slice_index bytes 4) ≡ Some kind → WholeAt side bytes kind f n
whole_of side bytes f n kind h e k =
    let at = whole_at side bytes f n h e in
    let both : Some at.0 ≡ Some kind = sym at.1.kind_is ∙ k in
    let same : at.0 ≡ kind = cc in
    subst (λ k. WholeAt side bytes k f n) same at.1

-- with nothing behind
pub told_alone : (j : Judgement) (side : Side) (bytes : List ℕ) → TellsBefore j 0 (λ more. reading side (bytes ++ more)) → Tells j (reading side bytes)
told_alone j side bytes h = subst (λ xs. Tells j (reading side xs)) (append-nil bytes) (h [] refl)

-- a stream by its first reading
pub stream_short : (side : Side) (bytes : List ℕ) (wanted : ℕ) → reading side bytes ≡ Short wanted → stream_of side bytes ≡ record { frames = []; end = Rest bytes }
unfolding stream_of frames_within
stream_short side bytes wanted e = rw e refl

pub stream_bad : (side : Side) (bytes : List ℕ) (fault : FrameFault) → reading side bytes ≡ Bad fault → stream_of side bytes ≡ record { frames = []; end = Stopped fault }
unfolding stream_of frames_within
stream_bad side bytes fault e = rw e refl

pub stream_whole : (side : Side) (bytes : List ℕ) (f : Frame) (n : ℕ) → reading side bytes ≡ Whole f n → stream_of side bytes ≡ put_front (f ∷ []) (stream_of side (drop n bytes))
unfolding stream_of frames_within
stream_whole side bytes f n e =
    let within = whole_within side bytes f n e in
    let left = length-drop n bytes in
    rw e (ap (put_front (f ∷ [])) (enough (length bytes) (suc (length (drop n bytes))) side (drop n bytes) _ refl (omega arith) (omega arith)))

put_twice : (a b : List Frame) (s : Stream) → put_front a (put_front b s) ≡ put_front (a ++ b) s
put_twice a b s = ap (λ fs. record { frames = fs; end = s.end }) (sym (append_assoc a b s.frames))

-- one turn of a decoder: a frame is taken, or the stream goes no further
pub one_taken : (side : Side) (bytes : List ℕ) (n : ℕ) (f : Frame) (frames new : List Frame) → reading side bytes ≡ Whole f n → new ≡ frames ++ f ∷ [] → put_front frames (stream_of side bytes) ≡ put_front new (stream_of side (drop n bytes))
one_taken side bytes n f frames new e is_new =
    ap (put_front frames) (stream_whole side bytes f n e) ∙ (put_twice frames (f ∷ []) (stream_of side (drop n bytes)) ∙ ap (λ fs. put_front fs (stream_of side (drop n bytes))) (sym is_new))

pub left_over : (side : Side) (rest : List ℕ) (wanted : ℕ) (frames : List Frame) (all : Stream) → reading side rest ≡ Short wanted → put_front frames (stream_of side rest) ≡ all → all ≡ stream_at frames rest
left_over side rest wanted frames all e h =
    sym h ∙ (ap (put_front frames) (stream_short side rest wanted e) ∙ ap (λ fs. record { frames = fs; end = Rest rest }) (append-nil frames))

pub stopped_for : (side : Side) (rest : List ℕ) (fault : FrameFault) (frames : List Frame) (all : Stream) → reading side rest ≡ Bad fault → put_front frames (stream_of side rest) ≡ all → StopsFor all frames fault
stopped_for side rest fault frames all e h =
    sym h ∙ (ap (put_front frames) (stream_bad side rest fault e) ∙ ap (λ fs. record { frames = fs; end = Stopped fault }) (append-nil frames))

pub out_of_memory : (side : Side) (rest : List ℕ) (frames : List Frame) (all : Stream) → put_front frames (stream_of side rest) ≡ all → StopsAt all frames NoMemory
out_of_memory side rest frames all h = inr (refl, ((stream_of side rest).frames, ap (λ (s : Stream). s.frames) (sym h)))

-- what a frame that was decoded, or refused, says of the reading
pub decoded : (side : Side) (bytes : List ℕ) (f frame : Frame) (n size : ℕ) → reading side bytes ≡ Whole f n → Decodes (reading side bytes) (Ok (frame, size)) → reading side bytes ≡ Whole frame size
decoded side bytes f frame n size e d =
    let told = rw e at d in
    elim told [
      | inl same ↦ let both : (frame, size) ≡ (f, n) = cc in e ∙ sym (ap (λ (p : Frame × ℕ). Whole p.0 p.1) both)
      | inr other ↦ let bad = other.0 in absurd (cc)
    ]

pub refused : (side : Side) (bytes : List ℕ) (f : Frame) (n : ℕ) (fault : FrameFault) (frames : List Frame) (all : Stream) → reading side bytes ≡ Whole f n → Decodes (reading side bytes) (Err fault) → put_front frames (stream_of side bytes) ≡ all → StopsAt all frames fault
refused side bytes f n fault frames all e d h =
    let told = rw e at d in
    elim told [
      | inl same ↦ absurd (cc)
      | inr other ↦ let none = other.0 in let same : fault ≡ NoMemory = cc in subst (λ x. StopsAt all frames x) (sym same) (out_of_memory side bytes frames all h)
    ]

-- the bytes of a frame are taken from the front of a buffer
pub turned : (bytes : List ℕ) (used : ℕ) → used ≤ length bytes → take (length bytes - used) (drop used bytes ++ take used bytes) ≡ drop used bytes
turned bytes used h = take_at (drop used bytes) (take used bytes) (length bytes - used) (length-drop used bytes)

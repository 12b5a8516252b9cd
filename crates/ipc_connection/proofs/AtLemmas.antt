-- Where the numbers and words of a whole frame stand among its bytes.
use Rattle.std.proofs.Common.{◌≡◌, ℕ, zero, suc, ◌+◌, ◌*◌, ◌<◌, ◌≤◌, List, [], ◌∷◌, ◌++◌, Option, Some, None, length, take, drop, slice_index, replicate, refl, sym, ap, ap₂, subst, ◌∙◌, arith, length-append, length-drop}
use Rattle.std.proofs.lemmas.List.{append-nil, append_assoc, take-take, drop-drop, drop_at, drop_all, drop-append-le, get_or-drop, nil_from_length, length-take-le, take-append-drop, length-replicate}
use Rattle.ipc_frame.specs.declared.frame.Frame.{Frame}
use Rattle.ipc_frame.specs.declared.frame.Frame.TheVariants as frame
use Rattle.ipc_frame.specs.declared.kind.Side.TheVariants.{Server}
use Rattle.ipc_frame.specs.Numbers.{IsBytes, number_text, number_in, fields_text, fields_in, words_text, words_in}
use Rattle.ipc_frame.specs.Parts.{IpcParts, words_of}
use Rattle.ipc_frame.specs.declared.version.CallEnd.{CallEnd}
use Rattle.ipc_frame.specs.declared.version.WireVersion.{WireVersion}
use Rattle.ipc_frame.specs.declared.version.WireVersion.TheVariants.{One, Two}
use Rattle.ipc_frame.specs.Frames.{kind_byte, ipcr_kind, kind_of, side_of, widths, fields_of, tail_of, size_of, body_of, spelling, IsFrame}
use Rattle.ipc_frame.proofs.NumberLemmas.{bytes_append, length_number, number_again, number_more}
use Rattle.ipc_frame.proofs.FieldLemmas.{fields_again, length_fields, sum_eights}
use Rattle.ipc_frame.proofs.JudgeLemmas.{number_one, fields_more}
use Rattle.ipc_frame.proofs.SpellingLemmas.{kind_byte_below, length_spelling}
use Rattle.ipc_frame.proofs.FoundLemmas.{reading_begins}
use Rattle.ipc_connection.specs.Holding.{Kept, AreGone, FrameAt, IpcAt, IsWhole, start_size, version_at}

number_at : (width place : ℕ) (held rest : List ℕ) → place + width ≤ length held → number_in width (drop place (held ++ rest)) ≡ number_in width (drop place held)
number_at width place held rest h =
    ap (number_in width) (drop-append-le place held rest (omega arith)) ∙ number_more width (drop place held) rest (omega (arith, length-drop place held))

byte_at : (place : ℕ) (bytes : List ℕ) → number_in 1 (drop place bytes) ≡ slice_index bytes place
byte_at place bytes =
    let same : place + 0 ≡ place = omega arith in
    number_one (drop place bytes) ∙ (get_or-drop place bytes 0 0 ∙ ap (slice_index bytes) same)

abbrev behind : Frame → List ℕ
behind f = fields_text (widths (kind_of f)) (fields_of f) ++ tail_of f

drop_four : (f : Frame) → drop 4 (spelling f) ≡ number_text 1 (kind_byte (kind_of f)) ++ behind f
unfolding spelling body_of
drop_four f = drop_at (number_text 4 (size_of f)) (number_text 1 (kind_byte (kind_of f)) ++ behind f) 4 (length_number 4 (size_of f))

drop_five : (f : Frame) → drop 5 (spelling f) ≡ behind f
drop_five f =
    sym (drop-drop 1 4 (spelling f)) ∙ (ap (drop 1) (drop_four f) ∙ drop_at (number_text 1 (kind_byte (kind_of f))) (behind f) 1 (length_number 1 (kind_byte (kind_of f))))

kind_at : (f : Frame) → slice_index (spelling f) 4 ≡ kind_byte (kind_of f)
kind_at f =
    sym (byte_at 4 (spelling f)) ∙ (ap (number_in 1) (drop_four f) ∙ number_again 1 (kind_byte (kind_of f)) (behind f) (kind_byte_below (kind_of f)))

fields_at : (f : Frame) → IsFrame f → fields_in (widths (kind_of f)) (drop 5 (spelling f)) ≡ fields_of f
fields_at f is = ap (fields_in (widths (kind_of f))) (drop_five f) ∙ fields_again (widths (kind_of f)) (fields_of f) (tail_of f) is.fields

-- bytes that are the spelling of a frame
pub record Spells (f : Frame) (bytes : List ℕ) : Type 0 where
  pub is : IsFrame f
  pub side : side_of (kind_of f) ≡ Server
  pub text : spelling f ≡ bytes
  pub size : length bytes ≡ 4 + size_of f

spells : (f : Frame) (bytes : List ℕ) → IsBytes bytes → IsWhole bytes f → Spells f bytes
spells f bytes h whole =
    let b = reading_begins Server bytes f (length bytes) h whole in
    let none = drop_all (length bytes) bytes (omega arith) in
    record {
      is = b.is;
      side = b.side_is;
      text = sym (append-nil (spelling f)) ∙ (ap (λ xs. spelling f ++ xs) (sym none) ∙ b.text);
      size = omega (arith, b.count, length_spelling f);
    }

-- what the invariant says of bytes that are held, with others behind them
pub record Stands (held rest : List ℕ) : Type 0 where
  pub below : 50 ≤ length held → length held ≤ start_size (take 50 held)
  pub above : 0 < length rest → (50 ≤ length held) × (start_size (take 50 held) ≤ length held)

no_bytes : (n m : ℕ) → m < 50 → n ≤ m → (k : ℕ) → (0 < k → 50 ≤ n) → k ≡ 0
no_bytes n m h l zero f = refl
no_bytes n m h l (suc k) f = let low = f (omega arith) in absurd (omega (arith, low))

pub record Small (f : Frame) (held rest : List ℕ) : Type 0 where
  pub none : rest ≡ []
  pub held_is : held ≡ spelling f

small : (f : Frame) (held rest : List ℕ) → Spells f (held ++ rest) → Stands held rest → size_of f < 46 → Small f held rest
small f held rest s at few =
    let total = length-append held rest in
    let size = s.size in
    let zero_rest = no_bytes (length held) (4 + size_of f) (omega arith) (omega arith) (length rest) (λ some. (at.above some).0) in
    let none : rest ≡ [] = nil_from_length rest zero_rest in
    record { none = none; held_is = sym (s.text ∙ (ap (λ xs. held ++ xs) none ∙ append-nil held)) }

hello_at : (held rest : List ℕ) (number : ℕ) (version : WireVersion) → Spells (frame.Hello number version) (held ++ rest) → Stands held rest → FrameAt held rest (frame.Hello number version)
hello_at held rest number One s at =
    let f = frame.Hello number One in
    let m = small f held rest s at (omega arith) in
    let fields = ap (λ xs. fields_in (2 ∷ []) (drop 5 xs)) m.held_is ∙ fields_at f s.is in
    let size : length held ≡ 7 = ap length m.held_is ∙ length_spelling f in
    (ap (λ xs. slice_index xs 4) m.held_is ∙ kind_at f, omega (arith, size), m.none, sym (ap (λ xs. slice_index xs 0) fields), ap version_at (sym size))
hello_at held rest number Two s at =
    let f = frame.Hello number Two in
    let m = small f held rest s at (omega arith) in
    let fields = ap (λ xs. fields_in (2 ∷ 2 ∷ []) (drop 5 xs)) m.held_is ∙ fields_at f s.is in
    let size : length held ≡ 9 = ap length m.held_is ∙ length_spelling f in
    (ap (λ xs. slice_index xs 4) m.held_is ∙ kind_at f, omega (arith, size), m.none, sym (ap (λ xs. slice_index xs 0) fields), ap version_at (sym size))

exreg_at : (held rest : List ℕ) (target control : ℕ) → Spells (frame.Exreg target control) (held ++ rest) → Stands held rest → FrameAt held rest (frame.Exreg target control)
exreg_at held rest target control s at =
    let f = frame.Exreg target control in
    let m = small f held rest s at (omega arith) in
    let fields = ap (λ xs. fields_in (8 ∷ 8 ∷ []) (drop 5 xs)) m.held_is ∙ fields_at f s.is in
    (ap (λ xs. slice_index xs 4) m.held_is ∙ kind_at f, omega (arith, ap length m.held_is, length_spelling f), m.none, sym (ap (λ xs. slice_index xs 0) fields), sym (ap (λ xs. slice_index xs 1) fields) ∙ ap (number_in 8) (drop-drop 8 5 held))

bye_at : (held rest : List ℕ) → Spells frame.Bye (held ++ rest) → Stands held rest → FrameAt held rest frame.Bye
bye_at held rest s at =
    let m = small frame.Bye held rest s at (omega arith) in
    (ap (λ xs. slice_index xs 4) m.held_is ∙ kind_at frame.Bye, omega (arith, ap length m.held_is, length_spelling frame.Bye), m.none)

-- the words of an IPC frame, and what comes behind them
tail_at : (ipc : IpcParts) → drop 50 (spelling (frame.Ipc ipc)) ≡ words_text ipc.words ++ (words_text ipc.buffer_words ++ ipc.payload)
tail_at ipc =
    let f = frame.Ipc ipc in
    sym (drop-drop 45 5 (spelling f)) ∙ (ap (drop 45) (drop_five f) ∙ drop_at (fields_text (widths (kind_of f)) (fields_of f)) (tail_of f) 45 (length_fields (widths (kind_of f)) (fields_of f) refl) ∙ append_assoc (words_text ipc.words) (words_text ipc.buffer_words) ipc.payload)

length_words : (words : List ℕ) → length (words_text words) ≡ 8 * length words
length_words words = length_fields (replicate (length words) 8) words (sym (length-replicate {A = ℕ} (length words) 8)) ∙ sum_eights (length words)

words_front : (count : ℕ) (held rest : List ℕ) → 8 * count ≤ length held → words_in count (held ++ rest) ≡ words_in count held
words_front count held rest h = fields_more (replicate count 8) held rest (omega (arith, sum_eights count, h))

module _ (held rest : List ℕ) (ipc : IpcParts) (s : Spells (frame.Ipc ipc) (held ++ rest)) (at : Stands held rest) where
  abbrev f : Frame
  f = frame.Ipc ipc

  abbrev all : List ℕ
  all = held ++ rest

  there : 50 ≤ length held
  there = go (length rest) refl
    where
      go : (k : ℕ) → length rest ≡ k → 50 ≤ length held
      go zero e = omega (arith, length-append held rest, s.size, e)
      go (suc k) e = (at.above (omega (arith, e))).0

  fields : fields_in (8 ∷ 8 ∷ 4 ∷ 8 ∷ 8 ∷ 8 ∷ 1 ∷ []) (drop 5 all) ≡ fields_of f
  fields = ap (λ xs. fields_in (8 ∷ 8 ∷ 4 ∷ 8 ∷ 8 ∷ 8 ∷ 1 ∷ []) (drop 5 xs)) (sym s.text) ∙ fields_at f s.is

  field_at : (i : ℕ) → slice_index (fields_in (8 ∷ 8 ∷ 4 ∷ 8 ∷ 8 ∷ 8 ∷ 1 ∷ []) (drop 5 all)) i ≡ slice_index (fields_of f) i
  field_at i = ap (λ xs. slice_index xs i) fields

  to_at : number_in 8 (drop 5 held) ≡ ipc.to
  to_at = sym (number_at 8 5 held rest (omega (arith, there))) ∙ field_at 0

  from_at : number_in 8 (drop 13 held) ≡ ipc.from
  from_at = sym (number_at 8 13 held rest (omega (arith, there))) ∙ (ap (number_in 8) (sym (drop-drop 8 5 all)) ∙ field_at 1)

  timeouts_at : number_in 4 (drop 21 held) ≡ ipc.timeouts
  timeouts_at = sym (number_at 4 21 held rest (omega (arith, there))) ∙ (ap (number_in 4) (sym (ap (drop 8) (drop-drop 8 5 all) ∙ drop-drop 8 13 all)) ∙ field_at 2)

  originator_at : number_in 8 (drop 25 held) ≡ ipc.originator
  originator_at = sym (number_at 8 25 held rest (omega (arith, there))) ∙ (ap (number_in 8) (sym (ap (λ xs. drop 4 (drop 8 xs)) (drop-drop 8 5 all) ∙ (ap (drop 4) (drop-drop 8 13 all) ∙ drop-drop 4 21 all))) ∙ field_at 3)

  to_tag : drop 8 (drop 4 (drop 8 (drop 8 (drop 5 all)))) ≡ drop 33 all
  to_tag = ap (λ xs. drop 8 (drop 4 (drop 8 xs))) (drop-drop 8 5 all) ∙ (ap (λ xs. drop 8 (drop 4 xs)) (drop-drop 8 13 all) ∙ (ap (drop 8) (drop-drop 4 21 all) ∙ drop-drop 8 25 all))

  tag_at : number_in 8 (drop 33 held) ≡ ipc.tag
  tag_at = sym (number_at 8 33 held rest (omega (arith, there))) ∙ (ap (number_in 8) (sym to_tag) ∙ field_at 4)

  acceptor_at : number_in 8 (drop 41 held) ≡ ipc.acceptor
  acceptor_at = sym (number_at 8 41 held rest (omega (arith, there))) ∙ (ap (number_in 8) (sym (ap (drop 8) to_tag ∙ drop-drop 8 33 all)) ∙ field_at 5)

  count_at : slice_index held 49 ≡ length ipc.buffer_words
  count_at = sym (byte_at 49 held) ∙ (sym (number_at 1 49 held rest (omega (arith, there))) ∙ (ap (number_in 1) (sym (ap (λ xs. drop 8 (drop 8 xs)) to_tag ∙ (ap (drop 8) (drop-drop 8 33 all) ∙ drop-drop 8 41 all))) ∙ field_at 6))

  abbrev head : List ℕ
  head = take 50 held

  head_size : start_size head ≡ 50 + 8 * (words_of ipc.tag + length ipc.buffer_words)
  head_size =
      let h50 = length-take-le 50 held there in
      let whole = take-append-drop 50 held in
      let tag = sym (number_at 8 33 head (drop 50 held) (omega (arith, h50))) ∙ (ap (λ xs. number_in 8 (drop 33 xs)) whole ∙ tag_at) in
      let count = sym (byte_at 49 head) ∙ (sym (number_at 1 49 head (drop 50 held) (omega (arith, h50))) ∙ (ap (λ xs. number_in 1 (drop 49 xs)) whole ∙ (byte_at 49 held ∙ count_at))) in
      let few = s.is.tail.0.few_words in
      let few_buffers = s.is.tail.0.few_buffer_words in
      rw (tag, count) (omega (arith, few, few_buffers))

  size_at : length held ≡ 50 + 8 * (words_of ipc.tag + length ipc.buffer_words)
  size_at =
      let low = at.below there in
      let words = s.is.tail.0.words in
      go (length rest) refl
    where
      go : (k : ℕ) → length rest ≡ k → length held ≡ 50 + 8 * (words_of ipc.tag + length ipc.buffer_words)
      go zero e = omega (arith, at.below there, s.is.tail.0.words, length-append held rest, s.size, e, head_size)
      go (suc k) e = omega (arith, at.below there, (at.above (omega (arith, e))).1, head_size)

  tail : drop 50 held ++ rest ≡ words_text ipc.words ++ (words_text ipc.buffer_words ++ ipc.payload)
  tail = sym (drop-append-le 50 held rest there) ∙ (ap (drop 50) (sym s.text) ∙ tail_at ipc)

  words_at : words_in (words_of ipc.tag) (drop 50 held) ≡ ipc.words
  words_at =
      let count = s.is.tail.0.words in
      sym (words_front (words_of ipc.tag) (drop 50 held) rest (omega (arith, size_at, length-drop 50 held)))
      ∙ (ap₂ (λ n xs. words_in n xs) (sym count) tail ∙ fields_again (replicate (length ipc.words) 8) ipc.words (words_text ipc.buffer_words ++ ipc.payload) s.is.tail.1)

  rest_at : drop (8 * words_of ipc.tag) (drop 50 held) ++ rest ≡ words_text ipc.buffer_words ++ ipc.payload
  rest_at =
      let count = s.is.tail.0.words in
      let long = length_words ipc.words in
      sym (drop-append-le (8 * words_of ipc.tag) (drop 50 held) rest (omega (arith, size_at, length-drop 50 held)))
      ∙ (ap (drop (8 * words_of ipc.tag)) tail ∙ drop_at (words_text ipc.words) (words_text ipc.buffer_words ++ ipc.payload) (8 * words_of ipc.tag) (omega (arith, long, count)))

  abbrev few : List ℕ
  few = drop (8 * words_of ipc.tag) (drop 50 held)

  few_size : length few ≡ 8 * length ipc.buffer_words
  few_size = omega (arith, size_at, length-drop 50 held, length-drop (8 * words_of ipc.tag) (drop 50 held))

  buffer_words_at : words_in (length ipc.buffer_words) few ≡ ipc.buffer_words
  buffer_words_at =
      sym (words_front (length ipc.buffer_words) few rest (omega (arith, few_size)))
      ∙ (ap (words_in (length ipc.buffer_words)) rest_at ∙ fields_again (replicate (length ipc.buffer_words) 8) ipc.buffer_words ipc.payload s.is.tail.2)

  payload_at : rest ≡ ipc.payload
  payload_at =
      sym (drop_at few rest (8 * length ipc.buffer_words) few_size)
      ∙ (ap (drop (8 * length ipc.buffer_words)) rest_at ∙ drop_at (words_text ipc.buffer_words) ipc.payload (8 * length ipc.buffer_words) (length_words ipc.buffer_words))

  kind_is : slice_index held 4 ≡ 2
  kind_is =
      sym (byte_at 4 held) ∙ (sym (number_at 1 4 held rest (omega (arith, there))) ∙ (byte_at 4 all ∙ (ap (λ xs. slice_index xs 4) (sym s.text) ∙ kind_at f)))

  ipc_at : IpcAt held rest ipc
  ipc_at = record {
    kind = kind_is;
    size = size_at;
    to = sym to_at;
    from = sym from_at;
    timeouts = sym timeouts_at;
    originator = sym originator_at;
    tag = sym tag_at;
    acceptor = sym acceptor_at;
    buffer_count = count_at;
    words = words_at;
    buffer_words = buffer_words_at;
    payload = payload_at;
    few_words = s.is.tail.0.few_words;
    few_buffer_words = s.is.tail.0.few_buffer_words;
  }

-- an outcome is for clients
no_outcome : (end : Option CallEnd) → side_of (ipcr_kind end) ≡ Server → ⊥
no_outcome None e = cc
no_outcome (Some end) e = cc

spelled_at : (held rest : List ℕ) (f : Frame) → Spells f (held ++ rest) → Stands held rest → FrameAt held rest f
spelled_at held rest (frame.Hello number version) s at = hello_at held rest number version s at
spelled_at held rest (frame.Ipc ipc) s at = ipc_at held rest ipc s at
spelled_at held rest (frame.Exreg target control) s at = exreg_at held rest target control s at
spelled_at held rest frame.Bye s at = bye_at held rest s at
spelled_at held rest (frame.Welcome id) s at = let no = s.side in absurd (cc)
spelled_at held rest (frame.Ipcr ipcr) s at = absurd (no_outcome ipcr.end s.side)
spelled_at held rest (frame.Exregr result control code None) s at = let no = s.side in absurd (cc)
spelled_at held rest (frame.Exregr result control code (Some moment)) s at = let no = s.side in absurd (cc)
spelled_at held rest (frame.Refused n) s at = let no = s.side in absurd (cc)
spelled_at held rest (frame.Fault class n) s at = let no = s.side in absurd (cc)

pub frame_at : (held rest : List ℕ) (f : Frame) → IsBytes (held ++ rest) → Stands held rest → IsWhole (held ++ rest) f → FrameAt held rest f
frame_at held rest f h at whole = spelled_at held rest f (spells f (held ++ rest) h whole) at

-- the same of a struct's fields
module _ (start payload : List ℕ) (len lost : ℕ) (gone : List ℕ) (held : Kept) (f : Frame) (front back : List ℕ) (view : record { bytes = take len start ++ payload; lost = lost } ≡ held) (size : length (take len start) ≡ len) (below : 50 ≤ len → len ≤ start_size (take 50 start)) (above : 0 < length payload + lost → (50 ≤ len) × (start_size (take 50 start) ≤ len)) (are : AreGone held gone) (front_is : front ≡ take len start) (back_is : back ≡ payload) (bytes : IsBytes (front ++ back)) (whole : IsWhole (held.bytes ++ gone) f) where
  pub held_at : FrameAt front (back ++ gone) f
  held_at =
      let lost_is : lost ≡ held.lost = ap (λ (k : Kept). k.lost) view in
      let joined : held.bytes ++ gone ≡ take len start ++ (payload ++ gone) = ap (λ (k : Kept). k.bytes ++ gone) (sym view) ∙ append_assoc (take len start) payload gone in
      let front_bytes : IsBytes (take len start ++ payload) = subst IsBytes (ap₂ (λ xs ys. xs ++ ys) front_is back_is) bytes in
      let all_bytes : IsBytes (take len start ++ (payload ++ gone)) = subst IsBytes (append_assoc (take len start) payload gone) (bytes_append (take len start ++ payload) gone front_bytes are.are_bytes) in
      let head : 50 ≤ len → take 50 (take len start) ≡ take 50 start = λ there. take-take 50 len start there in
      let total = length-append payload gone in
      let stands : Stands (take len start) (payload ++ gone) = record {
        below = λ there. let low : 50 ≤ len = omega (arith, there, size) in rw (head low) (omega (arith, size, below low));
        above = λ some.
            let b = above (omega (arith, some, total, lost_is, are.counted)) in
            (omega (arith, size, b.0), rw (head b.0) (omega (arith, size, b.1)));
      } in
      rw (front_is, back_is) (frame_at (take len start) (payload ++ gone) f all_bytes stands (subst (λ xs. IsWhole xs f) joined whole))

  pub held_whole : lost ≡ 0 → FrameAt front back f
  held_whole none =
      let nothing : gone ≡ [] = nil_from_length gone (are.counted ∙ (sym (ap (λ (k : Kept). k.lost) view) ∙ none)) in
      subst (λ xs. FrameAt front xs f) (ap (λ xs. back ++ xs) nothing ∙ append-nil back) held_at

  pub some_lost : 0 < lost → 0 < length (back ++ gone)
  some_lost some = omega (arith, some, length-append back gone, are.counted, ap (λ (k : Kept). k.lost) view)

-- What an encoder lends are the bytes that come next.
use Rattle.std.proofs.Common.{◌≡◌, ℕ, ◌+◌, ◌-◌, ◌≤◌, ◌<◌, Bool, true, false, List, [], ◌∷◌, ◌++◌, length, take, drop, nat_lt, nat_le, refl, sym, ap, ◌∙◌, arith, append_assoc, length-append, length-take}
use Rattle.std.proofs.Math.Seq.{drop-append-add, take-append_seam, take-length}
use Rattle.std.proofs.lemmas.List.{drop-append-le}
use Rattle.std.proofs.lemmas.Bool.{lt-ltb, le-ltb, ltb-true, ltb-false, leb-true}
use Rattle.ipc_items.specs.Pieces.{PlacedBytes}
use Rattle.ipc_frame.specs.declared.encoding.Source.{Source}
use Rattle.ipc_frame.specs.declared.encoding.Source.TheVariants as source
use Rattle.ipc_frame.specs.declared.frame.Frame.{Frame}
use Rattle.ipc_frame.specs.declared.frame.Frame.TheVariants as frame
use Rattle.ipc_frame.specs.Numbers.{number_text, fields_text, words_text}
use Rattle.ipc_frame.specs.Parts.{piece_text, pieces_text}
use Rattle.ipc_frame.specs.Frames.{kind_byte, kind_of, widths, fields_of, tail_of, size_of, body_of, spelling}
use Rattle.ipc_frame.specs.Replies.{pieces_told, reply_of, ipcr_of}
use Rattle.ipc_frame.specs.Sources.{frame_of_source}
use Rattle.ipc_frame.specs.Lending.{lent_last, lent_piece, lent_pieces, lent}
use Rattle.ipc_frame.proofs.NumberLemmas.{length_number}
use Rattle.ipc_frame.proofs.SpellingLemmas.{length_spelling}

-- steps over pieces
lent_head : (place : ℕ) (piece : PlacedBytes) (pieces : List PlacedBytes) → place < 12 → lent_piece place (piece ∷ pieces) ≡ []
lent_head place piece pieces h = rw (lt-ltb place 12 h) refl

lent_here : (place : ℕ) (piece : PlacedBytes) (pieces : List PlacedBytes) → 12 ≤ place → place - 12 < length piece.bytes → lent_piece place (piece ∷ pieces) ≡ drop (place - 12) piece.bytes
lent_here place piece pieces h k = rw (le-ltb place 12 h, lt-ltb (place - 12) (length piece.bytes) k) refl

lent_next : (place : ℕ) (piece : PlacedBytes) (pieces : List PlacedBytes) → 12 ≤ place → length piece.bytes ≤ place - 12 → lent_piece place (piece ∷ pieces) ≡ lent_piece (place - 12 - length piece.bytes) pieces
lent_next place piece pieces h k = rw (le-ltb place 12 h, le-ltb (place - 12) (length piece.bytes) k) refl

-- some bytes are the first of others
pub record Leads (lent text : List ℕ) : Type 0 where
  pub leads : lent ≡ take (length lent) text

pub leads_within : (lent text : List ℕ) → Leads lent text → length lent ≤ length text
leads_within lent text h = omega (arith, ap (λ (xs : List ℕ). length xs) h.leads, length-take (length lent) text)

leads_nothing : (lent text : List ℕ) → lent ≡ [] → Leads lent text
leads_nothing lent text none = rw none (record { leads = refl })

leads_whole : (lent text : List ℕ) → lent ≡ text → Leads lent text
leads_whole lent text same = rw same (record { leads = sym (take-length text) })

leads_front : (lent rest text : List ℕ) → text ≡ lent ++ rest → Leads lent text
leads_front lent rest text joined = rw joined (record { leads = sym (take-append_seam lent rest) })

-- behind the pointer and the length of a piece
drop_head : (place : ℕ) (piece : PlacedBytes) (pieces : List PlacedBytes) → 12 ≤ place → drop place (pieces_text (piece ∷ pieces)) ≡ drop (place - 12) (piece.bytes ++ pieces_text pieces)
drop_head place piece pieces h =
    let pointer = number_text 8 piece.pointer in
    let size = number_text 4 (length piece.bytes) in
    let others = pieces_text pieces in
    let twelve : length (pointer ++ size) ≡ 12 = omega (arith, length-append pointer size, length_number 8 piece.pointer, length_number 4 (length piece.bytes)) in
    let there : place ≡ length (pointer ++ size) + (place - 12) = omega arith in
    ap (λ n. drop n (piece_text piece ++ others)) there
    ∙ (ap (drop (length (pointer ++ size) + (place - 12))) (append_assoc (pointer ++ size) piece.bytes others)
    ∙ drop-append-add (pointer ++ size) (piece.bytes ++ others) (place - 12))

drop_past : (n : ℕ) (xs ys : List ℕ) → length xs ≤ n → drop n (xs ++ ys) ≡ drop (n - length xs) ys
drop_past n xs ys h =
    let there : n ≡ length xs + (n - length xs) = omega arith in
    ap (λ m. drop m (xs ++ ys)) there ∙ drop-append-add xs ys (n - length xs)

-- what is lent from a place in the text of pieces on stands there, if so of the other pieces
piece_stands : (place : ℕ) (piece : PlacedBytes) (pieces : List PlacedBytes)
    → ((n : ℕ) → Leads (lent_piece n pieces) (drop n (pieces_text pieces)))
    → Leads (lent_piece place (piece ∷ pieces)) (drop place (pieces_text (piece ∷ pieces)))
piece_stands place piece pieces others = in_head (nat_lt place 12) refl
  where
    in_bytes : (here : Bool) → nat_lt (place - 12) (length piece.bytes) ≡ here → 12 ≤ place → Leads (lent_piece place (piece ∷ pieces)) (drop place (pieces_text (piece ∷ pieces)))
    in_bytes true e h =
        let k = ltb-true (place - 12) (length piece.bytes) e in
        leads_front _ (pieces_text pieces) _
        (drop_head place piece pieces h
        ∙ (drop-append-le (place - 12) piece.bytes (pieces_text pieces) (omega arith)
        ∙ ap (λ xs. xs ++ pieces_text pieces) (sym (lent_here place piece pieces h k))))
    in_bytes false e h =
        let k = ltb-false (place - 12) (length piece.bytes) e in
        rw (lent_next place piece pieces h k, drop_head place piece pieces h, drop_past (place - 12) piece.bytes (pieces_text pieces) k)
        (others (place - 12 - length piece.bytes))

    in_head : (here : Bool) → nat_lt place 12 ≡ here → Leads (lent_piece place (piece ∷ pieces)) (drop place (pieces_text (piece ∷ pieces)))
    in_head true e = leads_nothing _ _ (lent_head place piece pieces (ltb-true place 12 e))
    in_head false e = in_bytes (nat_lt (place - 12) (length piece.bytes)) refl (ltb-false place 12 e)

lent_piece_stands : (place : ℕ) (pieces : List PlacedBytes) → Leads (lent_piece place pieces) (drop place (pieces_text pieces))
lent_piece_stands place [] = record { leads = refl }
lent_piece_stands place (piece ∷ pieces) = piece_stands place piece pieces (λ n. lent_piece_stands n pieces)

-- so many bytes before the end of a text are those before the end of its last part
drop_last : (head tail : List ℕ) (left : ℕ) → left ≤ length tail → drop (length (head ++ tail) - left) (head ++ tail) ≡ drop (length tail - left) tail
drop_last head tail left h =
    let there : length (head ++ tail) - left ≡ length head + (length tail - left) = omega (arith, length-append head tail) in
    ap (λ n. drop n (head ++ tail)) there ∙ drop-append-add head tail (length tail - left)

lent_last_stands : (left : ℕ) (head text : List ℕ) → Leads (lent_last left text) (drop (length (head ++ text) - left) (head ++ text))
lent_last_stands left head text = within (nat_le left (length text)) refl
  where
    within : (is : Bool) → nat_le left (length text) ≡ is → Leads (lent_last left text) (drop (length (head ++ text) - left) (head ++ text))
    within true e = leads_whole _ _ (rw e (sym (drop_last head text left (leb-true left (length text) e))))
    within false e = leads_nothing _ _ (rw e refl)

lent_pieces_stand : (left : ℕ) (head : List ℕ) (pieces : List PlacedBytes) → Leads (lent_pieces left pieces) (drop (length (head ++ pieces_text pieces) - left) (head ++ pieces_text pieces))
lent_pieces_stand left head pieces = within (nat_le left (length (pieces_text pieces))) refl
  where
    within : (is : Bool) → nat_le left (length (pieces_text pieces)) ≡ is → Leads (lent_pieces left pieces) (drop (length (head ++ pieces_text pieces) - left) (head ++ pieces_text pieces))
    within true e = rw (e, drop_last head (pieces_text pieces) left (leb-true left (length (pieces_text pieces)) e)) (lent_piece_stands (length (pieces_text pieces) - left) pieces)
    within false e = leads_nothing _ _ (rw e refl)

-- the last part of a frame: the payload of a call, the pieces of an outcome
front_of : Frame → List ℕ → List ℕ
front_of f head = number_text 4 (size_of f) ++ (number_text 1 (kind_byte (kind_of f)) ++ (fields_text (widths (kind_of f)) (fields_of f) ++ head))

ends_with : (f : Frame) (head last : List ℕ) → tail_of f ≡ head ++ last → spelling f ≡ front_of f head ++ last
unfolding spelling body_of front_of
ends_with f head last e = simp (e, append_assoc)

-- what is lent stands so many bytes before the end
pub lent_stands : (s : Source) (left : ℕ) → Leads (lent s left) (drop (length (spelling (frame_of_source s)) - left) (spelling (frame_of_source s)))
lent_stands (source.Frame (frame.Ipc ipc)) left =
    let head = front_of (frame.Ipc ipc) (words_text ipc.words ++ words_text ipc.buffer_words) in
    rw (ends_with (frame.Ipc ipc) (words_text ipc.words ++ words_text ipc.buffer_words) ipc.payload refl)
    (lent_last_stands left head ipc.payload)
lent_stands (source.Outcome version outcome) left =
    let parts = reply_of version outcome in
    let count = words_text parts.words ++ number_text 1 (length parts.pieces) in
    rw (ends_with (ipcr_of version outcome) count (pieces_text parts.pieces) refl)
    (lent_pieces_stand left (front_of (ipcr_of version outcome) count) (pieces_told outcome))
lent_stands (source.Frame _) left = leads_nothing _ _ refl

-- with as many bytes left as are not given
pub lends_next : (s : Source) (given size left : ℕ) (lent_bytes view : List ℕ) → given ≤ length (spelling (frame_of_source s)) → size ≡ size_of (frame_of_source s) → left ≡ 4 + size - given → lent_bytes ≡ lent s left → drop given (spelling (frame_of_source s)) ≡ view → Leads lent_bytes view
lends_next s given size left lent_bytes view within is_size is_left is_lent is_view =
    let there : length (spelling (frame_of_source s)) - left ≡ given = omega (arith, length_spelling (frame_of_source s)) in
    rw (is_lent, ← is_view, ← there) (lent_stands s left)

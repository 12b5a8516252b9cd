-- The pieces of the strings of a message, string by string.
use Rattle.std.proofs.Common.{◌≡◌, ℕ, ◌+◌, ◌*◌, ◌^◌, ◌<◌, ◌≤◌, ◌==◌, nat_lt, true, false, List, [], ◌∷◌, ◌++◌, None, IfNone, Ok, Result, length, take, drop, map, get_or, sum_by, refl, sym, ap, ap₂, ◌∙◌, arith, length-append, length-drop, length-take}
use Rattle.std.specs.List.{flat_map}
use Rattle.std.proofs.lemmas.List.{nil_from_length, take_more, map-append}
use Rattle.ipc_words.specs.Limits.{max_frame_body}
use Rattle.ipc_items.specs.declared.buffer_list.Substring.{Substring}
use Rattle.ipc_items.specs.declared.placing.Piece.{Piece}
use Rattle.ipc_items.specs.Placed.{placed}
use Rattle.ipc_items.specs.Strings.{AreStrings, size_of}
use Rattle.ipc_items.specs.Buffers.{AreBuffers}
use Rattle.ipc_items.specs.Pieces.{PlacedBytes, put_piece, pieces, pieces_of_all}
use Rattle.ipc_history.specs.Outcomes.{OutcomeParts, HasItsWords, pieces_in}
use Rattle.ipc_frame.specs.declared.fault.FrameFault.{FrameFault}
use Rattle.ipc_frame.specs.declared.version.WireVersion.{WireVersion}
use Rattle.ipc_frame.specs.Versions.{end_of, version_told}
use Rattle.ipc_frame.specs.Parts.{IpcrParts, IsIpcr, words_of, pieces_text, end_size}
use Rattle.ipc_frame.specs.Making.{ipcr_fault}
use Rattle.ipc_frame.specs.Replies.{pieces_told, reply_of}
use Rattle.ipc_frame.proofs.VersionLemmas.{few_words}
use Rattle.ipc_frame.proofs.WindowLemmas.{piece_size}
use Rattle.std.proofs.lemmas.List.Sums.{sum_by-cons}
use Rattle.std.proofs.lemmas.Bool.{le-ltb, eq-eqb, eqb-true}

-- without strings there are no pieces
pub none_told : (outcome : OutcomeParts) → (length outcome.strings == 0) ≡ true → pieces_told outcome ≡ []
none_told outcome none =
    ap (λ strings. flat_map (λ pieces. pieces) (pieces_of_all outcome.buffers strings)) (nil_from_length outcome.strings (eqb-true (length outcome.strings) 0 none))

-- how many pieces there are, and how many bytes spell them
put_count : (pointer : ℕ) (bytes : List ℕ) (others : List PlacedBytes) → length (put_piece pointer bytes others) ≤ 1 + length others
put_count pointer [] others = omega arith
put_count pointer (byte ∷ bytes) others = omega arith

put_size : (pointer : ℕ) (bytes : List ℕ) (others : List PlacedBytes) → length (pieces_text (put_piece pointer bytes others)) ≤ 12 + length bytes + length (pieces_text others)
put_size pointer [] others = omega arith
put_size pointer (byte ∷ bytes) others = omega (arith, piece_size (record { pointer = pointer; bytes = byte ∷ bytes }) others)

string_count : (parts : List Substring) (bytes : List ℕ) → length (pieces parts bytes) ≤ length parts
string_count [] bytes = omega arith
string_count (part ∷ parts) bytes =
    omega (arith, put_count part.pointer (take part.length bytes) (pieces parts (drop part.length bytes)), string_count parts (drop part.length bytes))

string_size : (parts : List Substring) (bytes : List ℕ) → length (pieces_text (pieces parts bytes)) ≤ 12 * length parts + length bytes
string_size [] bytes = omega arith
string_size (part ∷ parts) bytes =
    omega (arith, put_size part.pointer (take part.length bytes) (pieces parts (drop part.length bytes)), string_size parts (drop part.length bytes), length-take part.length bytes, length-drop part.length bytes)

-- substrings of all buffer strings
abbrev substrings : List (List Substring) → ℕ
substrings buffers = sum_by (λ parts. length parts) buffers

all_count : (buffers : List (List Substring)) (strings : List (List ℕ)) → length (flat_map (λ ps. ps) (pieces_of_all buffers strings)) ≤ substrings buffers
all_count buffers [] = omega arith
all_count [] (string ∷ strings) = omega arith
all_count (buffer ∷ buffers) (string ∷ strings) =
    omega (arith, length-append (pieces buffer string) (flat_map (λ ps. ps) (pieces_of_all buffers strings)), string_count buffer string, all_count buffers strings, sum_by-cons (λ (parts : List Substring). length parts) buffer buffers)

pieces_text_joined : (a b : List PlacedBytes) → length (pieces_text (a ++ b)) ≡ length (pieces_text a) + length (pieces_text b)
pieces_text_joined [] b = omega arith
pieces_text_joined (piece ∷ a) b = omega (arith, piece_size piece (a ++ b), piece_size piece a, pieces_text_joined a b)

all_size : (buffers : List (List Substring)) (strings : List (List ℕ)) → length (pieces_text (flat_map (λ ps. ps) (pieces_of_all buffers strings))) ≤ 12 * substrings buffers + size_of strings
all_size buffers [] = omega arith
all_size [] (string ∷ strings) = omega arith
all_size (buffer ∷ buffers) (string ∷ strings) =
    omega (arith, pieces_text_joined (pieces buffer string) (flat_map (λ ps. ps) (pieces_of_all buffers strings)), string_size buffer string, all_size buffers strings, sum_by-cons (λ (parts : List Substring). length parts) buffer buffers, sum_by-cons (λ (s : List ℕ). length s) string strings)

-- an outcome within its limits makes a frame
pub reply_is : (version : WireVersion) (o : OutcomeParts) → AreStrings o.strings → AreBuffers o.buffers → HasItsWords o.tag o.words → IsIpcr (reply_of version o)
reply_is version o strings buffers words =
    let count = all_count o.buffers o.strings in
    let size = all_size o.buffers o.strings in
    record {
      words = words.counted;
      few_words = omega (arith, words.counted, words.few);
      few_pieces = omega (arith, count, buffers.1);
      within = omega (arith, few_words (version_told (end_of version o)), size, buffers.1, strings.1, words.few);
    }

pub reply_fits : (version : WireVersion) (o : OutcomeParts) → IsIpcr (reply_of version o) → ipcr_fault (reply_of version o) ≡ None
reply_fits version o is =
    let few : nat_lt 63 (words_of o.tag) ≡ false = le-ltb 63 (words_of o.tag) is.few_words in
    let counted : (length o.words == words_of o.tag) ≡ true = eq-eqb (length o.words) (words_of o.tag) is.words in
    let all = flat_map (λ ps. ps) (pieces_in o) in
    let few_pieces : nat_lt 255 (length all) ≡ false = le-ltb 255 (length all) is.few_pieces in
    let short : nat_lt max_frame_body (34 + end_size (end_of version o) + 8 * length o.words + length (pieces_text all)) ≡ false = le-ltb max_frame_body (34 + end_size (end_of version o) + 8 * length o.words + length (pieces_text all)) is.within in
    rw (few, counted, few_pieces, short) refl

-- one more copy
pub copy_step : (pieces : List Piece) (i : ℕ) (d : Piece) (copies new : List PlacedBytes) (copy : PlacedBytes) → i < length pieces → copy ≡ placed (get_or pieces i d) → new ≡ copies ++ copy ∷ [] → copies ≡ map placed (take i pieces) → new ≡ map placed (take (i + 1) pieces)
copy_step pieces i d copies new copy h is_copy is_new e =
    is_new ∙ (ap₂ (λ xs x. xs ++ x ∷ []) e is_copy ∙ (sym (map-append placed (take i pieces) (get_or pieces i d ∷ [])) ∙ ap (λ xs. map placed xs) (sym (take_more pieces i d h))))

pub made_of : (version : WireVersion) (o : OutcomeParts) (parts : IpcrParts) (result : Result IpcrParts FrameFault) → ipcr_fault (reply_of version o) ≡ None → parts ≡ reply_of version o → IfNone (ipcr_fault parts) (result ≡ Ok parts) → result ≡ Ok (reply_of version o)
made_of version o parts result none same made =
    let no_fault : ipcr_fault parts ≡ None = ap ipcr_fault same ∙ none in
    let made2 = rw no_fault at made in
    made2 ∙ ap Ok same

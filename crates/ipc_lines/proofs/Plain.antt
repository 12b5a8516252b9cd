-- No field of a line holds a newline or a space.
use Rattle.std.proofs.Common.{◌≡◌, ℕ, zero, suc, ◌+◌, ◌<◌, ◌/◌, ◌%◌, Bool, true, false, List, [], ◌∷◌, ◌++◌, Option, Some, None, get_or, map, refl, ◌∙◌, arith}
use Rattle.std.specs.Prelude.{◌==◌, ◌&&◌, not, nat_lt, if◌then◌else◌, codes}
use Rattle.std.specs.Fmt.{digits, digits_onto, digit_glyph, decimal}
use Rattle.std.specs.List.{list_all, AllByRecursion, join_with_byte}
use Rattle.std.proofs.lemmas.Bool.{ne_eqb, and_parts}
use Rattle.std.proofs.lemmas.List.Folds.{list_all-append}
use Rattle.hex.specs.Hex.{encode_lower, encode_with, lower_digits}
use Rattle.ipc_words.specs.ThreadId.{nilthread, anythread, anylocalthread, number_of, version_of}
use Rattle.ipc_items.specs.declared.buffer_list.Substring.{Substring}
use Rattle.ipc_items.specs.Pieces.{PlacedBytes}
use Rattle.ipc_lines.specs.Texts.{hex_text, id_text, listed, words_text, bytes_text, strings_text, substring_text, buffer_text, buffers_text, piece_text, pieces_text}

-- neither a newline nor a space
abbrev pub is_plain : ℕ → Bool
is_plain byte = not (byte == 10) && not (byte == 32)

abbrev pub IsPlain : List ℕ → Type 0
IsPlain text = list_all is_plain text ≡ true

abbrev pub ArePlain : List (List ℕ) → Type 0
ArePlain fields = AllByRecursion IsPlain fields

above : (byte : ℕ) → 32 < byte → is_plain byte ≡ true
above byte h =
    let a : (byte == 10) ≡ false = ne_eqb byte 10 (λ e. absurd (omega arith)) in
    let b : (byte == 32) ≡ false = ne_eqb byte 32 (λ e. absurd (omega arith)) in
    rw (a, b) refl

-- one or the other, and one after the other
either : {X : Type 0} (P : X → Type 0) (b : Bool) (x y : X) → P x → P y → P (if b then x else y)
either P true x y p q = p
either P false x y p q = q

and_true : (a b : Bool) → a ≡ true → b ≡ true → (a && b) ≡ true
and_true a b p q = rw (p, q) refl

plain_append : (xs ys : List ℕ) → IsPlain xs → IsPlain ys → IsPlain (xs ++ ys)
plain_append xs ys p q = list_all-append is_plain xs ys ∙ and_true (list_all is_plain xs) (list_all is_plain ys) p q

plain_cons : (x : ℕ) (xs : List ℕ) → is_plain x ≡ true → IsPlain xs → IsPlain (x ∷ xs)
plain_cons x xs p q = and_true (is_plain x) (list_all is_plain xs) p q

-- digits
plain_glyph : (d : ℕ) → is_plain (digit_glyph false d) ≡ true
plain_glyph d = either (λ byte. is_plain byte ≡ true) (nat_lt d 10) (48 + d) (87 + d) (above (48 + d) (omega arith)) (above (87 + d) (omega arith))

plain_digits_onto : (k base n : ℕ) (acc : List ℕ) → IsPlain acc → IsPlain (digits_onto k base false n acc)
plain_digits_onto zero base n acc p = p
plain_digits_onto (suc k) base n acc p =
    let q = plain_cons (digit_glyph false (n % base)) acc (plain_glyph (n % base)) p in
    either IsPlain (n / base == 0) (digit_glyph false (n % base) ∷ acc) (digits_onto k base false (n / base) (digit_glyph false (n % base) ∷ acc)) q
    (plain_digits_onto k base (n / base) (digit_glyph false (n % base) ∷ acc) q)

plain_digits : (base n : ℕ) → IsPlain (digits base false n)
unfolding digits
plain_digits base n = plain_digits_onto 64 base n [] refl

pub plain_decimal : (n : ℕ) → IsPlain (decimal n)
plain_decimal n = plain_digits 10 n

pub plain_hex : (n : ℕ) → IsPlain (hex_text n)
plain_hex n = plain_append (codes "0x") (digits 16 false n) refl (plain_digits 16 n)

-- bytes
plain_at : (xs : List ℕ) (k : ℕ) → IsPlain xs → is_plain (get_or xs k 0) ≡ true
plain_at [] k p = refl
plain_at (x ∷ xs) zero p = (and_parts (is_plain x) (list_all is_plain xs) p).0
plain_at (x ∷ xs) (suc k) p = plain_at xs k (and_parts (is_plain x) (list_all is_plain xs) p).1

plain_encode : (t bytes : List ℕ) → IsPlain t → IsPlain (encode_with t bytes)
unfolding encode_with
plain_encode t [] p = refl
plain_encode t (b ∷ bytes) p =
    plain_cons (get_or t (b / 16) 0) (get_or t (b % 16) 0 ∷ encode_with t bytes) (plain_at t (b / 16) p)
    (plain_cons (get_or t (b % 16) 0) (encode_with t bytes) (plain_at t (b % 16) p) (plain_encode t bytes p))

plain_bytes : (bytes : List ℕ) → IsPlain (bytes_text bytes)
plain_bytes bytes = plain_append (codes "x") (encode_lower bytes) refl (plain_encode lower_digits bytes refl)

-- lists
plain_join : (c : ℕ) → is_plain c ≡ true → (xs : List (List ℕ)) → ArePlain xs → IsPlain (join_with_byte c xs)
plain_join c p [] q = refl
plain_join c p (x ∷ []) q = q.0
plain_join c p (x ∷ y ∷ xs) q = plain_append x (c ∷ join_with_byte c (y ∷ xs)) q.0 (plain_cons c (join_with_byte c (y ∷ xs)) p (plain_join c p (y ∷ xs) q.1))

plain_map : {X : Type 0} (f : X → List ℕ) → ((x : X) → IsPlain (f x)) → (xs : List X) → ArePlain (map f xs)
plain_map f p [] = tt
plain_map f p (x ∷ xs) = (p x, plain_map f p xs)

plain_listed : {X : Type 0} (none : List ℕ) (c : ℕ) (f : X → List ℕ) → IsPlain none → is_plain c ≡ true → ((x : X) → IsPlain (f x)) → (xs : List X) → IsPlain (listed none c f xs)
plain_listed none c f p q r [] = p
plain_listed none c f p q r (x ∷ xs) = plain_join c q (map f (x ∷ xs)) (plain_map f r (x ∷ xs))

pub plain_words : (words : List ℕ) → IsPlain (words_text words)
plain_words words = plain_listed (codes "-") 44 hex_text refl refl plain_hex words

pub plain_strings : (strings : List (List ℕ)) → IsPlain (strings_text strings)
plain_strings strings = plain_listed (codes "-") 44 bytes_text refl refl plain_bytes strings

plain_substring : (part : Substring) → IsPlain (substring_text part)
plain_substring part = plain_append (decimal part.length ++ codes "@") (hex_text part.pointer) (plain_append (decimal part.length) (codes "@") (plain_decimal part.length) refl) (plain_hex part.pointer)

plain_buffer : (parts : List Substring) → IsPlain (buffer_text parts)
plain_buffer parts = plain_listed [] 43 substring_text refl refl plain_substring parts

pub plain_buffers : (buffers : Option (List (List Substring))) → IsPlain (buffers_text buffers)
plain_buffers None = refl
plain_buffers (Some buffers) = plain_listed (codes "s") 44 buffer_text refl refl plain_buffer buffers

plain_piece : (piece : PlacedBytes) → IsPlain (piece_text piece)
plain_piece piece = plain_append (hex_text piece.pointer ++ codes ":") (bytes_text piece.bytes) (plain_append (hex_text piece.pointer) (codes ":") (plain_hex piece.pointer) refl) (plain_bytes piece.bytes)

pub plain_pieces : (pieces : List PlacedBytes) → IsPlain (pieces_text pieces)
plain_pieces pieces = plain_listed (codes "-") 44 piece_text refl refl plain_piece pieces

-- ids
pub plain_id : (id : ℕ) → IsPlain (id_text id)
plain_id id =
    let number = plain_append (decimal (number_of id) ++ codes ".") (decimal (version_of id)) (plain_append (decimal (number_of id)) (codes ".") (plain_decimal (number_of id)) refl) (plain_decimal (version_of id)) in
    either IsPlain (id == nilthread) _ _ refl (either IsPlain (id == anythread) _ _ refl (either IsPlain (id == anylocalthread) _ _ refl (either IsPlain (id % 64 == 0) _ _ (plain_hex id) number)))

-- Which bytes stand in the texts: none below a bound, so no separator below it.
use Rattle.std.proofs.Common.{◌≡◌, ◌≢◌, ℕ, suc, false, ◌/◌, ◌%◌, ◌<◌, ◌≤◌, List, [], ◌∷◌, ◌++◌, slice_index, map, codes, Option, Some, None, IfSome, arith}
use Rattle.std.specs.List.{All, join_with_byte}
use Rattle.std.specs.Fmt.{decimal, digits}
use Rattle.std.proofs.lemmas.List.Elements.{All-head, All-tail, All-nil, All-cons, All-append, All-weaker, All-same}
use Rattle.hex.specs.Hex.{IsBytes, encode_with, encode_lower, lower_digits, hex_digit_value}
use Rattle.hex.proofs.HexLemmas.{IsDigits-lower_digits}
use Rattle.ipc_words.specs.ThreadId.{number_of, version_of}
use Rattle.ipc_items.specs.declared.buffer_list.Substring.{Substring}
use Rattle.ipc_lines.specs.Texts.{hex_text, id_text, listed, words_text, bytes_text, strings_text, substring_text, buffer_text, buffers_text}
use Rattle.ipc_lines.specs.Reading.{AreWords, IsWord, IsSubstring}
use Rattle.ipc_lines.proofs.ListTexts.{Lacks}
use Rattle.ipc_lines.proofs.Numerals.{digits_high}
use Rattle.ipc_lines.proofs.Ids.{is_nil, is_any, is_local, is_plain, is_numbered, id_form}

-- no byte is below a bound
abbrev pub High : ℕ → List ℕ → Type 0
High low text = All (λ byte. low ≤ byte) text

pub lower : (low bound : ℕ) (text : List ℕ) → low ≤ bound → High bound text → High low text
lower low bound text le h = All-weaker (λ byte. bound ≤ byte) (λ byte. low ≤ byte) (λ byte g. omega arith) text h

pub lacks : (separator bound : ℕ) (text : List ℕ) → separator < bound → High bound text → Lacks separator text
lacks separator bound text lt h = All-weaker (λ byte. bound ≤ byte) (λ byte. byte ≢ separator) (λ byte g e. omega arith) text h

pub decimal_high : (n : ℕ) → High 48 (decimal n)
decimal_high n = digits_high 10 (omega arith) n

pub hex_high : (n : ℕ) → High 48 (hex_text n)
hex_high n = All-cons (λ b. 48 ≤ b) 48 (120 ∷ digits 16 false n) (omega arith) (All-cons (λ b. 48 ≤ b) 120 (digits 16 false n) (omega arith) (digits_high 16 (omega arith) n))

pub id_high : (id : ℕ) → High 46 (id_text id)
id_high id = elim (id_form id) [
  | is_nil p q ↦ All-same (λ b. 46 ≤ b) (id_text id) (codes "nil") q (All-cons (λ b. 46 ≤ b) 110 (105 ∷ 108 ∷ []) (omega arith) (All-cons (λ b. 46 ≤ b) 105 (108 ∷ []) (omega arith) (All-cons (λ b. 46 ≤ b) 108 ([]) (omega arith) (All-nil (λ b. 46 ≤ b)))))
  | is_any p q ↦ All-same (λ b. 46 ≤ b) (id_text id) (codes "any") q (All-cons (λ b. 46 ≤ b) 97 (110 ∷ 121 ∷ []) (omega arith) (All-cons (λ b. 46 ≤ b) 110 (121 ∷ []) (omega arith) (All-cons (λ b. 46 ≤ b) 121 ([]) (omega arith) (All-nil (λ b. 46 ≤ b)))))
  | is_local p q ↦ All-same (λ b. 46 ≤ b) (id_text id) (codes "local") q (All-cons (λ b. 46 ≤ b) 108 (111 ∷ 99 ∷ 97 ∷ 108 ∷ []) (omega arith) (All-cons (λ b. 46 ≤ b) 111 (99 ∷ 97 ∷ 108 ∷ []) (omega arith) (All-cons (λ b. 46 ≤ b) 99 (97 ∷ 108 ∷ []) (omega arith) (All-cons (λ b. 46 ≤ b) 97 (108 ∷ []) (omega arith) (All-cons (λ b. 46 ≤ b) 108 ([]) (omega arith) (All-nil (λ b. 46 ≤ b)))))))
  | is_plain p q r ↦ All-same (λ b. 46 ≤ b) (id_text id) (hex_text id) r (lower 46 48 (hex_text id) (omega arith) (hex_high id))
  | is_numbered p q ↦ All-same (λ b. 46 ≤ b) (id_text id) (decimal (number_of id) ++ codes "." ++ decimal (version_of id)) q
      (All-append (λ b. 46 ≤ b) (decimal (number_of id) ++ codes ".") (decimal (version_of id))
      (All-append (λ b. 46 ≤ b) (decimal (number_of id)) (codes ".") (lower 46 48 (decimal (number_of id)) (omega arith) (decimal_high (number_of id))) (All-cons (λ b. 46 ≤ b) 46 [] (omega arith) (All-nil (λ b. 46 ≤ b))))
      (lower 46 48 (decimal (version_of id)) (omega arith) (decimal_high (version_of id))))
]

digit_above : (c v : ℕ) → hex_digit_value c ≡ Some v → 48 ≤ c
digit_above c v h = grind (arith)

glyph_above : (d : ℕ) → d < 16 → 48 ≤ slice_index lower_digits d
glyph_above d h = digit_above (slice_index lower_digits d) d (IsDigits-lower_digits d h)

encode_high : (xs : List ℕ) → IsBytes xs → High 48 (encode_with lower_digits xs)
unfolding encode_with
encode_high [] h = All-nil (λ b. 48 ≤ b)
encode_high (x ∷ xs) h =
    let fits : x < 256 = h 0 in
    let front : x / 16 < 16 = omega arith in
    let back : x % 16 < 16 = omega arith in
    All-cons (λ b. 48 ≤ b) (slice_index lower_digits (x / 16)) (slice_index lower_digits (x % 16) ∷ encode_with lower_digits xs) (glyph_above (x / 16) front)
    (All-cons (λ b. 48 ≤ b) (slice_index lower_digits (x % 16)) (encode_with lower_digits xs) (glyph_above (x % 16) back) (encode_high xs (λ i. h (suc i))))

pub bytes_high : (xs : List ℕ) → IsBytes xs → High 48 (bytes_text xs)
bytes_high xs h = All-cons (λ b. 48 ≤ b) 120 (encode_lower xs) (omega arith) (encode_high xs h)

pub substring_high : (part : Substring) → High 48 (substring_text part)
substring_high part = All-append (λ b. 48 ≤ b) (decimal part.length ++ codes "@") (hex_text part.pointer)
    (All-append (λ b. 48 ≤ b) (decimal part.length) (codes "@") (decimal_high part.length) (All-cons (λ b. 48 ≤ b) 64 [] (omega arith) (All-nil (λ b. 48 ≤ b))))
    (hex_high part.pointer)

module _ {X : Type 0} (Q : ℕ → Type 0) (separator : ℕ) (text : X → List ℕ) (P : X → Type 0) (clean : Q separator) (each : (x : X) → P x → All Q (text x)) where
  join_all : (x : X) (xs : List X) → All P (x ∷ xs) → All Q (join_with_byte separator (map text (x ∷ xs)))
  join_all x [] h = each x (All-head P x [] h)
  join_all x (y ∷ ys) h = All-append Q (text x) (separator ∷ join_with_byte separator (map text (y ∷ ys))) (each x (All-head P x (y ∷ ys) h))
      (All-cons Q separator (join_with_byte separator (map text (y ∷ ys))) clean (join_all y ys (All-tail P x (y ∷ ys) h)))

  pub listed_all : (none : List ℕ) → All Q none → (xs : List X) → All P xs → All Q (listed none separator text xs)
  listed_all none lone [] h = lone
  listed_all none lone (x ∷ xs) h = join_all x xs h

one_high : (low b : ℕ) → low ≤ b → High low (b ∷ [])
one_high low b le = All-cons (λ x. low ≤ x) b [] le (All-nil (λ x. low ≤ x))

pub words_high : (words : List ℕ) → AreWords words → High 44 (words_text words)
words_high words h = listed_all (λ b. 44 ≤ b) 44 hex_text IsWord (omega arith) (λ n w. lower 44 48 (hex_text n) (omega arith) (hex_high n)) (codes "-") (one_high 44 45 (omega arith)) words h

pub strings_high : (strings : List (List ℕ)) → All IsBytes strings → High 44 (strings_text strings)
strings_high strings h = listed_all (λ b. 44 ≤ b) 44 bytes_text IsBytes (omega arith) (λ xs b. lower 44 48 (bytes_text xs) (omega arith) (bytes_high xs b)) (codes "-") (one_high 44 45 (omega arith)) strings h

pub buffer_high : (parts : List Substring) → All IsSubstring parts → High 43 (buffer_text parts)
buffer_high parts h = listed_all (λ b. 43 ≤ b) 43 substring_text IsSubstring (omega arith) (λ part s. lower 43 48 (substring_text part) (omega arith) (substring_high part)) [] (All-nil (λ b. 43 ≤ b)) parts h

pub buffers_high : (buffers : Option (List (List Substring))) → IfSome buffers (λ list. All (λ parts. All IsSubstring parts) list) → High 43 (buffers_text buffers)
buffers_high None h = one_high 43 45 (omega arith)
buffers_high (Some list) h = listed_all (λ b. 43 ≤ b) 44 buffer_text (λ parts. All IsSubstring parts) (omega arith) (λ parts s. buffer_high parts s) (codes "s") (one_high 43 115 (omega arith)) list h

pub buffer_lacks : (parts : List Substring) → All IsSubstring parts → Lacks 44 (buffer_text parts)
buffer_lacks parts h = listed_all (λ b. b ≢ 44) 43 substring_text IsSubstring (λ e. omega arith) (λ part s. lacks 44 48 (substring_text part) (omega arith) (substring_high part)) [] (All-nil (λ b. b ≢ 44)) parts h

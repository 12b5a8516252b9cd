-- How long texts and lines are at most.
use Rattle.std.proofs.Common.{◌≡◌, ℕ, zero, suc, ◌+◌, ◌*◌, ◌/◌, ◌%◌, ◌^◌, ◌<◌, ◌≤◌, false, List, [], ◌∷◌, ◌++◌, length, map, codes, Option, Some, None, IfSome, ⊎_elim, ap, arith, length-append}
use Rattle.std.proofs.Math.Nat.{pow-suc}
use Rattle.std.specs.Prelude.{sum_by}
use Rattle.std.specs.Fmt.{decimal, digits, digit_glyph}
use Rattle.std.specs.List.{All, join_with_byte}
use Rattle.std.proofs.lemmas.Bool.{cases_lt}
use Rattle.std.proofs.lemmas.Fmt.{length-decimal-le}
use Rattle.std.proofs.lemmas.List.Elements.{All-head, All-tail}
use Rattle.std.proofs.lemmas.List.Sums.{sum_by-cons}
use Rattle.hex.specs.Hex.{IsBytes, lower_digits}
use Rattle.hex.proofs.HexLemmas.{length-encode_with}
use Rattle.ipc_words.specs.Limits.{max_string_bytes}
use Rattle.ipc_words.specs.ThreadId.{number_of, version_of}
use Rattle.ipc_items.specs.declared.buffer_list.Substring.{Substring}
use Rattle.ipc_lines.specs.Texts.{hex_text, id_text, listed, words_text, bytes_text, strings_text, substring_text, buffer_text, buffers_text}
use Rattle.ipc_lines.specs.Reading.{IsWord, AreWords, IsSubstring, IsStringList, IsBufferList}
use Rattle.ipc_lines.proofs.Ids.{is_nil, is_any, is_local, is_plain, is_numbered, id_form}
use Rattle.ipc_lines.proofs.Limits.{IsRow, buffer_rows}
use Rattle.ipc_lines.proofs.Numerals.{digits_one, digits_step}

-- one HEX digit for each four bits
hex_digits : (k n : ℕ) → n < 16 ^ suc k → n < 2 ^ 64 → length (digits 16 false n) ≤ suc k
hex_digits zero n h small = omega (arith, ap length (digits_one 16 (omega arith) (omega arith) n (omega arith)))
hex_digits (suc k) n h small = ⊎_elim
    (λ l. omega (arith, ap length (digits_one 16 (omega arith) (omega arith) n l)))
    (λ l.
    let back = hex_digits k (n / 16) (omega (arith, pow-suc 16 (suc k))) (omega arith) in
    omega (arith, back, ap length (digits_step 16 (omega arith) (omega arith) n l small), length-append (digits 16 false (n / 16)) (digit_glyph false (n % 16) ∷ [])))
    (cases_lt n 16)

pub hex_length : (n : ℕ) → IsWord n → length (hex_text n) ≤ 18
hex_length n h = omega (arith, hex_digits 15 n h h)

pub decimal_length : (n : ℕ) → IsWord n → length (decimal n) ≤ 20
decimal_length n h = length-decimal-le 20 n (omega arith) (omega arith) h

pub id_length : (id : ℕ) → IsWord id → length (id_text id) ≤ 21
id_length id h = elim (id_form id) [
  | is_nil p q ↦ omega (arith, ap length q)
  | is_any p q ↦ omega (arith, ap length q)
  | is_local p q ↦ omega (arith, ap length q)
  | is_plain p q r ↦ omega (arith, ap length r, hex_length id h)
  | is_numbered p q ↦
      let number = length-decimal-le 10 (number_of id) (omega arith) (omega arith) (omega arith) in
      let version = length-decimal-le 10 (version_of id) (omega arith) (omega arith) (omega arith) in
      omega (arith, ap length q, number, version, length-append (decimal (number_of id) ++ codes ".") (decimal (version_of id)), length-append (decimal (number_of id)) (codes "."))
]

-- texts with a byte between each two, each within a size
module _ {X : Type 0} (separator : ℕ) (text : X → List ℕ) (P : X → Type 0) (size : X → ℕ) (each : (x : X) → P x → length (text x) + 1 ≤ size x) where
  join_length : (x : X) (xs : List X) → All P (x ∷ xs) → length (join_with_byte separator (map text (x ∷ xs))) + 1 ≤ sum_by size (x ∷ xs)
  join_length x [] h = omega (arith, each x (All-head P x [] h), sum_by-cons size x [])
  join_length x (y ∷ ys) h =
      omega (arith, each x (All-head P x (y ∷ ys) h), join_length y ys (All-tail P x (y ∷ ys) h), sum_by-cons size x (y ∷ ys), length-append (text x) (separator ∷ join_with_byte separator (map text (y ∷ ys))))

  listed_length : (none : List ℕ) (xs : List X) → All P xs → length (listed none separator text xs) ≤ length none + sum_by size xs
  listed_length none [] h = omega arith
  listed_length none (x ∷ xs) h = omega (arith, join_length x xs h)

words_size : (words : List ℕ) → sum_by (λ word. 19) words ≡ 19 * length words
words_size [] = omega arith
words_size (x ∷ xs) = omega (arith, words_size xs, sum_by-cons (λ word. 19) x xs)

pub words_length : (words : List ℕ) → AreWords words → length words ≤ 63 → length (words_text words) ≤ 1198
words_length words h few = omega (arith, listed_length 44 hex_text IsWord (λ word. 19) (λ word is. omega (arith, hex_length word is)) (codes "-") words h, words_size words)

strings_size : (strings : List (List ℕ)) → sum_by (λ s. 2 * length s + 2) strings ≡ 2 * sum_by (λ s. length s) strings + 2 * length strings
strings_size [] = omega arith
strings_size (x ∷ xs) = omega (arith, strings_size xs, sum_by-cons (λ s. 2 * length s + 2) x xs, sum_by-cons (λ s. length s) x xs)

bytes_length : (bytes : List ℕ) → length (bytes_text bytes) + 1 ≤ 2 * length bytes + 2
bytes_length bytes = omega (arith, length-encode_with lower_digits bytes)

pub strings_length : (strings : List (List ℕ)) → IsStringList strings → length (strings_text strings) ≤ 2 * max_string_bytes + 63
strings_length strings h = omega (arith, h.0, listed_length 44 bytes_text IsBytes (λ s. 2 * length s + 2) (λ s is. bytes_length s) (codes "-") strings h.1, strings_size strings)

substring_length : (part : Substring) → IsSubstring part → length (substring_text part) + 1 ≤ 40
substring_length part h =
    omega (arith, decimal_length part.length h.0, hex_length part.pointer h.1, length-append (decimal part.length ++ codes "@") (hex_text part.pointer), length-append (decimal part.length) (codes "@"))

parts_size : (parts : List Substring) → sum_by (λ part. 40) parts ≡ 40 * length parts
parts_size [] = omega arith
parts_size (x ∷ xs) = omega (arith, parts_size xs, sum_by-cons (λ part. 40) x xs)

buffer_length : (parts : List Substring) → IsRow parts → length (buffer_text parts) + 1 ≤ 40 * length parts
buffer_length [] h = absurd (omega (arith, h.1))
buffer_length (x ∷ xs) h = omega (arith, join_length 43 substring_text IsSubstring (λ part. 40) substring_length x xs h.0, parts_size (x ∷ xs))

buffers_size : (list : List (List Substring)) → sum_by (λ parts. 40 * length parts) list ≡ 40 * sum_by (λ parts. length parts) list
buffers_size [] = omega arith
buffers_size (x ∷ xs) = omega (arith, buffers_size xs, sum_by-cons (λ parts. 40 * length parts) x xs, sum_by-cons (λ parts. length parts) x xs)

pub buffers_length : (buffers : Option (List (List Substring))) → IfSome buffers IsBufferList → length (buffers_text buffers) ≤ 1241
buffers_length None h = omega arith
buffers_length (Some list) h = omega (arith, h.0.1, listed_length 44 buffer_text IsRow (λ parts. 40 * length parts) buffer_length (codes "s") list (buffer_rows list h), buffers_size list)

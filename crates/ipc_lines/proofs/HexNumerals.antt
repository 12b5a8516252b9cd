-- Bytes in hex, in lower case.
use Rattle.std.proofs.Common.{◌≡◌, ℕ, zero, suc, ◌+◌, ◌*◌, ◌/◌, ◌%◌, ◌<◌, Bool, true, false, cond, not, ◌&&◌, ◌||◌, inl, inr, List, [], ◌∷◌, slice_index, Option, Some, None, Result, Ok, Err, refl, sym, ap, ◌∙◌, arith, eqb}
use Rattle.std.specs.Char.{is_ascii_uppercase}
use Rattle.std.specs.List.{list_any}
use Rattle.std.proofs.lemmas.Bool.{and_parts, cases_lt, eqb-true}
use Rattle.hex.specs.Hex.{IsBytes, decode_of, decode_pairs, digit_or_error, hex_digit_value, encode_lower, encode_with, lower_digits, ◌>>=◌}
use Rattle.hex.specs.declared.error.FromHexError.{FromHexError}
use Rattle.hex.proofs.HexLemmas.{decode_of-ok, decode_of-even}

-- a digit, if it is not in upper case, is the one of its value in the table
abbrev spells_value : Option ℕ → ℕ → Bool
spells_value None c = true
spells_value (Some v) c = eqb (slice_index lower_digits v) c

abbrev is_spelled : ℕ → Bool
is_spelled c = cond (is_ascii_uppercase c) true (spells_value (hex_digit_value c) c)

abbrev all_spelled : ℕ → Bool
all_spelled zero = true
all_spelled (suc n) = is_spelled n && all_spelled n

all_spelled-at : (n k : ℕ) → all_spelled n ≡ true → k < n → is_spelled k ≡ true
all_spelled-at zero k h lt = absurd (omega arith)
all_spelled-at (suc n) k h lt =
    let parts = and_parts (is_spelled n) (all_spelled n) h in
    elim (cases_lt k n) [
      | inl below ↦ all_spelled-at n k parts.1 below
      | inr top ↦
          let e : k ≡ n = omega arith in
          rw e parts.0
    ]

digit_small : (c v : ℕ) → hex_digit_value c ≡ Some v → (c < 128) × (v < 16)
digit_small c v h = (grind (arith), grind (arith))

spelled : (c v : ℕ) → hex_digit_value c ≡ Some v → is_ascii_uppercase c ≡ false → slice_index lower_digits v ≡ c
spelled c v h low =
    let small = digit_small c v h in
    let is = all_spelled-at 128 c refl small.0 in
    eqb-true (slice_index lower_digits v) c (sym (λ i. cond (low i) true (spells_value (h i) c)) ∙ is)

or_parts : (a b : Bool) → (a || b) ≡ false → (a ≡ false) × (b ≡ false)
or_parts false b h = (refl, h)
or_parts true b h = cc

pair_of : (a b i : ℕ) (oa ob : Option ℕ) (r : Result (List ℕ) FromHexError) (bytes : List ℕ)
    → ((digit_or_error a i oa >>= (λ h. digit_or_error b (i + 1) ob >>= (λ l. Ok (h * 16 + l)))) >>= (λ byte. r >>= (λ bs. Ok (byte ∷ bs)))) ≡ Ok bytes
    → (h : ℕ) × (l : ℕ) × (bs : List ℕ) × (oa ≡ Some h) × (ob ≡ Some l) × (r ≡ Ok bs) × (bytes ≡ (h * 16 + l) ∷ bs)
pair_of a b i None ob r bytes e = cc
pair_of a b i (Some h) None r bytes e = cc
pair_of a b i (Some h) (Some l) (Err x) bytes e = cc
pair_of a b i (Some h) (Some l) (Ok bs) bytes e = (h, l, bs, refl, refl, refl, cc)

decode_lower_from : (i : ℕ) (s bytes : List ℕ) → decode_pairs i s ≡ Ok bytes → list_any (λ c. is_ascii_uppercase c) s ≡ false → s ≡ encode_with lower_digits bytes
unfolding decode_pairs encode_with
decode_lower_from i [] bytes e low = let is : [] ≡ bytes = cc in ap (encode_with lower_digits) is
decode_lower_from i (a ∷ []) bytes e low = cc
decode_lower_from i (a ∷ b ∷ rest) bytes e low =
    let p = pair_of a b i (hex_digit_value a) (hex_digit_value b) (decode_pairs (i + 2) rest) bytes e in
    let h = p.0 in
    let l = p.1 in
    let q = or_parts (is_ascii_uppercase a) (list_any (λ c. is_ascii_uppercase c) (b ∷ rest)) low in
    let r = or_parts (is_ascii_uppercase b) (list_any (λ c. is_ascii_uppercase c) rest) q.1 in
    let ha = digit_small a h p.3 in
    let hb = digit_small b l p.4 in
    let high : (h * 16 + l) / 16 ≡ h = omega arith in
    let lower : (h * 16 + l) % 16 ≡ l = omega arith in
    let first : slice_index lower_digits ((h * 16 + l) / 16) ≡ a = ap (slice_index lower_digits) high ∙ spelled a h p.3 q.0 in
    let second : slice_index lower_digits ((h * 16 + l) % 16) ≡ b = ap (slice_index lower_digits) lower ∙ spelled b l p.4 r.0 in
    let more = decode_lower_from (i + 2) rest p.2 p.5 r.1 in
    (λ j. sym first j ∷ sym second j ∷ more j) ∙ ap (encode_with lower_digits) (sym p.6)

-- digits that none is in upper case are those of the bytes that they decode to
pub decode_lower : (s bytes : List ℕ) → decode_of s ≡ Ok bytes → list_any (λ c. is_ascii_uppercase c) s ≡ false → s ≡ encode_lower bytes
decode_lower s bytes e low = decode_lower_from 0 s bytes (sym (decode_of-even s (decode_of-ok s bytes e).0) ∙ e) low

not_true : (b : Bool) → not b ≡ true → b ≡ false
not_true true h = cc
not_true false h = refl

-- what `encode_lower` writes has no letter in upper case
abbrev all_lower : ℕ → Bool
all_lower zero = true
all_lower (suc n) = not (is_ascii_uppercase (slice_index lower_digits n)) && all_lower n

all_lower-at : (n k : ℕ) → all_lower n ≡ true → k < n → is_ascii_uppercase (slice_index lower_digits k) ≡ false
all_lower-at zero k h lt = absurd (omega arith)
all_lower-at (suc n) k h lt =
    let parts = and_parts (not (is_ascii_uppercase (slice_index lower_digits n))) (all_lower n) h in
    elim (cases_lt k n) [
      | inl below ↦ all_lower-at n k parts.1 below
      | inr top ↦
          let e : k ≡ n = omega arith in
          rw e (not_true (is_ascii_uppercase (slice_index lower_digits n)) parts.0)
    ]

lower_glyph : (d : ℕ) → d < 16 → is_ascii_uppercase (slice_index lower_digits d) ≡ false
lower_glyph d h = all_lower-at 16 d refl h

pub encode_no_upper : (xs : List ℕ) → IsBytes xs → list_any (λ c. is_ascii_uppercase c) (encode_lower xs) ≡ false
unfolding encode_with
encode_no_upper [] h = refl
encode_no_upper (x ∷ xs) h =
    let fits : x < 256 = h 0 in
    let front = lower_glyph (x / 16) (omega arith) in
    let back = lower_glyph (x % 16) (omega arith) in
    (λ j. front j || (back j || list_any (λ c. is_ascii_uppercase c) (encode_with lower_digits xs))) ∙ encode_no_upper xs (λ i. h (suc i))

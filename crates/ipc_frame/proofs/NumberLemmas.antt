-- Numbers and their bytes determine each other.
use Rattle.std.proofs.Common.{◌≡◌, ℕ, zero, suc, ◌+◌, ◌*◌, ◌/◌, ◌<◌, ◌≤◌, ◌^◌, List, [], ◌∷◌, ◌++◌, length, take, drop, sym, ap, ap₂, ◌∙◌, arith}
use Rattle.std.proofs.lemmas.List.{append-nil, length-take-le, take-append-drop, nil_from_length}
use Rattle.std.proofs.lemmas.Nat.{same_from_place, mod_below}
use Rattle.std.specs.Int.{byte_at, bytes_high_first}
use Rattle.byteorder.specs.Endian.{big_from}
use Rattle.byteorder.specs.Numbers.{big_from-append, big_from-cons, big_from-lt, big_number-reads_back, length-bytes_high_first}
use Rattle.ipc_frame.specs.Numbers.{IsBytes, number_text, number_in}

pub bytes_cons : (x : ℕ) (xs : List ℕ) → x < 256 → IsBytes xs → IsBytes (x ∷ xs)
bytes_cons x xs h k zero = h
bytes_cons x xs h k (suc i) = k i

pub bytes_drop : (n : ℕ) (xs : List ℕ) → IsBytes xs → IsBytes (drop n xs)
bytes_drop zero xs h = h
bytes_drop (suc n) [] h = h
bytes_drop (suc n) (x ∷ xs) h = bytes_drop n xs (λ i. h (suc i))

pub bytes_take : (n : ℕ) (xs : List ℕ) → IsBytes xs → IsBytes (take n xs)
bytes_take zero xs h = λ i. omega arith
bytes_take (suc n) [] h = h
bytes_take (suc n) (x ∷ xs) h = bytes_cons x (take n xs) (h 0) (bytes_take n xs (λ i. h (suc i)))

byte_at_below : (k n : ℕ) → byte_at k n < 256
byte_at_below zero n = mod_below n 256 (omega arith)
byte_at_below (suc k) n = mod_below (n / 256 ^ suc k) 256 (omega arith)

bytes_high : (k n : ℕ) → IsBytes (bytes_high_first k n)
bytes_high zero n = λ i. omega arith
bytes_high (suc k) n = bytes_cons _ _ (byte_at_below k n) (bytes_high k n)

-- as many bytes with one number are one list
same_bytes : (n : ℕ) (xs ys : List ℕ) → length xs ≡ n → length ys ≡ n → IsBytes xs → IsBytes ys → big_from 0 n xs ≡ big_from 0 n ys → xs ≡ ys
same_bytes zero xs ys h k bx by e = nil_from_length xs h ∙ sym (nil_from_length ys k)
same_bytes (suc n) [] ys h k bx by e = absurd (omega arith)
same_bytes (suc n) (x ∷ xs) [] h k bx by e = absurd (omega arith)
same_bytes (suc n) (x ∷ xs) (y ∷ ys) h k bx by e =
    let tx : IsBytes xs = λ i. bx (suc i) in
    let ty : IsBytes ys = λ i. by (suc i) in
    let e2 : x * 256 ^ n + big_from 0 n xs ≡ y * 256 ^ n + big_from 0 n ys = omega (arith, e, big_from-cons 0 n x xs, big_from-cons 0 n y ys) in
    let both = same_from_place x (big_from 0 n xs) y (big_from 0 n ys) (256 ^ n) (big_from-lt 0 n xs tx) (big_from-lt 0 n ys ty) e2 in
    ap₂ (λ z zs. z ∷ zs) both.0 (same_bytes n xs ys (omega arith) (omega arith) tx ty both.1)

pub length_number : (width value : ℕ) → length (number_text width value) ≡ width
unfolding number_text
length_number width value = length-bytes_high_first width value

pub bytes_number : (width value : ℕ) → IsBytes (number_text width value)
unfolding number_text
bytes_number width value = bytes_high width value

-- a number is read as it is spelled, whatever follows
pub number_again : (width value : ℕ) (rest : List ℕ) → value < 256 ^ width → number_in width (number_text width value ++ rest) ≡ value
unfolding number_text number_in
number_again width value rest h = big_number-reads_back width value rest h

pub number_below : (width : ℕ) (bytes : List ℕ) → IsBytes bytes → number_in width bytes < 256 ^ width
unfolding number_in
number_below width bytes h = big_from-lt 0 width bytes h

pub number_more : (width : ℕ) (bytes rest : List ℕ) → width ≤ length bytes → number_in width (bytes ++ rest) ≡ number_in width bytes
unfolding number_in
number_more width bytes rest h = big_from-append width bytes rest h

-- bytes begin with the spelling of the number that they are read as
text_again : (width : ℕ) (bytes : List ℕ) → IsBytes bytes → length bytes ≡ width → number_text width (number_in width bytes) ≡ bytes
unfolding number_text number_in
text_again width bytes h e =
    let value = big_from 0 width bytes in
    same_bytes width (bytes_high_first width value) bytes (length-bytes_high_first width value) e (bytes_high width value) h (ap (big_from 0 width) (sym (append-nil (bytes_high_first width value))) ∙ big_number-reads_back width value [] (big_from-lt 0 width bytes h))

pub number_spelled : (width : ℕ) (bytes : List ℕ) → IsBytes bytes → width ≤ length bytes → number_text width (number_in width bytes) ++ drop width bytes ≡ bytes
number_spelled width bytes h l =
    let size : length (take width bytes) ≡ width = length-take-le width bytes l in
    let front : number_in width bytes ≡ number_in width (take width bytes) = ap (number_in width) (sym (take-append-drop width bytes)) ∙ number_more width (take width bytes) (drop width bytes) (omega arith) in
    ap (λ xs. xs ++ drop width bytes) (ap (number_text width) front ∙ text_again width (take width bytes) (bytes_take width bytes h) size) ∙ take-append-drop width bytes

pub number_taken : (width : ℕ) (bytes : List ℕ) → IsBytes bytes → width ≤ length bytes → number_text width (number_in width (take width bytes)) ≡ take width bytes
number_taken width bytes h l = text_again width (take width bytes) (bytes_take width bytes h) (length-take-le width bytes l)

pub bytes_append : (xs ys : List ℕ) → IsBytes xs → IsBytes ys → IsBytes (xs ++ ys)
bytes_append [] ys h k = k
bytes_append (x ∷ xs) ys h k = bytes_cons x (xs ++ ys) (h 0) (bytes_append xs ys (λ i. h (suc i)) k)

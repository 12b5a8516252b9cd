-- The limits of lists.
use Rattle.std.proofs.Common.{◌≡◌, ℕ, ◌+◌, ◌<◌, ◌≤◌, ◌^◌, List, [], ◌∷◌, ◌++◌, length, take, sum_by, map, codes, false, arith}
use Rattle.std.specs.List.{All, join_with_byte}
use Rattle.std.specs.Fmt.{decimal, digits}
use Rattle.std.proofs.lemmas.List.Elements.{All-head, All-tail, All-take, All-nil, All-cons}
use Rattle.std.proofs.lemmas.List.{length-take}
use Rattle.std.proofs.lemmas.List.Sums.{sum_by-take-drop, sum_by-cons}
use Rattle.ipc_items.specs.declared.buffer_list.Substring.{Substring}
use Rattle.ipc_items.specs.Buffers.{IsBuffer, AreBuffers}
use Rattle.ipc_items.specs.Strings.{AreStrings}
use Rattle.std.specs.Prelude.{IsTrue}
use Rattle.std.proofs.lemmas.Bool.Decides.{nat_tests}
use Rattle.ipc_history.specs.CallParts.{CallParts, is_normal}
use Rattle.ipc_words.specs.Control.{is_masked}
use Rattle.ipc_lines.specs.Texts.{buffer_text, substring_text}
use Rattle.ipc_lines.specs.Reading.{IsSubstring, IsBufferList}

count_below : (list : List (List Substring)) → All IsBuffer list → length list ≤ sum_by (λ parts. length parts) list
count_below [] h = omega arith
count_below (x ∷ xs) h =
    let some : 0 < length x = (All-head IsBuffer x xs h).0 in
    let more = count_below xs (All-tail IsBuffer x xs h) in
    let sum : sum_by (λ parts. length parts) (x ∷ xs) ≡ length x + sum_by (λ parts. length parts) xs = sum_by-cons (λ parts. length parts) x xs in
    omega arith

each_below : (list : List (List Substring)) (n : ℕ) → sum_by (λ parts. length parts) list ≤ n → All (λ parts. length parts ≤ n) list
each_below [] n h = All-nil (λ parts. length parts ≤ n)
each_below (x ∷ xs) n h =
    let sum : sum_by (λ parts. length parts) (x ∷ xs) ≡ length x + sum_by (λ parts. length parts) xs = sum_by-cons (λ parts. length parts) x xs in
    All-cons (λ parts. length parts ≤ n) x xs (omega arith) (each_below xs n (omega arith))

-- a buffer string that a reader can give back
abbrev pub IsRow : List Substring → Type 0
IsRow parts = All IsSubstring parts × (0 < length parts) × (length parts ≤ 31)

pub buffer_rows : (list : List (List Substring)) → IsBufferList list → All IsRow list
buffer_rows list h k d lt = (h.1 k d lt, (h.0.0 k d lt).0, each_below list 31 h.0.1 k d lt)

pub buffers_count : (list : List (List Substring)) → AreBuffers list → length list ≤ 31
buffers_count list h = omega (arith, count_below list h.0, h.1)

not_nil : (xs : List ℕ) (y : ℕ) (ys : List ℕ) → xs ++ y ∷ ys ≡ [] → ⊥
not_nil [] y ys e = cc
not_nil (x ∷ xs) y ys e = cc

-- a buffer string of a substring is not spelled by nothing
pub buffer_not_nil : (list : List Substring) → 0 < length list → buffer_text list ≡ [] → ⊥
buffer_not_nil [] some e = omega arith
buffer_not_nil (x ∷ []) some e = not_nil (decimal x.length ++ codes "@") 48 (120 ∷ digits 16 false x.pointer) e
buffer_not_nil (x ∷ y ∷ ys) some e = not_nil (substring_text x) 43 (join_with_byte 43 (map substring_text (y ∷ ys))) e

-- the first of them are within the limits too
pub strings_take : (n : ℕ) (list : List (List ℕ)) → AreStrings list → AreStrings (take n list)
strings_take n list h = (let len = length-take n list in omega arith, omega (arith, h.1, sum_by-take-drop (λ s. length s) list n))

pub buffers_take : (n : ℕ) (list : List (List Substring)) → AreBuffers list → AreBuffers (take n list)
buffers_take n list h = (All-take IsBuffer n list h.0, omega (arith, h.1, sum_by-take-drop (λ parts. length parts) list n))

pub normal_words : (call : CallParts) → IsTrue (is_normal call) → length call.words ≤ 63
unfolding is_normal
normal_words call h = grind (arith, nat_tests)

pub masked_word : (control : ℕ) → IsTrue (is_masked control) → control < 2 ^ 64
masked_word control h = grind (arith, nat_tests)

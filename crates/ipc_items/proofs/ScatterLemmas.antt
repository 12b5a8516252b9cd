-- The pieces of the strings of a message, string by string.
use Rattle.std.proofs.Common.{◌≡◌, ℕ, zero, suc, ◌+◌, ◌≤◌, List, [], ◌∷◌, ◌++◌, Some, None, length, drop, Option, ap, ap₂, sym, ◌∙◌, arith}
use Rattle.std.specs.List.{flat_map, slice_get}
use Rattle.std.specs.Iterator.{YieldsFirstBy}
use Rattle.std.proofs.lemmas.List.{drop_more, drop_all}
use Rattle.std.proofs.lemmas.Option.{get_or_from_slice_get, slice_get_within}
use Rattle.ipc_items.specs.declared.buffer_list.Substring.{Substring}
use Rattle.ipc_items.specs.declared.placing.Piece.{Piece}
use Rattle.ipc_items.specs.Placed.{placed}
use Rattle.ipc_items.specs.Pieces.{PlacedBytes, pieces, pieces_of_all}

-- the pieces at a place are those of the string and the buffer string there
pieces_at : (buffers : List (List Substring)) (strings : List (List ℕ)) (k : ℕ) (parts : List Substring) (bytes : List ℕ)
    → slice_get buffers k ≡ Some parts → slice_get strings k ≡ Some bytes → slice_get (pieces_of_all buffers strings) k ≡ Some (pieces parts bytes)
pieces_at [] strings k parts bytes h g = cc
pieces_at (buffer ∷ buffers) [] k parts bytes h g = cc
pieces_at (buffer ∷ buffers) (string ∷ strings) zero parts bytes h g = cc
pieces_at (buffer ∷ buffers) (string ∷ strings) (suc k) parts bytes h g = pieces_at buffers strings k parts bytes h g

-- no more than there are buffer strings, or strings
length_pieces : (buffers : List (List Substring)) (strings : List (List ℕ)) → (length (pieces_of_all buffers strings) ≤ length buffers) × (length (pieces_of_all buffers strings) ≤ length strings)
length_pieces [] [] = (omega arith, omega arith)
length_pieces [] (string ∷ strings) = (omega arith, omega arith)
length_pieces (buffer ∷ buffers) [] = (omega arith, omega arith)
length_pieces (buffer ∷ buffers) (string ∷ strings) = let h = length_pieces buffers strings in (omega arith, omega arith)

none_past : {X : Type 0} (xs : List X) (k : ℕ) → slice_get xs k ≡ None → length xs ≤ k
none_past [] k h = omega arith
none_past (x ∷ xs) zero h = cc
none_past (x ∷ xs) (suc k) h = let e = none_past xs k h in omega arith

-- where the strings or the buffer strings end, so do the pieces
pub pieces_end_strings : (buffers : List (List Substring)) (strings : List (List ℕ)) (k : ℕ) → length strings ≤ k → length (pieces_of_all buffers strings) ≤ k
pieces_end_strings buffers strings k h = let e = length_pieces buffers strings in omega arith

pub pieces_end_string : (buffers : List (List Substring)) (strings : List (List ℕ)) (k : ℕ) → slice_get strings k ≡ None → length (pieces_of_all buffers strings) ≤ k
pieces_end_string buffers strings k h = pieces_end_strings buffers strings k (none_past strings k h)

pub pieces_end_buffer : (buffers : List (List Substring)) (strings : List (List ℕ)) (k : ℕ) → slice_get buffers k ≡ None → length (pieces_of_all buffers strings) ≤ k
pieces_end_buffer buffers strings k h = let e = length_pieces buffers strings in let f = none_past buffers k h in omega arith

-- what is left from a place on: the pieces there and the others, nothing behind the last
pub left_more : (buffers : List (List Substring)) (strings : List (List ℕ)) (k : ℕ) (parts : List Substring) (bytes : List ℕ)
    → slice_get buffers k ≡ Some parts → slice_get strings k ≡ Some bytes
    → flat_map (λ ps. ps) (drop k (pieces_of_all buffers strings)) ≡ pieces parts bytes ++ flat_map (λ ps. ps) (drop (k + 1) (pieces_of_all buffers strings))
left_more buffers strings k parts bytes h g =
    let all : List (List PlacedBytes) = pieces_of_all buffers strings in
    let here = pieces_at buffers strings k parts bytes h g in
    let e = get_or_from_slice_get all k (pieces parts bytes) (pieces parts bytes) here in
    ap (λ ps. flat_map (λ p. p) ps) (drop_more all k (pieces parts bytes) (slice_get_within all k (pieces parts bytes) here) ∙ ap (λ p. p ∷ drop (k + 1) all) e)

pub left_nothing : (buffers : List (List Substring)) (strings : List (List ℕ)) (k : ℕ) → length (pieces_of_all buffers strings) ≤ k → flat_map (λ ps. ps) (drop k (pieces_of_all buffers strings)) ≡ []
left_nothing buffers strings k h = ap (λ ps. flat_map (λ p. p) ps) (drop_all k (pieces_of_all buffers strings) h)

-- a step over what is left: the string that was begun is over, and the next one begins
pub next_string : (old new parts rest whole self : List PlacedBytes) → (old ≡ []) × (new ≡ []) → whole ≡ parts ++ rest → old ++ whole ≡ self → parts ++ rest ≡ self
next_string old new parts rest whole self over more left = sym more ∙ (sym (ap (λ ps. ps ++ whole) over.0) ∙ left)

-- nothing is left
pub next_nothing : (old new rest self : List PlacedBytes) → (old ≡ []) × (new ≡ []) → rest ≡ [] → old ++ rest ≡ self → (self ≡ []) × (new ++ rest ≡ [])
next_nothing old new rest self over none left = (sym left ∙ ap₂ (λ a b. a ++ b) over.0 none, ap₂ (λ a b. a ++ b) over.1 none)

-- behind the last string comes what is left of it
pub next_last : (old new rest self : List PlacedBytes) (result : Option Piece) → YieldsFirstBy placed (λ left. left) old result new → rest ≡ [] → old ++ rest ≡ self → YieldsFirstBy placed (λ left. left) self result (new ++ rest)
next_last old new rest self None steps none left = next_nothing old new rest self steps none left
next_last old new rest self (Some piece) steps none left =
    sym left ∙ (ap (λ ps. ps ++ rest) steps)

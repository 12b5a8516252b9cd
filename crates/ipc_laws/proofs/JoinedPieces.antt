-- The pieces of a string that fits its buffer string join to that string.
use Rattle.std.proofs.lemmas.Bool.{leb-true}
use Rattle.std.proofs.lemmas.Option.{none-some}
use Rattle.std.proofs.lemmas.List.Sums.{sum_by-cons}
use Rattle.std.proofs.Common.{◌≡◌, refl, sym, ap, ◌∙◌, ℕ, ◌+◌, ◌≤◌, List, [], ◌∷◌, ◌++◌, take, drop, map, length, length-drop, take-append-drop, nat_le, ap₂, None, arith}
use Rattle.ipc_items.specs.declared.buffer_list.Substring.{Substring}
use Rattle.ipc_items.specs.Buffers.{capacity}
use Rattle.ipc_items.specs.Fit.{overflow_offset}
use Rattle.ipc_items.specs.Pieces.{pieces, pieces_of_all, joined}
use Rattle.ipc_items.proofs.PieceLemmas.{fitting, joined_put}

pub joined_pieces : (parts : List Substring) (bytes : List ℕ) → length bytes ≤ capacity parts → joined (pieces parts bytes) ≡ bytes
joined_pieces [] [] h = refl
joined_pieces [] (b ∷ bytes) h = absurd (omega arith)
joined_pieces (part ∷ parts) bytes h =
    let whole = sum_by-cons (λ (p : Substring). p.length) part parts in
    let rest : length (drop part.length bytes) ≤ capacity parts = omega (arith, length-drop part.length bytes, whole) in
    joined_put part.pointer (take part.length bytes) _ ∙ (ap (λ l. take part.length bytes ++ l) (joined_pieces parts (drop part.length bytes) rest) ∙ take-append-drop part.length bytes)

pub joined_all : (buffers : List (List Substring)) (strings : List (List ℕ)) → overflow_offset strings buffers ≡ None → map joined (pieces_of_all buffers strings) ≡ strings
joined_all buffers [] h = refl
joined_all [] (s ∷ strings) h = absurd (none-some 0 (sym h))
joined_all (b ∷ buffers) (s ∷ strings) h =
    let f = fitting (nat_le (length s) (capacity b)) (λ offset. length s + offset) (overflow_offset strings buffers) h in
    ap₂ (λ x xs. x ∷ xs) (joined_pieces b s (leb-true (length s) (capacity b) f.0)) (joined_all buffers strings f.1)

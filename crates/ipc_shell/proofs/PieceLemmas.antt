-- From what a chunk adds to a line to what a read does, and from the reads of a line to the line.
use Rattle.std.proofs.Common.{◌≡◌, ◌≢◌, ℕ, ◌<◌, ◌≤◌, Option, Some, None, IfSome, List, [], ◌∷◌, ◌++◌, length, take, drop, sym, ap, subst, ◌∙◌, arith, append_assoc, append-nil}
use Rattle.std.specs.Io.KnownBytes.{Keeps, Consumes, IsAtEnd, prepend_known}
use Rattle.std.proofs.KnownBytes.{Consumes-trans, Consumes-kept}
use Rattle.std.proofs.lemmas.List.Elements.{All-append}
use Rattle.ipc_trace.proofs.Pieces.{used}
use Rattle.ipc_words.specs.Limits.{max_line_bytes}
use Rattle.ipc_shell.specs.ScriptLines.{lines_of}
use Rattle.ipc_base.specs.Lines.{IsOneLine}
use Rattle.ipc_shell.specs.Reading.{Adds, ReadsPiece, ReadsLine}
use Rattle.ipc_shell.specs.declared.lines.NextLine.TheVariants as next
use Rattle.ipc_shell.specs.declared.lines.Piece.{Piece}
use Rattle.ipc_shell.specs.declared.lines.Piece.TheVariants as piece
use Rattle.ipc_shell.proofs.LineLemmas.{lines_cut, lines_last, lines_long}

known_front : (a c : Option (List ℕ)) (part : List ℕ) → Consumes a c part → IfSome a (λ bytes. (rest : List ℕ) × (bytes ≡ part ++ rest))
known_front None c part h = tt
known_front (Some x) None part h = absurd h
known_front (Some x) (Some z) part h = (z, h)

-- nothing was left to show
known_end : (a rest : Option (List ℕ)) (shown : List ℕ) → Keeps a (prepend_known shown rest) → length shown ≡ 0 → IsAtEnd rest → IsAtEnd a
known_end None rest shown kept none end = tt
known_end (Some x) None shown kept none end = absurd kept
known_end (Some x) (Some y) [] kept none end = sym kept ∙ end
known_end (Some x) (Some y) (b ∷ bs) kept none end = absurd (omega (arith, none))

-- a buffer was filled, and what is added to a line was used
pub piece_read : (a rest : Option (List ℕ)) (shown before line : List ℕ) (n : ℕ) (piece : Piece) → Keeps a (prepend_known shown rest)
    → (length shown ≡ 0 → IsAtEnd rest) → Adds before line shown n piece → ReadsPiece a (prepend_known (drop n shown) rest) before line piece
piece_read a rest shown before line n piece.Part kept end (is, one, short) = (take n shown, is, one, used a rest shown n kept, short)
piece_read a rest shown before line n piece.LineEnd kept end (part, cutting, is, one, short) =
    (part, is, one, subst (Consumes a (prepend_known (drop n shown) rest)) cutting (used a rest shown n kept), short)
piece_read a rest shown before line n piece.TooLong kept end (one, long) =
    (take n shown, one, long, known_front a (prepend_known (drop n shown) rest) (take n shown) (used a rest shown n kept))
piece_read a rest shown before line n piece.InputEnd kept end (same, zero, none) =
    let nothing : take n shown ≡ [] = ap (λ k. take k shown) zero in
    (same, subst (Consumes a (prepend_known (drop n shown) rest)) nothing (used a rest shown n kept), known_end a rest shown kept none (end none))
piece_read a rest shown before line n piece.Failed kept end h = tt
piece_read a rest shown before line n piece.NoMemory kept end h = tt

-- a read that took nothing
pub line_kept : (a b c : Option (List ℕ)) (before line : List ℕ) → Consumes a b before → (line ≡ before) → Keeps b c → Consumes a c line
line_kept a b c before line so_far same kept = subst (Consumes a c) (sym same) (Consumes-kept a b c before so_far kept)

-- a read of a part
pub line_longer : (a b c : Option (List ℕ)) (before line part : List ℕ) → Consumes a b before → (line ≡ before ++ part) → Consumes b c part → Consumes a c line
line_longer a b c before line part so_far is more = subst (Consumes a c) (sym is) (Consumes-trans a b c before part so_far more)

-- bytes of one line, and more of them
pub one_line_longer : (before line part : List ℕ) → IsOneLine before → (line ≡ before ++ part) → IsOneLine part → IsOneLine line
one_line_longer before line part one is more = subst IsOneLine (sym is) (All-append (λ byte. byte ≢ 10) before part one more)

pub line_ends : (a b c : Option (List ℕ)) (before line : List ℕ) → IsOneLine before → length before ≤ max_line_bytes → Consumes a b before → ReadsPiece b c before line piece.LineEnd → ReadsLine a c line next.Line
line_ends None b c before line one fits so_far read = tt
line_ends (Some x) None c before line one fits so_far read = absurd so_far
line_ends (Some x) (Some y) None before line one fits so_far (part, is, more, rest, short) = absurd rest
line_ends (Some x) (Some y) (Some z) before line one fits so_far (part, is, more, rest, short) =
    let whole : x ≡ line ++ 10 ∷ z =
    so_far ∙ ap (λ ys. before ++ ys) (rest ∙ append_assoc part (10 ∷ []) z) ∙ sym (append_assoc before part (10 ∷ z)) ∙ ap (λ ys. ys ++ 10 ∷ z) (sym is) in
    (ap lines_of whole ∙ lines_cut line z (one_line_longer before line part one is more), short fits)

pub line_too_long : (a b c : Option (List ℕ)) (before line : List ℕ) → IsOneLine before → Consumes a b before → ReadsPiece b c before line piece.TooLong → ReadsLine a c line next.TooLong
line_too_long None b c before line one so_far read = tt
line_too_long (Some x) None c before line one so_far read = absurd so_far
line_too_long (Some x) (Some y) c before line one so_far (part, more, long, (rest, is)) =
    let whole : x ≡ (before ++ part) ++ rest = so_far ∙ ap (λ ys. before ++ ys) is ∙ sym (append_assoc before part rest) in
    let (first, past) = lines_long (before ++ part) rest max_line_bytes (All-append (λ byte. byte ≢ 10) before part one more) long in
    (first, (past.0, ap lines_of whole ∙ past.1, past.2))

pub line_at_end : (a b c : Option (List ℕ)) (before line : List ℕ) → Consumes a b before → ReadsPiece b c before line piece.InputEnd → length line ≡ 0 → ReadsLine a c line next.End
line_at_end None b c before line so_far read empty = tt
line_at_end (Some x) None c before line so_far read empty = absurd so_far
line_at_end (Some x) (Some y) c [] line so_far (same, kept, none) empty = ap lines_of (so_far ∙ none)
line_at_end (Some x) (Some y) c (b ∷ bs) line so_far (same, kept, none) empty = absurd (omega (arith, ap length same, empty))

pub line_last : (a b c : Option (List ℕ)) (before line : List ℕ) → IsOneLine before → length before ≤ max_line_bytes → Consumes a b before → ReadsPiece b c before line piece.InputEnd → 0 < length line → ReadsLine a c line next.Line
line_last None b c before line one short so_far read some = tt
line_last (Some x) None c before line one short so_far read some = absurd so_far
line_last (Some x) (Some y) None before line one short so_far (same, kept, none) some = absurd kept
line_last (Some x) (Some y) (Some z) before line one short so_far (same, kept, none) some =
    let whole : x ≡ before = so_far ∙ ap (λ ys. before ++ ys) none ∙ append-nil before in
    let left : z ≡ [] = sym kept ∙ none in
    let filled : 0 < length before = omega (arith, ap length same, some) in
    (ap lines_of whole ∙ lines_last before one filled ∙ ap (λ l. l ∷ []) (sym same) ∙ ap (λ zs. line ∷ lines_of zs) (sym left), omega (arith, ap length same, short))

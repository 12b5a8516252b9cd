-- The lines of a text that begins with bytes of one line.
use Rattle.std.proofs.Common.{◌≡◌, ◌≢◌, ℕ, zero, suc, ◌<◌, cond, List, [], ◌∷◌, ◌++◌, length, refl, ap, ◌∙◌, arith}
use Rattle.std.proofs.lemmas.List.Elements.{All-head, All-tail}
use borrow.Author.Tests.{ne_eqb}
use Rattle.ipc_shell.specs.ScriptLines.{lines_of, before_first}
use Rattle.ipc_base.specs.Lines.{IsOneLine}

-- a byte that is no newline is before the first line of the others
lines_more : (x : ℕ) (bytes : List ℕ) → x ≢ 10 → lines_of (x ∷ bytes) ≡ before_first x (lines_of bytes)
lines_more x bytes other = ap (λ b. cond b ([] ∷ lines_of bytes) (before_first x (lines_of bytes))) (ne_eqb x 10 other)

-- what stands before a newline is a line
pub lines_cut : (front rest : List ℕ) → IsOneLine front → lines_of (front ++ 10 ∷ rest) ≡ front ∷ lines_of rest
lines_cut [] rest one = refl
lines_cut (x ∷ xs) rest one =
    lines_more x (xs ++ 10 ∷ rest) (All-head (λ byte. byte ≢ 10) x xs one)
    ∙ ap (before_first x) (lines_cut xs rest (All-tail (λ byte. byte ≢ 10) x xs one))

-- what lacks its newline is a line where it is not empty
lines_last_of : (x : ℕ) (xs : List ℕ) → IsOneLine (x ∷ xs) → lines_of (x ∷ xs) ≡ (x ∷ xs) ∷ []
lines_last_of x [] one = lines_more x [] (All-head (λ byte. byte ≢ 10) x [] one)
lines_last_of x (y ∷ ys) one =
    lines_more x (y ∷ ys) (All-head (λ byte. byte ≢ 10) x (y ∷ ys) one)
    ∙ ap (before_first x) (lines_last_of y ys (All-tail (λ byte. byte ≢ 10) x (y ∷ ys) one))

pub lines_last : (front : List ℕ) → IsOneLine front → 0 < length front → lines_of front ≡ front ∷ []
lines_last [] one some = absurd (omega arith)
lines_last (x ∷ xs) one some = lines_last_of x xs one

-- a first line of more than so many bytes
abbrev BeginsPast : ℕ → List (List ℕ) → Type 0
BeginsPast n lines = (first : List ℕ) × ((others : List (List ℕ)) × (lines ≡ first ∷ others) × (n < length first))

begins_past_none : (x : ℕ) (lines : List (List ℕ)) → BeginsPast 0 (before_first x lines)
begins_past_none x [] = (x ∷ [], ([], refl, omega arith))
begins_past_none x (line ∷ lines) = (x ∷ line, (lines, refl, omega arith))

-- a text that begins with many bytes of one line has a first line of as many
pub lines_long : (front rest : List ℕ) (n : ℕ) → IsOneLine front → n < length front → BeginsPast n (lines_of (front ++ rest))
lines_long [] rest n one lt = absurd (omega arith)
lines_long (x ∷ xs) rest zero one lt =
    let (first, past) = begins_past_none x (lines_of (xs ++ rest)) in
    (first, (past.0, lines_more x (xs ++ rest) (All-head (λ byte. byte ≢ 10) x xs one) ∙ past.1, past.2))
lines_long (x ∷ xs) rest (suc n) one lt =
    let (first, past) = lines_long xs rest n (All-tail (λ byte. byte ≢ 10) x xs one) (omega arith) in
    (x ∷ first, (past.0, lines_more x (xs ++ rest) (All-head (λ byte. byte ≢ 10) x xs one) ∙ ap (before_first x) past.1, omega (arith, past.2)))

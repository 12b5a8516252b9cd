-- The texts of lines: none is that of a line of another kind which may stand in its place, and none
-- is too long.
use Rattle.std.proofs.Common.{◌≡◌, Option, Some, ℕ, ◌≤◌, List, ◌∷◌, ◌++◌, codes, length, get_or, ap, arith, length-append}
use Rattle.std.specs.Fmt.{decimal}
use Rattle.ipc_words.specs.Limits.{max_line_bytes}
use Rattle.ipc_history.specs.declared.entry.Entry.{Entry}
use Rattle.ipc_history.specs.declared.entry.Entry.TheVariants.{Given, Written}
use Rattle.ipc_history.specs.declared.entry.Input.TheVariants.{At, Opened, Called, Exreg, Broke, Moved}
use Rattle.ipc_history.specs.declared.entry.Output.TheVariants.{Began, Turned, Ended, Overflowed, Aborted, Failed}
use Rattle.ipc_lines.specs.Lines.{entry_text, spaced}
use Rattle.ipc_lines.proofs.Lengths.{decimal_length}
use Rattle.ipc_lines.proofs.ListTexts.{lack_cons, lack_nil}
use Rattle.ipc_lines.proofs.Options.{some_same}
use Rattle.ipc_lines.proofs.Longest.{lines_are_within_the_limit}
use Rattle.ipc_lines.proofs.Spacing.{decimal_lacks, spaced_parts}
use Rattle.ipc_lines.specs.Reading.{parts_at}
use Rattle.ipc_trace.specs.Lines.{IsReadableLine, line_text, number_fields}
use Rattle.ipc_trace.specs.declared.line.PartLine.{PartLine}
use Rattle.ipc_trace.specs.declared.line.PartLine.TheVariants as line

pub no_entry_is_since : (entry : Entry) → codes "since" ≡ entry_text entry → ⊥
no_entry_is_since (Given (At moment)) e = omega (arith, ap (λ l. get_or l 0 0) e)
no_entry_is_since (Given (Opened thread space)) e = omega (arith, ap (λ l. get_or l 0 0) e)
no_entry_is_since (Given (Called number thread call)) e = omega (arith, ap (λ l. get_or l 0 0) e)
no_entry_is_since (Given (Exreg thread dest control)) e = omega (arith, ap (λ l. get_or l 0 0) e)
no_entry_is_since (Given (Broke thread)) e = omega (arith, ap (λ l. get_or l 0 0) e)
no_entry_is_since (Given (Moved number count)) e = omega (arith, ap (λ l. get_or l 0 0) e)
no_entry_is_since (Written (Began sending receiving)) e = omega (arith, ap (λ l. get_or l 0 0) e)
no_entry_is_since (Written (Turned receiving thread)) e = omega (arith, ap (λ l. get_or l 0 0) e)
no_entry_is_since (Written (Ended sending receiving)) e = omega (arith, ap (λ l. get_or l 0 0) e)
no_entry_is_since (Written (Overflowed sending receiving offset)) e = omega (arith, ap (λ l. get_or l 0 0) e)
no_entry_is_since (Written (Aborted sending receiving count)) e = omega (arith, ap (λ l. get_or l 0 0) e)
no_entry_is_since (Written (Failed number code)) e = omega (arith, ap (λ l. get_or l 0 0) e)

-- the numbers of a thread number, taken apart
pub number_parts : (text : List ℕ) (number version dropped : ℕ) → text ≡ spaced (number_fields number version dropped) → parts_at 32 text ≡ number_fields number version dropped
number_parts text number version dropped e =
    spaced_parts text (number_fields number version dropped) (omega arith)
    (lack_cons _ _ (decimal_lacks 32 (omega arith) number) (lack_cons _ _ (decimal_lacks 32 (omega arith) version) (lack_cons _ _ (decimal_lacks 32 (omega arith) dropped) lack_nil))) e

-- three numbers that are the same are of one line
pub number_same : (k v d number version dropped : ℕ) → ◌≡◌ {A = Option (ℕ × ℕ × ℕ)} (Some (k, v, d)) (Some (number, version, dropped)) → Some (line.Number k v d) ≡ Some (line.Number number version dropped)
number_same k v d number version dropped e =
    let three : ◌≡◌ {A = ℕ × ℕ × ℕ} (k, v, d) (number, version, dropped) = some_same (k, v, d) (number, version, dropped) e in
    ap (λ (t : ℕ × ℕ × ℕ). Some (line.Number t.0 t.1 t.2)) three

-- no line is too long
pub line_length : (read : PartLine) → IsReadableLine read → length (line_text read) ≤ max_line_bytes
line_length line.Version is = omega arith
line_length (line.Moment n) is = omega (arith, decimal_length n is)
line_length (line.Calls n) is = omega (arith, decimal_length n is)
line_length (line.Takes n) is = omega (arith, decimal_length n is)
line_length (line.Number k v d) (is_k, is_v, is_d) =
    omega (arith, length-append (decimal k) (32 ∷ (decimal v ++ 32 ∷ decimal d)), length-append (decimal v) (32 ∷ decimal d), decimal_length k is_k, decimal_length v (omega (arith, is_v)), decimal_length d is_d)
line_length (line.Over n) is = omega (arith, decimal_length n is)
line_length line.Kept is = omega arith
line_length line.Since is = omega arith
line_length (line.Entry entry) is = lines_are_within_the_limit entry is

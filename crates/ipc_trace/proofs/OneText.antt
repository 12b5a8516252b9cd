-- A part has a text of its own: what is read of the text of a part is that part.
use Rattle.std.proofs.Common.{◌≡◌, ◌≢◌, ℕ, ◌+◌, ◌≤◌, ◌<◌, ◌^◌, Bool, true, false, Option, Some, None, List, [], ◌∷◌, ◌++◌, codes, length, refl, sym, ap, subst, ◌∙◌, arith, append_assoc, append-nil}
use Rattle.std.specs.Prelude.{◌==◌, ◌&&◌}
use Rattle.std.specs.Fmt.{decimal}
use Rattle.std.specs.List.{All, list_all}
use Rattle.std.specs.Prelude.{not}
use Rattle.std.proofs.lemmas.Bool.{and_parts, eqb-false, not-true}
use Rattle.std.proofs.lemmas.List.Elements.{All-append, All-cons, All-head, All-nil, All-tail}
use Rattle.std.specs.Io.KnownBytes.{Consumes, IsAtEnd}
use Rattle.ipc_words.specs.Limits.{table_slots}
use Rattle.ipc_history.specs.declared.entry.Entry.{Entry}
use Rattle.ipc_lines.specs.Lines.{entry_text}
use Rattle.ipc_lines.specs.Reading.{IsReadable, IsWord}
use Rattle.ipc_lines.proofs.Spacing.{decimal_lacks}
use Rattle.ipc_lines.proofs.Splitting.{lines_hold_no_newline}
use Rattle.ipc_base.specs.Lines.{IsOneLine}
use Rattle.ipc_trace.specs.Traces.{ended}
use Rattle.ipc_trace.proofs.Unknown.{one_line, head_of, tail_of, holds_newline}
use Rattle.ipc_trace.specs.Lines.{IsReadableLine, calls_word, line_text, moment_word, number_word, over_word, takes_word}
use Rattle.ipc_trace.specs.Parts.{IsPart, PartParts, entry_lines, lines_of, lines_text, number_line, number_lines, over_lines, part_text}
use Rattle.ipc_trace.specs.PartReading.{HasBadLine, HasLines, IsBadBehind, Only}
use Rattle.ipc_trace.specs.Steps.{Follow, PartSoFar, after, after_all, nothing_read, part_in}
use Rattle.ipc_trace.specs.declared.line.PartLine.{PartLine}
use Rattle.ipc_trace.specs.declared.line.PartLine.TheVariants as line
use Rattle.ipc_trace.specs.declared.line.Stage.TheVariants as stage
use Rattle.ipc_trace.proofs.ReadBack.{parts_are_read_back}

abbrev is_other : ℕ → Type 0
is_other byte = byte ≢ 10

-- ---- each line is one line
abbrev has_none : List ℕ → Bool
has_none text = list_all (λ byte. not (byte == 10)) text

plain : (text : List ℕ) → has_none text ≡ true → IsOneLine text
plain [] h = All-nil is_other
plain (b ∷ bs) h =
    let parts = and_parts (not (b == 10)) (has_none bs) h in
    All-cons is_other b bs (eqb-false b 10 (not-true (b == 10) parts.0)) (plain bs parts.1)

counted_line : (word : List ℕ) (n : ℕ) → has_none word ≡ true → IsOneLine (word ++ decimal n)
counted_line word n h = All-append is_other word (decimal n) (plain word h) (decimal_lacks 10 (omega arith) n)

-- behind a number and a space
spaced_line : (n : ℕ) (rest : List ℕ) → IsOneLine rest → IsOneLine (decimal n ++ 32 ∷ rest)
spaced_line n rest h = All-append is_other (decimal n) (32 ∷ rest) (decimal_lacks 10 (omega arith) n) (All-cons is_other 32 rest (λ e. omega (arith, e)) h)

is_one_line : (read : PartLine) → IsOneLine (line_text read)
is_one_line line.Version = plain (codes "l4part 1") refl
is_one_line (line.Moment n) = counted_line moment_word n refl
is_one_line (line.Calls n) = counted_line calls_word n refl
is_one_line (line.Takes n) = counted_line takes_word n refl
is_one_line (line.Number k v d) =
    All-append is_other number_word (decimal k ++ 32 ∷ (decimal v ++ 32 ∷ decimal d)) (plain number_word refl)
    (spaced_line k (decimal v ++ 32 ∷ decimal d) (spaced_line v (decimal d) (decimal_lacks 10 (omega arith) d)))
is_one_line (line.Over n) = counted_line over_word n refl
is_one_line line.Kept = plain (codes "kept") refl
is_one_line line.Since = plain (codes "since") refl
is_one_line (line.Entry entry) = one_line (entry_text entry) (lines_hold_no_newline.0 entry)

-- ---- bytes that are cut at newlines
record AreSame (a b x y : List ℕ) : Type 0 where
  first : a ≡ b
  rest : x ≡ y

cut : (a b x y : List ℕ) → IsOneLine a → IsOneLine b → a ++ 10 ∷ x ≡ b ++ 10 ∷ y → AreSame a b x y
cut [] [] x y one_a one_b same = record { first = refl; rest = tail_of 10 10 x y same }
cut [] (c ∷ b) x y one_a one_b same = absurd (All-head is_other c b one_b (sym (head_of 10 c x (b ++ 10 ∷ y) same)))
cut (c ∷ a) [] x y one_a one_b same = absurd (All-head is_other c a one_a (head_of c 10 (a ++ 10 ∷ x) y same))
cut (c ∷ a) (d ∷ b) x y one_a one_b same =
    let behind = cut a b x y (All-tail is_other c a one_a) (All-tail is_other d b one_b) (tail_of c d (a ++ 10 ∷ x) (b ++ 10 ∷ y) same) in
    record {
      first = ap (λ byte. byte ∷ a) (head_of c d (a ++ 10 ∷ x) (b ++ 10 ∷ y) same) ∙ ap (λ (t : List ℕ). d ∷ t) behind.first;
      rest = behind.rest;
    }

no_end : (a x : List ℕ) → a ++ 10 ∷ x ≡ [] → ⊥
no_end [] x same = omega (arith, ap length same)
no_end (c ∷ a) x same = omega (arith, ap length same)

-- the first line of lines, and what is behind it
opened : (read : PartLine) (lines : List PartLine) (rest : List ℕ) → lines_text (read ∷ lines) ++ rest ≡ line_text read ++ 10 ∷ (lines_text lines ++ rest)
opened read lines rest = append_assoc (ended (line_text read)) (lines_text lines) rest ∙ append_assoc (line_text read) (10 ∷ []) (lines_text lines ++ rest)

opened_alone : (read : PartLine) (lines : List PartLine) → lines_text (read ∷ lines) ≡ line_text read ++ 10 ∷ lines_text lines
opened_alone read lines = append_assoc (line_text read) (10 ∷ []) (lines_text lines)

-- ---- the lines that are read are those that were written
abbrev AreReadable : List PartLine → Type 0
AreReadable [] = Unit {0}
AreReadable (read ∷ lines) = IsReadableLine read × AreReadable lines

record AreLinesOf (lines written : List PartLine) (torn : List ℕ) : Type 0 where
  lines_are : lines ≡ written
  none : torn ≡ []

same_lines : (now : PartSoFar) (lines written : List PartLine) (torn : List ℕ) → Only now lines → IsOneLine torn → Follow now written → AreReadable written
    → lines_text lines ++ torn ≡ lines_text written → AreLinesOf lines written torn
same_lines now [] [] torn only one follow readable same = record { lines_are = refl; none = same }
same_lines now [] (w ∷ written) torn only one follow readable same =
    absurd (holds_newline (line_text w) (lines_text written) (subst IsOneLine (same ∙ opened_alone w written) one))
same_lines now (l ∷ lines) [] torn only one follow readable same = absurd (no_end (line_text l) (lines_text lines ++ torn) (sym (opened l lines torn) ∙ same))
same_lines now (l ∷ lines) (w ∷ written) torn only one follow readable same =
    let parts = cut (line_text l) (line_text w) (lines_text lines ++ torn) (lines_text written) (is_one_line l) (is_one_line w) (sym (opened l lines torn) ∙ same ∙ opened_alone w written) in
    let is : l ≡ w = only.0 w readable.0 follow.0 parts.first in
    let behind = same_lines (after now l) lines written torn only.1 one (subst (λ r. Follow (after now r) written) (sym is) follow.1) readable.1 parts.rest in
    record { lines_are = (λ i. is i ∷ behind.lines_are i); none = behind.none }

never_bad : (now : PartSoFar) (lines written : List PartLine) (bad rest : List ℕ) → Only now lines → IsOneLine bad → IsBadBehind (after_all now lines) bad
    → Follow now written → AreReadable written → (lines_text lines ++ ended bad) ++ rest ≡ lines_text written → ⊥
never_bad now [] [] bad rest only one is_bad follow readable same = no_end bad rest (sym (append_assoc bad (10 ∷ []) rest) ∙ same)
never_bad now [] (w ∷ written) bad rest only one is_bad follow readable same =
    let parts = cut bad (line_text w) rest (lines_text written) one (is_one_line w) (sym (append_assoc bad (10 ∷ []) rest) ∙ same ∙ opened_alone w written) in
    is_bad w readable.0 follow.0 parts.first
never_bad now (l ∷ lines) [] bad rest only one is_bad follow readable same =
    no_end (line_text l) (lines_text lines ++ (ended bad ++ rest)) (sym (opened l lines (ended bad ++ rest)) ∙ sym (append_assoc (lines_text (l ∷ lines)) (ended bad) rest) ∙ same)
never_bad now (l ∷ lines) (w ∷ written) bad rest only one is_bad follow readable same =
    let parts = cut (line_text l) (line_text w) (lines_text lines ++ (ended bad ++ rest)) (lines_text written) (is_one_line l) (is_one_line w)
    (sym (opened l lines (ended bad ++ rest)) ∙ sym (append_assoc (lines_text (l ∷ lines)) (ended bad) rest) ∙ same ∙ opened_alone w written) in
    let is : l ≡ w = only.0 w readable.0 follow.0 parts.first in
    never_bad (after now l) lines written bad rest only.1 one is_bad (subst (λ r. Follow (after now r) written) (sym is) follow.1) readable.1 (append_assoc (lines_text lines) (ended bad) rest ∙ parts.rest)

-- ---- the lines of a part can be read
readable_append : (lines more : List PartLine) → AreReadable lines → AreReadable more → AreReadable (lines ++ more)
readable_append [] more a b = b
readable_append (l ∷ lines) more a b = (a.0, readable_append lines more a.1 b)

readable_number : (k v d : ℕ) → k < table_slots → v < 2 ^ 32 → IsWord d → AreReadable (number_line k v d)
readable_number k v d is_k is_v is_d = by_case ((v == 0) && (d == 0)) refl
  where
    by_case : (b : Bool) → ((v == 0) && (d == 0)) ≡ b → AreReadable (number_line k v d)
    by_case true is = rw is tt
    by_case false is = rw is ((omega (arith, is_k), is_v, is_d), tt)

readable_numbers : (k : ℕ) (vs ds : List ℕ) → k + length vs ≤ table_slots → All (λ v. v < 2 ^ 32) vs → All IsWord ds → AreReadable (number_lines k vs ds)
readable_numbers k [] ds most are_v are_d = tt
readable_numbers k (v ∷ vs) [] most are_v are_d = tt
readable_numbers k (v ∷ vs) (d ∷ ds) most are_v are_d =
    readable_append (number_line k v d) (number_lines (k + 1) vs ds)
    (readable_number k v d (omega (arith, most)) (All-head (λ n. n < 2 ^ 32) v vs are_v) (All-head IsWord d ds are_d))
    (readable_numbers (k + 1) vs ds (omega (arith, most)) (All-tail (λ n. n < 2 ^ 32) v vs are_v) (All-tail IsWord d ds are_d))

readable_overs : (over : List ℕ) → All IsWord over → AreReadable (over_lines over)
readable_overs [] are = tt
readable_overs (n ∷ over) are = (All-head IsWord n over are, readable_overs over (All-tail IsWord n over are))

readable_entries : (entries : List Entry) → All IsReadable entries → AreReadable (entry_lines entries)
readable_entries [] are = tt
readable_entries (e ∷ entries) are = (All-head IsReadable e entries are, readable_entries entries (All-tail IsReadable e entries are))

readable_part : (part : PartParts) → IsPart part → AreReadable (lines_of part)
readable_part part is =
    let b = part.base in
    let body = readable_append (number_lines 0 b.versions b.dropped) (over_lines b.over)
    (readable_numbers 0 b.versions b.dropped (omega (arith, is.base.all_versions)) is.base.versions is.base.dropped) (readable_overs b.over is.base.over) in
    let rest = readable_append (entry_lines part.kept) (line.Since ∷ entry_lines part.entries) (readable_entries part.kept is.kept) (tt, readable_entries part.entries is.entries) in
    (tt, (is.base.moment, (is.base.calls, (is.base.takes, readable_append (number_lines 0 b.versions b.dropped ++ over_lines b.over) (line.Kept ∷ (entry_lines part.kept ++ line.Since ∷ entry_lines part.entries)) body (tt, rest)))))

-- ---- what was read of the text of a part
consumed : (bytes front : List ℕ) (old new : Option (List ℕ)) → old ≡ Some bytes → Consumes old new front → IsAtEnd new → front ≡ bytes
consumed bytes front None new known taken at_end = cc
consumed bytes front (Some x) None known taken at_end = absurd taken
consumed bytes front (Some x) (Some z) known taken at_end =
    let same : x ≡ bytes = cc (known) in
    sym (append-nil front) ∙ ap (λ (t : List ℕ). front ++ t) (sym at_end) ∙ sym taken ∙ same

lines_of_part : (part : PartParts) (old new : Option (List ℕ)) (so_far : PartSoFar) (is_torn : Bool) → IsPart part → old ≡ Some (part_text part)
    → (has : HasLines old new so_far is_torn) → AreLinesOf has.lines (lines_of part) has.torn
lines_of_part part old new so_far is_torn is known has =
    same_lines nothing_read has.lines (lines_of part) has.torn has.only has.one (parts_are_read_back part is).follow (readable_part part is)
    (consumed (part_text part) (lines_text has.lines ++ has.torn) old new known has.taken has.at_end)

pub part_read : (part : PartParts) (old new : Option (List ℕ)) (so_far : PartSoFar) (is_torn : Bool) → IsPart part → old ≡ Some (part_text part)
    → HasLines old new so_far is_torn → part_in so_far ≡ part
part_read part old new so_far is_torn is known has =
    ap part_in has.says ∙ ap (λ l. part_in (after_all nothing_read l)) (lines_of_part part old new so_far is_torn is known has).lines_are ∙ (parts_are_read_back part is).says

pub part_not_torn : (part : PartParts) (old new : Option (List ℕ)) (so_far : PartSoFar) (is_torn : Bool) → IsPart part → old ≡ Some (part_text part)
    → HasLines old new so_far is_torn → is_torn ≡ false
part_not_torn part old new so_far true is known has =
    absurd (omega (arith, has.is_there refl, ap length (lines_of_part part old new so_far true is known has).none))
part_not_torn part old new so_far false is known has = refl

pub part_finished : (part : PartParts) (old new : Option (List ℕ)) (so_far : PartSoFar) (is_torn : Bool) → IsPart part → old ≡ Some (part_text part)
    → HasLines old new so_far is_torn → so_far.stage ≡ stage.Since
part_finished part old new so_far is_torn is known has =
    ap (λ s. s.stage) has.says ∙ ap (λ l. (after_all nothing_read l).stage) (lines_of_part part old new so_far is_torn is known has).lines_are ∙ (parts_are_read_back part is).ends

pub part_not_bad : (part : PartParts) (old : Option (List ℕ)) (number : ℕ) → IsPart part → old ≡ Some (part_text part) → HasBadLine old number → ⊥
part_not_bad part None number is known has = cc
part_not_bad part (Some bytes) number is known has =
    let same : bytes ≡ part_text part = cc (known) in
    never_bad nothing_read has.lines (lines_of part) has.bad has.begins.0 has.only has.one has.is_bad (parts_are_read_back part is).follow (readable_part part is)
    (has.begins.1 ∙ same)

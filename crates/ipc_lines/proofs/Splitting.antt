-- A line holds no newline, and its spaces stand between its fields.
use Rattle.std.proofs.Common.{◌≡◌, ℕ, ◌<◌, Bool, true, false, List, [], ◌∷◌, ◌++◌, length, get_or, refl, sym, ap, ◌∙◌, arith}
use Rattle.std.specs.Prelude.{◌==◌, not, Contains}
use Rattle.std.specs.List.{list_all, slice_split}
use Rattle.std.proofs.lemmas.Bool.{and_parts, eq-eqb, false≢true}
use Rattle.std.proofs.lemmas.List.Folds.{list_all-append}
use Rattle.std.proofs.lemmas.List.Sums.{AllPass-from_list_all}
use Rattle.ipc_history.specs.Outcomes.{OutcomeParts}
use Rattle.ipc_history.specs.declared.entry.Entry.{Entry}
use Rattle.ipc_history.specs.declared.entry.Entry.TheVariants.{Given, Written}
use Rattle.ipc_history.specs.declared.entry.Input.TheVariants.{At, Opened, Called, Exreg, Broke, Moved}
use Rattle.ipc_history.specs.declared.entry.Output.TheVariants.{Began, Turned, Ended, Overflowed, Aborted, Failed}
use Rattle.ipc_lines.specs.Lines.{spaced, entry_text, entry_fields, outcome_text, outcome_fields, placed_in}
use Rattle.ipc_lines.specs.Laws.{LinesHoldNoNewline, LinesSplitIntoFields}
use Rattle.ipc_lines.proofs.Plain.{is_plain, IsPlain, ArePlain, plain_decimal, plain_hex, plain_id, plain_words, plain_strings, plain_buffers, plain_pieces}
use Rattle.ipc_words.specs.Timeouts.{timeouts_of}

from_not : (b : Bool) → not b ≡ true → b ≡ false
from_not true h = sym h
from_not false h = refl

no_newline_at : (byte : ℕ) → is_plain byte ≡ true → (byte == 10) ≡ false
no_newline_at byte p = from_not (byte == 10) (and_parts (not (byte == 10)) (not (byte == 32)) p).0

no_space_at : (byte : ℕ) → is_plain byte ≡ true → (byte == 32) ≡ false
no_space_at byte p = from_not (byte == 32) (and_parts (not (byte == 10)) (not (byte == 32)) p).1

-- ---- no newline

-- no element is a newline
abbrev has_none : List ℕ → Bool
has_none text = list_all (λ byte. not (byte == 10)) text

has_none-plain : (text : List ℕ) → IsPlain text → has_none text ≡ true
has_none-plain [] p = refl
has_none-plain (x ∷ xs) p =
    let parts = and_parts (is_plain x) (list_all is_plain xs) p in
    let here : (x == 10) ≡ false = no_newline_at x parts.0 in
    let there : has_none xs ≡ true = has_none-plain xs parts.1 in
    rw (here, there) refl

has_none-append : (xs ys : List ℕ) → has_none xs ≡ true → has_none ys ≡ true → has_none (xs ++ ys) ≡ true
has_none-append xs ys p q = list_all-append (λ byte. not (byte == 10)) xs ys ∙ rw (p, q) refl

has_none-spaced : (fields : List (List ℕ)) → ArePlain fields → has_none (spaced fields) ≡ true
has_none-spaced [] p = refl
has_none-spaced (x ∷ []) p = has_none-plain x p.0
has_none-spaced (x ∷ y ∷ xs) p = has_none-append x (32 ∷ spaced (y ∷ xs)) (has_none-plain x p.0) (has_none-spaced (y ∷ xs) p.1)

not_there : (text : List ℕ) → has_none text ≡ true → ¬ Contains text 10
not_there text p found =
    let e : (get_or text found.0 10 == 10) ≡ false = from_not (get_or text found.0 10 == 10) (AllPass-from_list_all (λ byte. not (byte == 10)) text p found.0 10 found.1) in
    let f : (get_or text found.0 10 == 10) ≡ true = eq-eqb (get_or text found.0 10) 10 found.2 in
    false≢true (sym e ∙ f)

-- ---- fields
abbrev is_space : ℕ → Bool
is_space byte = byte == 32

split_next : (text rest : List ℕ) → IsPlain text → slice_split is_space (text ++ 32 ∷ rest) ≡ text ∷ slice_split is_space rest
split_next [] rest p = refl
split_next (x ∷ xs) rest p =
    let parts = and_parts (is_plain x) (list_all is_plain xs) p in
    let here : (x == 32) ≡ false = no_space_at x parts.0 in
    let there = split_next xs rest parts.1 in
    rw (here, there) refl

split_last : (text : List ℕ) → IsPlain text → slice_split is_space text ≡ text ∷ []
split_last [] p = refl
split_last (x ∷ xs) p =
    let parts = and_parts (is_plain x) (list_all is_plain xs) p in
    let here : (x == 32) ≡ false = no_space_at x parts.0 in
    let there = split_last xs parts.1 in
    rw (here, there) refl

split_spaced : (fields : List (List ℕ)) → 0 < length fields → ArePlain fields → slice_split is_space (spaced fields) ≡ fields
split_spaced [] h p = absurd (omega arith)
split_spaced (x ∷ []) h p = split_last x p.0
split_spaced (x ∷ y ∷ xs) h p = split_next x (spaced (y ∷ xs)) p.0 ∙ ap (λ fields. x ∷ fields) (split_spaced (y ∷ xs) (omega arith) p.1)

-- ---- the fields of entries and outcomes
plain_entry : (entry : Entry) → ArePlain (entry_fields entry)
plain_entry (Given (At moment)) = (refl, (plain_decimal moment, tt))
plain_entry (Given (Opened thread space)) = (refl, (plain_id thread, (plain_decimal space, tt)))
plain_entry (Given (Called number thread call)) = (
  refl,
  (
    plain_decimal number,
    (
      plain_id thread,
      (
        plain_id call.to,
        (
          plain_id call.from,
          (
            plain_hex (timeouts_of call.receive_period call.send_period),
            (
              plain_hex call.tag,
              (plain_id call.originator, (plain_words call.words, (plain_strings call.strings, (plain_buffers call.buffers, tt)))),
            ),
          ),
        ),
      ),
    ),
  ),
)
plain_entry (Given (Exreg thread dest control)) = (refl, (plain_id thread, (plain_id dest, (plain_hex control, tt))))
plain_entry (Given (Broke thread)) = (refl, (plain_id thread, tt))
plain_entry (Given (Moved number count)) = (refl, (plain_decimal number, (plain_decimal count, tt)))
plain_entry (Written (Began sending receiving)) = (refl, (plain_decimal sending, (plain_decimal receiving, tt)))
plain_entry (Written (Turned receiving thread)) = (refl, (plain_decimal receiving, (plain_id thread, tt)))
plain_entry (Written (Ended sending receiving)) = (refl, (plain_decimal sending, (plain_decimal receiving, tt)))
plain_entry (Written (Overflowed sending receiving offset)) = (refl, (plain_decimal sending, (plain_decimal receiving, (plain_decimal offset, tt))))
plain_entry (Written (Aborted sending receiving count)) = (refl, (plain_decimal sending, (plain_decimal receiving, (plain_decimal count, tt))))
plain_entry (Written (Failed number code)) = (refl, (plain_decimal number, (plain_hex code, tt)))

some_fields : (entry : Entry) → 0 < length (entry_fields entry)
some_fields (Given (At moment)) = omega arith
some_fields (Given (Opened thread space)) = omega arith
some_fields (Given (Called number thread call)) = omega arith
some_fields (Given (Exreg thread dest control)) = omega arith
some_fields (Given (Broke thread)) = omega arith
some_fields (Given (Moved number count)) = omega arith
some_fields (Written (Began sending receiving)) = omega arith
some_fields (Written (Turned receiving thread)) = omega arith
some_fields (Written (Ended sending receiving)) = omega arith
some_fields (Written (Overflowed sending receiving offset)) = omega arith
some_fields (Written (Aborted sending receiving count)) = omega arith
some_fields (Written (Failed number code)) = omega arith

plain_outcome : (outcome : OutcomeParts) → ArePlain (outcome_fields outcome)
plain_outcome outcome = (
  plain_decimal outcome.call,
  (
    plain_hex outcome.tag,
    (
      plain_id outcome.sender,
      (
        plain_id outcome.actual,
        (
          plain_hex outcome.error,
          (plain_words outcome.words, (plain_pieces (placed_in outcome), tt)),
        ),
      ),
    ),
  ),
)

-- ---- the laws
pub lines_hold_no_newline : LinesHoldNoNewline
lines_hold_no_newline = (
  λ entry. not_there (entry_text entry) (has_none-spaced (entry_fields entry) (plain_entry entry)),
  λ outcome. not_there (outcome_text outcome) (has_none-spaced (outcome_fields outcome) (plain_outcome outcome)),
)

pub lines_split_into_fields : LinesSplitIntoFields
lines_split_into_fields = (
  λ entry. split_spaced (entry_fields entry) (some_fields entry) (plain_entry entry),
  λ outcome. split_spaced (outcome_fields outcome) (omega arith) (plain_outcome outcome),
)

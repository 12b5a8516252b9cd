use Rattle.std.proofs.Common.{◌≡◌, ◌++◌, length, arith, ap, sym, refl, ◌∙◌}
use Rattle.std.proofs.lemmas.List.{append_cancel_left}
use Rattle.ipc_lines.specs.Lines.{spaced}
use Rattle.ipc_lines.specs.Reading.{parts_at, texts_of}
use Rattle.ipc_lines.proofs.ListTexts.{spaced_found}
use Rattle.ipc_trace.specs.Lines.{number_fields, number_word}
use Rattle.ipc_trace.proofs.Texts.{number_parts, number_same}
use Rattle.ipc_trace.proofs.line.number_line.Goals as goal

pub returns-in_default-2-clause-only : goal.returns-in_default-2-clause-only
returns-in_default-2-clause-only c number version dropped is_number is_version is_dropped e =
    let past = rw c.in_default-2.is at c.in_ok-fields.ensures in
    let numbers : c.in-Some.numbers.now ≡ spaced (number_fields number version dropped) = append_cancel_left number_word _ _ (sym c.in-Some.ensures ∙ e) in
    absurd (omega (arith, past, ap length (number_parts c.in-Some.numbers.now number version dropped numbers)))

pub returns-in-Some-three_numbers-clause-found : goal.returns-in-Some-three_numbers-clause-found
returns-in-Some-three_numbers-clause-found c =
    let parts = rw c.in-Some-2.is at c.in_ok-fields.ensures in
    let texts : texts_of c.deref.result.now ≡ parts_at 32 c.in-Some.numbers.now = ap texts_of c.deref.ensures.value ∙ parts.0 in
    let fields = number_fields c.in-Some-three_numbers.number c.in-Some-three_numbers.version c.in-Some-three_numbers.dropped in
    let numbers : c.in-Some.numbers.now ≡ spaced fields = spaced_found c.in-Some.numbers.now fields (sym texts ∙ c.in-Some-three_numbers.ensures.found) in
    ((refl, c.in-Some.ensures ∙ ap (λ t. number_word ++ t) numbers), (c.in-Some.numbers.now, c.in-Some.ensures))

pub returns-in-Some-three_numbers-clause-only : goal.returns-in-Some-three_numbers-clause-only
returns-in-Some-three_numbers-clause-only c number version dropped is_number is_version is_dropped e =
    let parts = rw c.in-Some-2.is at c.in_ok-fields.ensures in
    let texts : texts_of c.deref.result.now ≡ parts_at 32 c.in-Some.numbers.now = ap texts_of c.deref.ensures.value ∙ parts.0 in
    let numbers : c.in-Some.numbers.now ≡ spaced (number_fields number version dropped) = append_cancel_left number_word _ _ (sym c.in-Some.ensures ∙ e) in
    let same = c.in-Some-three_numbers.ensures.only number version dropped is_number is_version is_dropped (texts ∙ number_parts c.in-Some.numbers.now number version dropped numbers) in
    number_same c.in-Some-three_numbers.number c.in-Some-three_numbers.version c.in-Some-three_numbers.dropped number version dropped same

pub returns-clause-only : goal.returns-clause-only
returns-clause-only c number version dropped is_number is_version is_dropped e =
    let parts = rw c.in-Some-2.is at c.in_ok-fields.ensures in
    let texts : texts_of c.deref.result.now ≡ parts_at 32 c.in-Some.numbers.now = ap texts_of c.deref.ensures.value ∙ parts.0 in
    let numbers : c.in-Some.numbers.now ≡ spaced (number_fields number version dropped) = append_cancel_left number_word _ _ (sym c.in-Some.ensures ∙ e) in
    let same = c.in-None.ensures.only number version dropped is_number is_version is_dropped (texts ∙ number_parts c.in-Some.numbers.now number version dropped numbers) in
    cc (same)

use Rattle.std.proofs.Common.{◌≡◌, [], ◌∷◌, Some, ap, sym, ◌∙◌, None, refl}
use Rattle.ipc_lines.specs.Texts.{hex_text}
use Rattle.ipc_lines.proofs.ListTexts.{field_at, two_of}
use Rattle.ipc_lines.proofs.Options.{none_not_some, some_same}
use Rattle.ipc_lines.proofs.reading.values.read_number_and_code.Goals as goal

pub returns-clause-found : goal.returns-clause-found
returns-clause-found c =
    two_of c.args.fields.now c.in-len2.len_at_least c.in-len2.len_below ∙ (λ i. c.in_ok-read_decimal.ensures.found i ∷ (c.in_ok-read_hex.ensures.found ∙ ap hex_text (sym c.from_word.ensures)) i ∷ [])

pub returns-in_err-read_decimal-clause-only : goal.returns-in_err-read_decimal-clause-only
returns-in_err-read_decimal-clause-only c number code is_number is_code e =
    let none = c.in_err-read_decimal.ensures.only number is_number (field_at c.args.fields.now _ 0 e) in
    absurd (none_not_some None _ refl none)

pub returns-in_err-read_hex-clause-only : goal.returns-in_err-read_hex-clause-only
returns-in_err-read_hex-clause-only c number code is_number is_code e =
    let none = c.in_err-read_hex.ensures.only code is_code (field_at c.args.fields.now _ 1 e) in
    absurd (none_not_some None _ refl none)

pub returns-clause-only : goal.returns-clause-only
returns-clause-only c number code is_number is_code e =
    let a : c.in_ok-read_decimal.field-0 ≡ number = some_same _ _ (c.in_ok-read_decimal.ensures.only number is_number (field_at c.args.fields.now _ 0 e)) in
    let b : c.from_word.result ≡ code = c.from_word.ensures ∙ some_same _ _ (c.in_ok-read_hex.ensures.only code is_code (field_at c.args.fields.now _ 1 e)) in
    λ i. Some (a i, b i)

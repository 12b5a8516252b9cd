use Rattle.std.proofs.Common.{◌≡◌, [], ◌∷◌, Some, ◌∙◌, None, refl}
use Rattle.ipc_lines.proofs.ListTexts.{field_at, two_of}
use Rattle.ipc_lines.proofs.Options.{none_not_some, some_same}
use Rattle.ipc_lines.proofs.reading.values.read_pair.Goals as goal

pub returns-clause-found : goal.returns-clause-found
returns-clause-found c =
    two_of c.args.fields.now c.in-len2.len_at_least c.in-len2.len_below ∙ (λ i. c.in_ok-read_decimal.ensures.found i ∷ c.in_ok-read_decimal-2.ensures.found i ∷ [])

pub returns-in_err-read_decimal-clause-only : goal.returns-in_err-read_decimal-clause-only
returns-in_err-read_decimal-clause-only c first second is_first is_second e =
    let none = c.in_err-read_decimal.ensures.only first is_first (field_at c.args.fields.now _ 0 e) in
    absurd (none_not_some None _ refl none)

pub returns-in_err-read_decimal-2-clause-only : goal.returns-in_err-read_decimal-2-clause-only
returns-in_err-read_decimal-2-clause-only c first second is_first is_second e =
    let none = c.in_err-read_decimal-2.ensures.only second is_second (field_at c.args.fields.now _ 1 e) in
    absurd (none_not_some None _ refl none)

pub returns-clause-only : goal.returns-clause-only
returns-clause-only c first second is_first is_second e =
    let a : c.in_ok-read_decimal.field-0 ≡ first = some_same _ _ (c.in_ok-read_decimal.ensures.only first is_first (field_at c.args.fields.now _ 0 e)) in
    let b : c.in_ok-read_decimal-2.field-0 ≡ second = some_same _ _ (c.in_ok-read_decimal-2.ensures.only second is_second (field_at c.args.fields.now _ 1 e)) in
    λ i. Some (a i, b i)

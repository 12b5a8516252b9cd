use Rattle.std.proofs.Common.{◌≡◌, [], ◌∷◌, Some, ◌∙◌, None, refl}
use Rattle.ipc_lines.proofs.ListTexts.{field_at, three_of}
use Rattle.ipc_lines.proofs.Options.{none_not_some, some_same}
use Rattle.ipc_lines.proofs.reading.values.read_triple.Goals as goal

pub returns-clause-found : goal.returns-clause-found
returns-clause-found c =
    three_of c.args.fields.now c.in-len3.len_at_least c.in-len3.len_below
    ∙ (λ i. c.in_ok-first.ensures.found i ∷ c.in_ok-second.ensures.found i ∷ c.in_ok-read_decimal.ensures.found i ∷ [])

pub returns-in_err-first-clause-only : goal.returns-in_err-first-clause-only
returns-in_err-first-clause-only c first second third is_first is_second is_third e =
    let none = c.in_err-first.ensures.only first is_first (field_at c.args.fields.now _ 0 e) in
    absurd (none_not_some None _ refl none)

pub returns-in_err-second-clause-only : goal.returns-in_err-second-clause-only
returns-in_err-second-clause-only c first second third is_first is_second is_third e =
    let none = c.in_err-second.ensures.only second is_second (field_at c.args.fields.now _ 1 e) in
    absurd (none_not_some None _ refl none)

pub returns-in_err-read_decimal-clause-only : goal.returns-in_err-read_decimal-clause-only
returns-in_err-read_decimal-clause-only c first second third is_first is_second is_third e =
    let none = c.in_err-read_decimal.ensures.only third is_third (field_at c.args.fields.now _ 2 e) in
    absurd (none_not_some None _ refl none)

pub returns-clause-only : goal.returns-clause-only
returns-clause-only c first second third is_first is_second is_third e =
    let a : c.in_ok-first.first ≡ first = some_same _ _ (c.in_ok-first.ensures.only first is_first (field_at c.args.fields.now _ 0 e)) in
    let b : c.in_ok-second.second ≡ second = some_same _ _ (c.in_ok-second.ensures.only second is_second (field_at c.args.fields.now _ 1 e)) in
    let d : c.in_ok-read_decimal.field-0 ≡ third = some_same _ _ (c.in_ok-read_decimal.ensures.only third is_third (field_at c.args.fields.now _ 2 e)) in
    λ i. Some (a i, b i, d i)

use Rattle.std.proofs.Common.{◌≡◌, [], ◌∷◌, Some, ◌∙◌, None, refl}
use Rattle.ipc_lines.proofs.ListTexts.{field_at, two_of}
use Rattle.ipc_lines.proofs.Options.{none_not_some, some_same}
use Rattle.ipc_lines.proofs.reading.values.read_number_and_thread.Goals as goal

pub returns-clause-found : goal.returns-clause-found
returns-clause-found c =
    two_of c.args.fields.now c.in-len2.len_at_least c.in-len2.len_below ∙ (λ i. c.in_ok-read_decimal.ensures.found i ∷ c.in_ok-read_id.ensures.found i ∷ [])

pub returns-in_err-read_decimal-clause-only : goal.returns-in_err-read_decimal-clause-only
returns-in_err-read_decimal-clause-only c receiving thread is_receiving is_thread e =
    let none = c.in_err-read_decimal.ensures.only receiving is_receiving (field_at c.args.fields.now _ 0 e) in
    absurd (none_not_some None _ refl none)

pub returns-in_err-read_id-clause-only : goal.returns-in_err-read_id-clause-only
returns-in_err-read_id-clause-only c receiving thread is_receiving is_thread e =
    let none = c.in_err-read_id.ensures.only thread is_thread (field_at c.args.fields.now _ 1 e) in
    absurd (none_not_some None _ refl none)

pub returns-clause-only : goal.returns-clause-only
returns-clause-only c receiving thread is_receiving is_thread e =
    let a : c.in_ok-read_decimal.field-0 ≡ receiving = some_same _ _ (c.in_ok-read_decimal.ensures.only receiving is_receiving (field_at c.args.fields.now _ 0 e)) in
    let b : c.in_ok-read_id.field-0 ≡ thread = some_same _ _ (c.in_ok-read_id.ensures.only thread is_thread (field_at c.args.fields.now _ 1 e)) in
    λ i. Some (a i, b i)

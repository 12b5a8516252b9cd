use Rattle.std.proofs.Common.{[], ◌∷◌, sym, ◌∙◌}
use Rattle.ipc_lines.proofs.Limits.{normal_words}
use Rattle.ipc_lines.proofs.ListTexts.{field_at, three_of}
use Rattle.ipc_lines.proofs.Options.{none_of, is_some_and, none_not_some}
use Rattle.ipc_lines.proofs.call_reading.read_lists.Goals as goal

pub returns-in_default-2-clause-only : goal.returns-in_default-2-clause-only
returns-in_default-2-clause-only c thread call is e =
    none_of _ c.in_ok-words.field-0 c.in_default-2.is (c.in_ok-words.ensures.only call.words is.words (normal_words call is.normal) (field_at c.args.fields.now _ 0 e))

pub returns-clause-found : goal.returns-clause-found
returns-clause-found c =
    let words = rw c.in-Some.is at c.in_ok-words.ensures.found in
    let strings = rw c.in-Some-2.is at c.in_ok-strings.ensures.found in
    let buffers = rw c.in-Some-3.is at c.in_ok-buffers.ensures.found in
    three_of c.args.fields.now c.in-len3.len_at_least c.in-len3.len_below ∙ (λ i. words i ∷ strings i ∷ buffers i ∷ [])

pub returns-clause-only : goal.returns-clause-only
returns-clause-only c thread call is e =
    let words = is_some_and _ c.in_ok-words.field-0 c.in-Some.words c.in-Some.is (c.in_ok-words.ensures.only call.words is.words (normal_words call is.normal) (field_at c.args.fields.now _ 0 e)) in
    let strings = sym c.in-Some-2.is ∙ c.in_ok-strings.ensures.only call.strings is.strings (field_at c.args.fields.now _ 1 e) in
    let buffers = sym c.in-Some-3.is ∙ c.in_ok-buffers.ensures.only call.buffers is.buffers (field_at c.args.fields.now _ 2 e) in
    (words, cc (strings), cc (buffers))

pub returns-in_default-3-clause-only : goal.returns-in_default-3-clause-only
returns-in_default-3-clause-only c thread call is e =
    absurd (none_not_some c.in_ok-strings.field-0 call.strings c.in_default-3.is (c.in_ok-strings.ensures.only call.strings is.strings (field_at c.args.fields.now _ 1 e)))

pub returns-in_default-4-clause-only : goal.returns-in_default-4-clause-only
returns-in_default-4-clause-only c thread call is e =
    absurd (none_not_some c.in_ok-buffers.field-0 call.buffers c.in_default-4.is (c.in_ok-buffers.ensures.only call.buffers is.buffers (field_at c.args.fields.now _ 2 e)))

use Rattle.std.proofs.Common.{Some, IsTrue, ap, sym, subst, ◌∙◌, None, refl}
use Rattle.ipc_words.specs.Control.{is_masked}
use Rattle.ipc_lines.proofs.Limits.{masked_word}
use Rattle.ipc_lines.proofs.Options.{none_not_some, some_same, some_value}
use Rattle.ipc_lines.proofs.reading.values.read_control.Goals as goal

pub returns-in_err-read_hex-clause-only : goal.returns-in_err-read_hex-clause-only
returns-in_err-read_hex-clause-only c control masked e =
    let other = c.in_err-read_hex.ensures.only control (masked_word control masked) e in
    absurd (none_not_some None _ refl other)

pub returns-clause-only : goal.returns-clause-only
returns-clause-only c control masked e =
    let same = some_same _ _ (c.in_ok-read_hex.ensures.only control (masked_word control masked) e) in
    let some = c.from_word.ensures.masked.1 (subst (λ w. IsTrue (is_masked w)) (sym same) masked) in
    some_value c.from_word.result c.in_ok-read_hex.field-0 some c.from_word.ensures.value ∙ ap Some same

use Rattle.std.proofs.Common.{◌≡◌, IsTrue, IfOk, sym, subst}
use Rattle.std.specs.Prelude.{◌↔◌}
use Rattle.l4sh_explain.specs.declared.grammars.FieldKind.TheVariants.{Words, Strings, Buffers}
use Rattle.l4sh_explain.specs.Grammars.{kind_of}
use Rattle.l4sh_explain.specs.Spellings.{IsOfKind}
use Rattle.l4sh_explain.proofs.spellings.is_spelled.Goals as goal

pub returns-in-Words : goal.returns-in-Words
returns-in-Words c =
    let same : kind_of c.args.field ≡ Words = cc in
    subst (λ kind. IfOk c.are_words.result (λ answer. IsTrue answer ↔ IsOfKind kind c.args.text.now)) (sym same) c.are_words.ensures

pub returns-in-Strings : goal.returns-in-Strings
returns-in-Strings c =
    let same : kind_of c.args.field ≡ Strings = cc in
    subst (λ kind. IfOk c.are_strings.result (λ answer. IsTrue answer ↔ IsOfKind kind c.args.text.now)) (sym same) c.are_strings.ensures

pub returns-in-Buffers : goal.returns-in-Buffers
returns-in-Buffers c =
    let same : kind_of c.args.field ≡ Buffers = cc in
    subst (λ kind. IfOk c.are_buffers.result (λ answer. IsTrue answer ↔ IsOfKind kind c.args.text.now)) (sym same) c.are_buffers.ensures

use Rattle.std.proofs.Common.{Some, ap, sym, ◌∙◌}
use Rattle.std.proofs.lemmas.Result.{IfOk-weaker}
use Rattle.ipc_history.specs.declared.entry.Entry.TheVariants.{Given}
use Rattle.ipc_history.specs.declared.entry.Input.TheVariants.{Called}
use Rattle.ipc_lines.specs.Reading.{texts_of}
use Rattle.ipc_lines.proofs.Naming.{first_same, rest_same}
use Rattle.ipc_lines.proofs.Options.{some_same}
use Rattle.ipc_lines.proofs.reading.kinds.read_called.Goals as goal

pub returns-in-Some-read_decimal-clause-only : goal.returns-in-Some-read_decimal-clause-only
returns-in-Some-read_decimal-clause-only c number thread call is_number is e =
    let parts = ap texts_of (sym c.in-Some.ensures.cases.0) ∙ e in
    let n = some_same _ _ (c.in-Some-read_decimal.ensures.only number is_number (first_same _ _ _ _ parts)) in
    IfOk-weaker c.read_numbered_call.result _ _ (λ answer a. a ∙ (λ i. Some (Given (Called (n i) thread call)))) (c.read_numbered_call.ensures.only thread call is (rest_same _ _ _ _ parts))

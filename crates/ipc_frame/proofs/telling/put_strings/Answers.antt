use Rattle.std.proofs.Common.{◌==◌, length, sym, ap, ◌∙◌}
use Rattle.ipc_history.specs.Outcomes.{OutcomeParts}
use Rattle.ipc_frame.specs.Parts.{pieces_text}
use Rattle.ipc_frame.specs.Window.{page, passed}
use Rattle.ipc_frame.proofs.PlacingLemmas.{none_told}
use Rattle.ipc_frame.proofs.WindowLemmas.{passed_nothing}
use Rattle.ipc_frame.proofs.telling.put_strings.Goals as goal

pub returns-then-is_empty-clause-shown : goal.returns-then-is_empty-clause-shown
returns-then-is_empty-clause-shown c =
    let here = page c.args.window.now c.args.out.now in
    let strings = ap (λ (o : OutcomeParts). length o.strings == 0) c.outcome.view_is in
    let none = none_told c.args.outcome.now (sym strings ∙ (sym c.is_empty.ensures ∙ c.if-is_empty.true)) in
    sym (ap (λ ps. passed (pieces_text ps) here) none ∙ passed_nothing here)

use Rattle.std.proofs.Common.{◌∷◌, Some, ap, sym, ◌∙◌}
use Rattle.std.proofs.lemmas.Result.{IfOk-weaker}
use Rattle.ipc_lines.specs.Reading.{texts_of}
use Rattle.ipc_shell.specs.Commands.{command_name}
use Rattle.ipc_shell.proofs.CommandLemmas.{call_command}
use Rattle.ipc_shell.proofs.reading.command_of.Goals as goal

pub returns-in-Call-clause-only : goal.returns-in-Call-clause-only
returns-in-Call-clause-only c command is e =
    let fields = texts_of c.args.fields.now in
    let kind = call_command command fields is (ap (λ n. command_name n ∷ fields) (sym c.in-Call.is) ∙ e) in
    IfOk-weaker c.read_enter.result _ _ (λ answer a. a ∙ ap Some kind.same)
    (c.read_enter.ensures.only kind.thread kind.call kind.is_call kind.fields)

use Rattle.std.proofs.Common.{◌≡◌, Some, ◌∙◌}
use Rattle.ipc_core.specs.declared.command.Command.TheVariants.{Exreg}
use Rattle.ipc_lines.proofs.ListTexts.{field_at}
use Rattle.ipc_lines.proofs.Options.{some_same}
use Rattle.ipc_shell.proofs.reading.read_exreg.Goals as goal

pub returns-clause-only : goal.returns-clause-only
returns-clause-only c thread target control is_thread is_target is_control e =
    let a : c.in_ok-read_id.field-0 ≡ thread =
    some_same _ _ (c.in_ok-read_id.ensures.only thread is_thread (field_at c.args.fields.now _ 0 e)) in
    let b : c.in_ok-read_id-2.field-0 ≡ target =
    some_same _ _ (c.in_ok-read_id-2.ensures.only target is_target (field_at c.args.fields.now _ 1 e)) in
    let word = some_same _ _ (c.in_ok-read_hex.ensures.only control is_control (field_at c.args.fields.now _ 2 e)) in
    let d : c.from_word.result ≡ control = c.from_word.ensures ∙ word in
    λ i. Some (Exreg (a i) (b i) (d i))

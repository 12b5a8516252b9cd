use Rattle.std.proofs.Common.{ap, ◌∙◌, ◌++◌, []}
use Rattle.ipc_shell.specs.Commands.{script_text}
use Rattle.ipc_shell.specs.Script.{commands_from}
use Rattle.std.specs.String.{string_bytes}
use Rattle.ipc_shell.proofs.Readable.{readable_commands}
use Rattle.ipc_shell.proofs.Texts.{script_whole}
use Rattle.ipc_shell.proofs.script.script_of.Goals as goal

pub returns-in_err-write_commands-clause-readable : goal.returns-in_err-write_commands-clause-readable
returns-in_err-write_commands-clause-readable c = readable_commands c.args.entries.now c.are_readable.ensures

pub returns-in_err-write_last_takes-clause-readable : goal.returns-in_err-write_last_takes-clause-readable
returns-in_err-write_last_takes-clause-readable c = readable_commands c.args.entries.now c.are_readable.ensures

pub returns-clause-readable : goal.returns-clause-readable
returns-clause-readable c = readable_commands c.args.entries.now c.are_readable.ensures

pub returns-clause-text : goal.returns-clause-text
returns-clause-text c =
    script_whole c.args.entries.now (string_bytes c.write_commands.new.out) (string_bytes c.write_last_takes.new.out)
    (c.in_ok-write_commands.ensures ∙ ap (λ l. l ++ script_text (commands_from [] c.args.entries.now)) c.new-text.ensures.bytes)
    c.in_ok-write_last_takes.ensures

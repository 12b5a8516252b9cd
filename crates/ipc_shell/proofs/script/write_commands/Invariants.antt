use Rattle.std.proofs.Common.{◌≡◌, ◌++◌, [], take, drop}
use Rattle.std.specs.String.{string_bytes}
use Rattle.ipc_shell.specs.Commands.{script_text}
use Rattle.ipc_shell.specs.Script.{commands_from}
use Rattle.ipc_shell.proofs.script.write_commands.Given as goal

abbrev pub invariant-loop-place : goal.invariant-loop-place
invariant-loop-place l = string_bytes l.out ++ script_text (commands_from (take l.place l.entries) (drop l.place l.entries)) ≡ string_bytes l.initial.out ++ script_text (commands_from [] l.entries)

use Rattle.std.proofs.Common.{◌≡◌, ◌++◌, drop}
use Rattle.std.specs.String.{string_bytes}
use Rattle.ipc_shell.specs.Commands.{script_text}
use Rattle.ipc_shell.specs.Script.{last_takes}
use Rattle.ipc_shell.proofs.script.write_last_takes.Given as goal

abbrev pub invariant-loop-place : goal.invariant-loop-place
invariant-loop-place l = string_bytes l.out ++ script_text (last_takes l.entries (drop l.place l.entries)) ≡ string_bytes l.initial.out ++ script_text (last_takes l.entries l.entries)

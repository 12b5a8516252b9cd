use Rattle.std.proofs.Common.{take}
use Rattle.std.specs.List.{All}
use Rattle.ipc_lines.specs.Reading.{IsReadable}
use Rattle.ipc_shell.proofs.script.are_readable.Given as goal

abbrev pub invariant-loop-place : goal.invariant-loop-place
invariant-loop-place l = All IsReadable (take l.place l.entries)

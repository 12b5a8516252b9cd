-- The lines of the thread numbers so far stand.
use Rattle.std.proofs.Common.{◌≡◌, ◌++◌, take}
use Rattle.std.specs.String.{string_bytes}
use Rattle.ipc_trace.specs.Parts.{lines_text, number_lines}
use Rattle.ipc_trace.proofs.base_text.write_numbers.Given as goal

abbrev pub invariant-loop-place : goal.invariant-loop-place
invariant-loop-place l = string_bytes l.out ≡ string_bytes l.fn.out ++ lines_text (number_lines 0 (take l.place l.versions) (take l.place l.dropped))

-- The lines of the calls so far stand.
use Rattle.std.proofs.Common.{◌≡◌, ◌++◌, take}
use Rattle.std.specs.String.{string_bytes}
use Rattle.ipc_trace.specs.Parts.{lines_text, over_lines}
use Rattle.ipc_trace.proofs.base_text.write_overs.Given as goal

abbrev pub invariant-loop-call : goal.invariant-loop-call
invariant-loop-call l = string_bytes l.out ≡ string_bytes l.fn.out ++ lines_text (over_lines (take l.call-index l.over))

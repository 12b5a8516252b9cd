-- The lines of the entries so far were put.
use Rattle.std.proofs.Common.{take}
use Rattle.std.specs.Io.KnownBytes.{Appends}
use Rattle.ipc_trace.specs.Traces.{trace_text}
use Rattle.ipc_tracing.proofs.tracing.put_each.Given as goal

abbrev pub invariant-loop-entry : goal.invariant-loop-entry
invariant-loop-entry g l = Appends l.initial.writer.written l.writer.written (trace_text (take l.entry-index l.entries))

use Rattle.std.proofs.Common.{◌≡◌, ◌+◌, ◌<◌, true, length, Some, inl, inr, refl, sym, subst, ap, ◌∙◌, arith}
use Rattle.std.proofs.lemmas.Grind.{common_steps}
use Rattle.std.specs.Io.KnownBytes.{prepend_known}
use Rattle.std.proofs.KnownBytes.{Appends-nil}
use Rattle.std.proofs.lemmas.Option.{same_Some}
use Rattle.ipc_shell.specs.Reading.{ReadsLine}
use Rattle.ipc_core.specs.KernelParts.{KernelParts}
use Rattle.ipc_shell.specs.Running.{EndsLine, IsNoCommand, RunsLine}
use Rattle.ipc_shell.proofs.RunLemmas.{none_is_not_some, line_is_no_failure}
use Rattle.ipc_shell.proofs.ScriptLemmas.{ObeyedSoFar, none_obeyed, many_obeyed, one_empty_line, one_command_line, stops_without_memory, stops_with_device, stops_done, stops_too_long, stops_at_line}
use Rattle.ipc_shell.proofs.run.run_lines.Goals.{then-is_empty, in-Line-2+in_default}
use Rattle.ipc_shell.proofs.run.run_lines.Goals as goal

pub returns-in-Some-clause-runs : goal.returns-in-Some-clause-runs
returns-in-Some-clause-runs g c =
    let line = c.next_line.new.line.items in
    let now = g.W.PortWrite.written c.lines.writer in
    let after = g.W.PortWrite.written c.run_line.new.writer in
    let some : 0 < length line = grind (arith, common_steps) in
    let ended = subst (λ l. EndsLine c.lines.kernel c.run_line.new.kernel now after l c.lines.number (Some c.in-Some.exit)) c.deref.ensures.value c.in-Some.ensures.ends in
    stops_at_line KernelParts RunsLine IsNoCommand c.args.kernel.now c.lines.kernel c.run_line.new.kernel line c.lines.number (g.W.PortWrite.written c.args.writer.now) now after
    (prepend_known c.args.buffer.now (g.R.PortRead.remaining c.args.reader.now)) (prepend_known c.lines.buffer (g.R.PortRead.remaining c.lines.reader)) (prepend_known c.next_line.new.buffer (g.R.PortRead.remaining c.next_line.new.port)) c.in-Some.exit some c.lines.invariant.so_far c.in-Line-2.ensures.line ended

pub returns-in-TooLong-clause-runs : goal.returns-in-TooLong-clause-runs
returns-in-TooLong-clause-runs g c =
    stops_too_long KernelParts RunsLine IsNoCommand c.args.kernel.now c.lines.kernel c.next_line.new.line.items c.lines.number (g.W.PortWrite.written c.args.writer.now) (g.W.PortWrite.written c.lines.writer)
    (prepend_known c.args.buffer.now (g.R.PortRead.remaining c.args.reader.now)) (prepend_known c.lines.buffer (g.R.PortRead.remaining c.lines.reader)) (prepend_known c.next_line.new.buffer (g.R.PortRead.remaining c.next_line.new.port)) c.lines.invariant.so_far c.in-TooLong.ensures.line

pub returns-in-End-clause-runs : goal.returns-in-End-clause-runs
returns-in-End-clause-runs g c =
    stops_done KernelParts RunsLine IsNoCommand c.args.kernel.now c.lines.kernel c.next_line.new.line.items c.lines.number (g.W.PortWrite.written c.args.writer.now) (g.W.PortWrite.written c.lines.writer)
    (prepend_known c.args.buffer.now (g.R.PortRead.remaining c.args.reader.now)) (prepend_known c.lines.buffer (g.R.PortRead.remaining c.lines.reader)) (prepend_known c.next_line.new.buffer (g.R.PortRead.remaining c.next_line.new.port)) c.lines.invariant.so_far c.in-End.ensures.line

pub returns-in-Failed-clause-runs : goal.returns-in-Failed-clause-runs
returns-in-Failed-clause-runs g c =
    let now = g.W.PortWrite.written c.lines.writer in
    stops_with_device KernelParts RunsLine IsNoCommand c.args.kernel.now c.lines.kernel c.lines.number (g.W.PortWrite.written c.args.writer.now) now now
    (prepend_known c.args.buffer.now (g.R.PortRead.remaining c.args.reader.now)) (prepend_known c.lines.buffer (g.R.PortRead.remaining c.lines.reader)) c.lines.invariant.so_far (Appends-nil now)

pub returns-in-NoMemory-clause-runs : goal.returns-in-NoMemory-clause-runs
returns-in-NoMemory-clause-runs g c =
    let now = g.W.PortWrite.written c.lines.writer in
    stops_without_memory KernelParts RunsLine IsNoCommand c.args.kernel.now c.lines.kernel c.lines.number (g.W.PortWrite.written c.args.writer.now) now now
    (prepend_known c.args.buffer.now (g.R.PortRead.remaining c.args.reader.now)) (prepend_known c.lines.buffer (g.R.PortRead.remaining c.lines.reader)) c.lines.invariant.so_far (Appends-nil now)

pub lines-preserved : goal.lines-preserved
lines-preserved g c =
    let start = c.args.kernel.now in
    let line = c.next_line.new.line.items in
    let before = g.W.PortWrite.written c.args.writer.now in
    let now = g.W.PortWrite.written c.lines.writer in
    let bytes = prepend_known c.args.buffer.now (g.R.PortRead.remaining c.args.reader.now) in
    let rest = prepend_known c.lines.buffer (g.R.PortRead.remaining c.lines.reader) in
    let left = prepend_known c.next_line.new.buffer (g.R.PortRead.remaining c.next_line.new.port) in
    let read = subst (ReadsLine rest left line) c.in-Line.is c.next_line.ensures.line in
    let so_far : ObeyedSoFar RunsLine start bytes left before (g.W.PortWrite.written c.if-is_empty.writer) c.if-is_empty.kernel (c.lines.number + 1) =
    elim c.if-is_empty.branch [
      | then-is_empty w ↦
          let empty : length line ≡ 0 = grind (arith, common_steps) in
          subst (λ k. ObeyedSoFar RunsLine start bytes left before (g.W.PortWrite.written c.if-is_empty.writer) k (c.lines.number + 1)) (sym w.kernel-is)
          (subst (λ writer. ObeyedSoFar RunsLine start bytes left before (g.W.PortWrite.written writer) c.lines.kernel (c.lines.number + 1)) (sym w.writer-is)
          (one_empty_line KernelParts RunsLine IsNoCommand start c.lines.kernel line c.lines.number before now bytes rest left empty c.lines.invariant.so_far read))
      | in-Line-2+in_default w ↦
          let after = g.W.PortWrite.written w.run_line.new.writer in
          let some : 0 < length line = grind (arith, common_steps) in
          let ended = subst (EndsLine c.lines.kernel w.run_line.new.kernel now after line c.lines.number) w.in_default.is
          (subst (λ l. EndsLine c.lines.kernel w.run_line.new.kernel now after l c.lines.number w.run_line.result) w.deref.ensures.value w.run_line.ensures.ends) in
          subst (λ k. ObeyedSoFar RunsLine start bytes left before (g.W.PortWrite.written c.if-is_empty.writer) k (c.lines.number + 1)) (sym w.kernel-is)
          (subst (λ writer. ObeyedSoFar RunsLine start bytes left before (g.W.PortWrite.written writer) w.run_line.new.kernel (c.lines.number + 1)) (sym w.writer-is)
          (one_command_line KernelParts RunsLine IsNoCommand start c.lines.kernel w.run_line.new.kernel line c.lines.number before now after bytes rest left some c.lines.invariant.so_far read ended))
    ]
    in
    let written : g.W.PortWrite.failures c.if-is_empty.writer ≡ g.W.PortWrite.failures c.args.writer.now =
    elim c.if-is_empty.branch [
      | then-is_empty w ↦ ap g.W.PortWrite.failures w.writer-is ∙ c.lines.invariant.written
      | in-Line-2+in_default w ↦
          ap g.W.PortWrite.failures w.writer-is ∙ w.run_line.ensures.kept (none_is_not_some w.run_line.result w.in_default.is) ∙ c.lines.invariant.written
    ]
    in
    let flushed : g.W.PortWrite.flushed c.args.writer.now ≡ true → g.W.PortWrite.flushed c.if-is_empty.writer ≡ true =
    λ before. elim c.if-is_empty.branch [
      | then-is_empty w ↦ ap g.W.PortWrite.flushed w.writer-is ∙ c.lines.invariant.flushed before
      | in-Line-2+in_default w ↦
          ap g.W.PortWrite.flushed w.writer-is ∙ w.run_line.ensures.flushed (none_is_not_some w.run_line.result w.in_default.is) (c.lines.invariant.flushed before)
    ]
    in
    record { so_far = so_far; read = c.in-Line.ensures.kept line_is_no_failure ∙ c.lines.invariant.read; written = written; flushed = flushed }

pub returns-clause-runs : goal.returns-clause-runs
returns-clause-runs g c =
    let now = g.W.PortWrite.written c.lines.writer in
    stops_with_device KernelParts RunsLine IsNoCommand c.args.kernel.now c.lines.kernel c.lines.number (g.W.PortWrite.written c.args.writer.now) now now
    (prepend_known c.args.buffer.now (g.R.PortRead.remaining c.args.reader.now)) (prepend_known c.lines.buffer (g.R.PortRead.remaining c.lines.reader)) c.lines.invariant.so_far (Appends-nil now)

pub returns-in-Failed-clause-device : goal.returns-in-Failed-clause-device
returns-in-Failed-clause-device g c = λ _. inl (omega (arith, c.lines.invariant.read, c.lines.invariant.written, c.in-Failed.ensures.failed refl))

pub returns-in-Some-clause-device : goal.returns-in-Some-clause-device
returns-in-Some-clause-device g c = λ is. inl (omega (
  arith,
  c.lines.invariant.read,
  c.lines.invariant.written,
  c.in-Line-2.ensures.kept line_is_no_failure,
  c.in-Some.ensures.failed (ap Some is),
))

pub returns-in-Some-clause-kept : goal.returns-in-Some-clause-kept
returns-in-Some-clause-kept g c = λ is_not. (
  c.in-Line-2.ensures.kept line_is_no_failure ∙ c.lines.invariant.read,
  c.in-Some.ensures.kept (λ is. is_not (same_Some _ _ is)) ∙ c.lines.invariant.written,
)

pub returns-in-Some-clause-flushed : goal.returns-in-Some-clause-flushed
returns-in-Some-clause-flushed g c = λ is_not before. c.in-Some.ensures.flushed (λ is. is_not (same_Some _ _ is)) (c.lines.invariant.flushed before)

pub returns-clause-device : goal.returns-clause-device
returns-clause-device g c = λ _. inr (many_obeyed KernelParts RunsLine IsNoCommand c.args.kernel.now (prepend_known c.args.buffer.now (g.R.PortRead.remaining c.args.reader.now))
    (prepend_known c.lines.buffer (g.R.PortRead.remaining c.lines.reader)) (g.W.PortWrite.written c.args.writer.now)
    (g.W.PortWrite.written c.lines.writer) c.lines.kernel c.lines.number c.lines.invariant.so_far (omega (arith, c.lines-test.false)))

pub lines-init : goal.lines-init
lines-init g c = record {
  so_far = none_obeyed KernelParts RunsLine IsNoCommand c.args.kernel.now (prepend_known c.args.buffer.now (g.R.PortRead.remaining c.args.reader.now)) (g.W.PortWrite.written c.args.writer.now);
  read = refl;
  written = refl;
  flushed = λ is. is;
}

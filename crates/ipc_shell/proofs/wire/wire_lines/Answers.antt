use Rattle.std.proofs.Common.{◌≡◌, ◌+◌, ◌<◌, true, length, Some, inl, inr, refl, sym, subst, ap, ◌∙◌, arith, eqb-true, vec_len}
use Rattle.std.proofs.lemmas.Grind.{common_steps}
use Rattle.std.specs.Io.KnownBytes.{prepend_known}
use Rattle.std.proofs.lemmas.Option.{same_Some}
use Rattle.ipc_shell.specs.Reading.{ReadsLine}
use Rattle.ipc_exchange.specs.Events.{ExchangeParts}
use Rattle.ipc_exchange.specs.Exchange.{Shows}
use Rattle.ipc_shell.specs.Wiring.{EndsWireLine}
use Rattle.ipc_shell.proofs.RunLemmas.{none_is_not_some, line_is_no_failure}
use Rattle.ipc_shell.proofs.WireLemmas.{WiredSoFar, none_wired, empty_wired, line_wired, wired_at_line, wired_too_long, wired_done, wired_without_memory, wired_with_device, many_wired}
use Rattle.ipc_shell.proofs.wire.wire_lines.Goals.{then-is_empty, in-Line-2+in_default}
use Rattle.ipc_shell.proofs.wire.wire_lines.Goals as goal

pub returns-in-Some-clause-wires : goal.returns-in-Some-clause-wires
returns-in-Some-clause-wires g c = λ parts shows.
    let line = c.next_line.new.line.items in
    let now = g.W.PortWrite.written c.lines.writer in
    let after = g.W.PortWrite.written c.wire_line-done.new.writer in
    let some : 0 < length line = grind (arith, common_steps) in
    let ended = subst (λ l. EndsWireLine c.lines.exchange c.wire_line-done.new.exchange now after l c.lines.number (Some c.in-Some.exit)) c.deref.ensures.value c.in-Some.ensures.ends in
    wired_at_line parts line c.lines.number (g.W.PortWrite.written c.args.writer.now) now
    (prepend_known c.args.buffer.now (g.R.PortRead.remaining c.args.reader.now)) (prepend_known c.lines.buffer (g.R.PortRead.remaining c.lines.reader)) (prepend_known c.next_line.new.buffer (g.R.PortRead.remaining c.next_line.new.port))
    c.lines.exchange c.wire_line-done.new.exchange after c.in-Some.exit some (c.lines.invariant.so_far parts shows) c.in-Line-2.ensures.line ended

pub returns-in-TooLong-clause-wires : goal.returns-in-TooLong-clause-wires
returns-in-TooLong-clause-wires g c = λ parts shows.
    wired_too_long parts c.next_line.new.line.items c.lines.number (g.W.PortWrite.written c.args.writer.now) (g.W.PortWrite.written c.lines.writer)
    (prepend_known c.args.buffer.now (g.R.PortRead.remaining c.args.reader.now)) (prepend_known c.lines.buffer (g.R.PortRead.remaining c.lines.reader)) (prepend_known c.next_line.new.buffer (g.R.PortRead.remaining c.next_line.new.port))
    c.lines.exchange (c.lines.invariant.so_far parts shows) c.in-TooLong.ensures.line

pub returns-in-End-clause-wires : goal.returns-in-End-clause-wires
returns-in-End-clause-wires g c = λ parts shows.
    wired_done parts c.next_line.new.line.items c.lines.number (g.W.PortWrite.written c.args.writer.now) (g.W.PortWrite.written c.lines.writer)
    (prepend_known c.args.buffer.now (g.R.PortRead.remaining c.args.reader.now)) (prepend_known c.lines.buffer (g.R.PortRead.remaining c.lines.reader)) (prepend_known c.next_line.new.buffer (g.R.PortRead.remaining c.next_line.new.port))
    c.lines.exchange (c.lines.invariant.so_far parts shows) c.in-End.ensures.line

pub returns-in-Failed-clause-wires : goal.returns-in-Failed-clause-wires
returns-in-Failed-clause-wires g c = λ parts shows.
    wired_with_device parts c.lines.number (g.W.PortWrite.written c.args.writer.now) (g.W.PortWrite.written c.lines.writer)
    (prepend_known c.args.buffer.now (g.R.PortRead.remaining c.args.reader.now)) (prepend_known c.lines.buffer (g.R.PortRead.remaining c.lines.reader)) c.lines.exchange (c.lines.invariant.so_far parts shows)

pub returns-in-NoMemory-clause-wires : goal.returns-in-NoMemory-clause-wires
returns-in-NoMemory-clause-wires g c = λ parts shows.
    wired_without_memory parts c.lines.number (g.W.PortWrite.written c.args.writer.now) (g.W.PortWrite.written c.lines.writer)
    (prepend_known c.args.buffer.now (g.R.PortRead.remaining c.args.reader.now)) (prepend_known c.lines.buffer (g.R.PortRead.remaining c.lines.reader)) c.lines.exchange (c.lines.invariant.so_far parts shows)

pub lines-preserved : goal.lines-preserved
lines-preserved g c =
    let line = c.next_line.new.line.items in
    let before = g.W.PortWrite.written c.args.writer.now in
    let now = g.W.PortWrite.written c.lines.writer in
    let bytes = prepend_known c.args.buffer.now (g.R.PortRead.remaining c.args.reader.now) in
    let rest = prepend_known c.lines.buffer (g.R.PortRead.remaining c.lines.reader) in
    let left = prepend_known c.next_line.new.buffer (g.R.PortRead.remaining c.next_line.new.port) in
    let read = subst (ReadsLine rest left line) c.in-Line.is c.next_line.ensures.line in
    let so_far : (parts : ExchangeParts) → Shows c.args.exchange.now parts → WiredSoFar parts bytes left before (g.W.PortWrite.written c.if-is_empty.writer) c.if-is_empty.exchange (c.lines.number + 1) =
    λ parts shows. elim c.if-is_empty.branch [
      | then-is_empty w ↦
          let ok = c.next_line.new.line.ok in
          let none = eqb-true (vec_len c.next_line.new.line) 0 (sym c.is_empty.ensures ∙ w.if-is_empty.true) in
          let empty : length line ≡ 0 = omega (arith, ok, none) in
          subst (λ e. WiredSoFar parts bytes left before (g.W.PortWrite.written c.if-is_empty.writer) e (c.lines.number + 1)) (sym w.exchange-is)
          (subst (λ writer. WiredSoFar parts bytes left before (g.W.PortWrite.written writer) c.lines.exchange (c.lines.number + 1)) (sym w.writer-is)
          (empty_wired parts line c.lines.number before now bytes rest left c.lines.exchange empty (c.lines.invariant.so_far parts shows) read))
      | in-Line-2+in_default w ↦
          let after = g.W.PortWrite.written w.wire_line-done.new.writer in
          let some : 0 < length line = grind (arith, common_steps) in
          let ended = subst (EndsWireLine c.lines.exchange w.wire_line-done.new.exchange now after line c.lines.number) w.in_default.is
          (subst (λ l. EndsWireLine c.lines.exchange w.wire_line-done.new.exchange now after l c.lines.number w.wire_line-done.result) w.deref.ensures.value w.wire_line-done.ensures.ends) in
          subst (λ e. WiredSoFar parts bytes left before (g.W.PortWrite.written c.if-is_empty.writer) e (c.lines.number + 1)) (sym w.exchange-is)
          (subst (λ writer. WiredSoFar parts bytes left before (g.W.PortWrite.written writer) w.wire_line-done.new.exchange (c.lines.number + 1)) (sym w.writer-is)
          (line_wired parts line c.lines.number before now bytes rest left c.lines.exchange w.wire_line-done.new.exchange after some (c.lines.invariant.so_far parts shows) read ended))
    ]
    in
    let written : g.W.PortWrite.failures c.if-is_empty.writer ≡ g.W.PortWrite.failures c.args.writer.now =
    elim c.if-is_empty.branch [
      | then-is_empty w ↦ ap g.W.PortWrite.failures w.writer-is ∙ c.lines.invariant.written
      | in-Line-2+in_default w ↦
          ap g.W.PortWrite.failures w.writer-is ∙ w.wire_line-done.ensures.kept (none_is_not_some w.wire_line-done.result w.in_default.is) ∙ c.lines.invariant.written
    ]
    in
    let flushed : g.W.PortWrite.flushed c.args.writer.now ≡ true → g.W.PortWrite.flushed c.if-is_empty.writer ≡ true =
    λ before. elim c.if-is_empty.branch [
      | then-is_empty w ↦ ap g.W.PortWrite.flushed w.writer-is ∙ c.lines.invariant.flushed before
      | in-Line-2+in_default w ↦
          ap g.W.PortWrite.flushed w.writer-is ∙ w.wire_line-done.ensures.flushed (none_is_not_some w.wire_line-done.result w.in_default.is) (c.lines.invariant.flushed before)
    ]
    in
    record { so_far = so_far; read = c.in-Line.ensures.kept line_is_no_failure ∙ c.lines.invariant.read; written = written; flushed = flushed }

pub returns-clause-wires : goal.returns-clause-wires
returns-clause-wires g c = λ parts shows.
    wired_with_device parts c.lines.number (g.W.PortWrite.written c.args.writer.now) (g.W.PortWrite.written c.lines.writer)
    (prepend_known c.args.buffer.now (g.R.PortRead.remaining c.args.reader.now)) (prepend_known c.lines.buffer (g.R.PortRead.remaining c.lines.reader)) c.lines.exchange (c.lines.invariant.so_far parts shows)

pub returns-in-Failed-clause-device : goal.returns-in-Failed-clause-device
returns-in-Failed-clause-device g c = λ parts shows _. inl (omega (arith, c.lines.invariant.read, c.lines.invariant.written, c.in-Failed.ensures.failed refl))

pub returns-in-Some-clause-device : goal.returns-in-Some-clause-device
returns-in-Some-clause-device g c = λ parts shows is. inl (omega (
  arith,
  c.lines.invariant.read,
  c.lines.invariant.written,
  c.in-Line-2.ensures.kept line_is_no_failure,
  c.in-Some.ensures.failed (ap Some is),
))

pub returns-in-Some-clause-kept : goal.returns-in-Some-clause-kept
returns-in-Some-clause-kept g c = λ is_not. (
  c.in-Line-2.ensures.kept line_is_no_failure ∙ c.lines.invariant.read,
  c.in-Some.ensures.kept (λ is. is_not (same_Some _ _ is)) ∙ c.lines.invariant.written,
)

pub returns-in-Some-clause-flushed : goal.returns-in-Some-clause-flushed
returns-in-Some-clause-flushed g c = λ is_not before. c.in-Some.ensures.flushed (λ is. is_not (same_Some _ _ is)) (c.lines.invariant.flushed before)

pub returns-clause-device : goal.returns-clause-device
returns-clause-device g c = λ parts shows _. inr (many_wired parts c.lines.number (g.W.PortWrite.written c.args.writer.now) (g.W.PortWrite.written c.lines.writer)
    (prepend_known c.args.buffer.now (g.R.PortRead.remaining c.args.reader.now)) (prepend_known c.lines.buffer (g.R.PortRead.remaining c.lines.reader)) c.lines.exchange (c.lines.invariant.so_far parts shows) (omega (arith, c.lines-test.false)))

pub lines-init : goal.lines-init
lines-init g c = record {
  so_far = λ parts shows. none_wired parts (prepend_known c.args.buffer.now (g.R.PortRead.remaining c.args.reader.now)) (g.W.PortWrite.written c.args.writer.now) c.args.exchange.now shows;
  read = refl;
  written = refl;
  flushed = λ is. is;
}

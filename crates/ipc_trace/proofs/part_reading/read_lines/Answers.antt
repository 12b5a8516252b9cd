use Rattle.std.proofs.Common.{◌≡◌, ◌<◌, length, Err, Ok, subst, sym, ◌∙◌, arith}
use Rattle.std.proofs.lemmas.Grind.{common_steps}
use Rattle.std.specs.Io.KnownBytes.{prepend_known}
use Rattle.ipc_trace.proofs.Ends.{input_is_no_newline, input_is_not_no_memory, newline_is_no_failure}
use Rattle.ipc_trace.specs.PartReading.{EndsSo, ReadsLine}
use Rattle.ipc_trace.proofs.PartEnds.{ends_at_line, ends_torn, ends_whole, one_more}
use Rattle.ipc_trace.proofs.part_reading.read_lines.Goals as goal

pub returns-in-Err-clause-read : goal.returns-in-Err-clause-read
returns-in-Err-clause-read g c =
    let old = c.lines.lines in
    let new = c.read.new.self in
    let reads = subst (λ l. ReadsLine old new l (Err c.in-Err.fault)) c.deref.ensures.value c.in-Err.ensures in
    subst (EndsSo (g.P.PortRead.remaining c.args.port.now) (g.P.PortRead.remaining c.next_line.new.port) new) (sym c.ended_at.ensures)
    (ends_at_line (g.P.PortRead.remaining c.args.port.now) (prepend_known c.lines.buffer (g.P.PortRead.remaining c.lines.port))
    (prepend_known c.next_line.new.buffer (g.P.PortRead.remaining c.next_line.new.port)) (g.P.PortRead.remaining c.next_line.new.port)
    old new c.lines.number c.next_line.new.line.items c.in-Err.fault c.lines.invariant.so_far c.in-Newline.ensures.line reads)

pub lines-preserved : goal.lines-preserved
lines-preserved g c =
    let old = c.lines.lines in
    let new = c.read.new.self in
    let reads = subst (λ l. ReadsLine old new l (Ok c.in_default.field-0)) c.deref.ensures.value c.in_default.ensures in
    record {
      so_far = one_more (g.P.PortRead.remaining c.args.port.now) (prepend_known c.lines.buffer (g.P.PortRead.remaining c.lines.port))
          (prepend_known c.next_line.new.buffer (g.P.PortRead.remaining c.next_line.new.port)) old new c.lines.number c.saturating_add-number.result
          c.next_line.new.line.items c.in_default.field-0 c.lines.invariant.so_far c.in-Newline.ensures.line reads (omega (arith, c.saturating_add-number.ensures));
      failures = c.in-Newline.ensures.kept newline_is_no_failure ∙ c.lines.invariant.failures;
    }

pub returns-in-Input-clause-read : goal.returns-in-Input-clause-read
returns-in-Input-clause-read g c =
    let empty : length c.next_line.new.line.items ≡ 0 = grind (arith, common_steps) in
    ends_whole (g.P.PortRead.remaining c.args.port.now) (prepend_known c.lines.buffer (g.P.PortRead.remaining c.lines.port)) (g.P.PortRead.remaining c.next_line.new.port)
    c.next_line.new.buffer c.lines.lines c.lines.number c.next_line.new.line.items c.lines.invariant.so_far c.in-Input.ensures.line
    (c.in-Input.ensures.used input_is_not_no_memory input_is_no_newline) empty

pub returns-in-Input-2-clause-read : goal.returns-in-Input-2-clause-read
returns-in-Input-2-clause-read g c =
    let some : 0 < length c.next_line.new.line.items = grind (arith, common_steps) in
    ends_torn (g.P.PortRead.remaining c.args.port.now) (prepend_known c.lines.buffer (g.P.PortRead.remaining c.lines.port)) (g.P.PortRead.remaining c.next_line.new.port)
    c.next_line.new.buffer c.lines.lines c.lines.number c.next_line.new.line.items c.lines.invariant.so_far c.in-Input-2.ensures.line
    (c.in-Input-2.ensures.used input_is_not_no_memory input_is_no_newline) some

use Rattle.std.proofs.Common.{true, false, subst}
use Rattle.ipc_trace.specs.Traces.{IsRead}
use Rattle.ipc_shell.proofs.CheckLemmas.{bad_line, bad_unjudged, judged, torn_lines, whole_lines}
use Rattle.ipc_shell.proofs.check.check_trace.Goals as goal

pub returns-in-Torn-clause-checks : goal.returns-in-Torn-clause-checks
returns-in-Torn-clause-checks g c =
    let bytes = g.R.PortRead.remaining c.args.reader.now in
    let left = g.R.PortRead.remaining c.read_entries-read.new.port in
    let version = c.read_entries-read.result.version in
    let entries = c.read_entries-read.new.sink.checker in
    let before = g.W.PortWrite.written c.args.writer.now in
    let after = g.W.PortWrite.written c.print_verdict-in-Torn.new.writer in
    let read = subst (IsRead bytes left version entries) c.in-Torn.is c.read_entries-read.ensures.read in
    judged bytes before after version entries true c.print_verdict-in-Torn.result (torn_lines bytes left version entries read) c.print_verdict-in-Torn.ensures.prints

pub returns-in-Whole-clause-checks : goal.returns-in-Whole-clause-checks
returns-in-Whole-clause-checks g c =
    let bytes = g.R.PortRead.remaining c.args.reader.now in
    let left = g.R.PortRead.remaining c.read_entries-read.new.port in
    let version = c.read_entries-read.result.version in
    let entries = c.read_entries-read.new.sink.checker in
    let before = g.W.PortWrite.written c.args.writer.now in
    let after = g.W.PortWrite.written c.print_verdict.new.writer in
    let read = subst (IsRead bytes left version entries) c.in-Whole.is c.read_entries-read.ensures.read in
    judged bytes before after version entries false c.print_verdict.result (whole_lines bytes left version entries read) c.print_verdict.ensures.prints

pub returns-in-BadLine-clause-checks : goal.returns-in-BadLine-clause-checks
returns-in-BadLine-clause-checks g c =
    let bytes = g.R.PortRead.remaining c.args.reader.now in
    let left = g.R.PortRead.remaining c.read_entries-read.new.port in
    let version = c.read_entries-read.result.version in
    let entries = c.read_entries-read.new.sink.checker in
    let read = subst (IsRead bytes left version entries) c.in-BadLine.is c.read_entries-read.ensures.read in
    bad_unjudged bytes (g.W.PortWrite.written c.args.writer.now) c.in-BadLine.number (bad_line bytes left version entries c.in-BadLine.number read)

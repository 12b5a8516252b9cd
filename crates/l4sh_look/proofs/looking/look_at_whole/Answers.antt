use Rattle.std.proofs.Common.{false, true, subst}
use Rattle.ipc_trace.specs.Traces.{IsRead}
use Rattle.l4sh_look.specs.Looking.{IsPrinted, IsSilent, PrintsOf}
use Rattle.ipc_shell.proofs.CheckLemmas.{bad_line, torn_lines, whole_lines}
use Rattle.l4sh_look.proofs.LookLemmas.{looked, looked_torn, printed, printed_torn, printed_whole, silent_torn, silent_whole}
use Rattle.l4sh_look.proofs.looking.look_at_whole.Goals as goal

pub returns-in-Whole-clause-looks : goal.returns-in-Whole-clause-looks
returns-in-Whole-clause-looks g c =
    let bytes = g.R.PortRead.remaining c.args.reader.now in
    let left = g.R.PortRead.remaining c.read_trace-read.new.port in
    let version = c.read_trace-read.result.version in
    let entries = c.read_trace-read.result.entries.items in
    let read = subst (IsRead bytes left version entries) c.in-Whole.is c.read_trace-read.ensures.read in
    looked c.args.look bytes version entries c.look_at_read.result (whole_lines bytes left version entries read) c.look_at_read.ensures.said

pub returns-in-Torn-clause-looks : goal.returns-in-Torn-clause-looks
returns-in-Torn-clause-looks g c =
    let bytes = g.R.PortRead.remaining c.args.reader.now in
    let left = g.R.PortRead.remaining c.read_trace-read.new.port in
    let version = c.read_trace-read.result.version in
    let entries = c.read_trace-read.result.entries.items in
    let read = subst (IsRead bytes left version entries) c.in-Torn.is c.read_trace-read.ensures.read in
    rw c.torn_behind.ensures (looked_torn c.args.look bytes version entries c.look_at_read-exit.result (torn_lines bytes left version entries read) c.look_at_read-exit.ensures.said)

pub returns-in-BadLine-clause-looks : goal.returns-in-BadLine-clause-looks
returns-in-BadLine-clause-looks g c =
    let bytes = g.R.PortRead.remaining c.args.reader.now in
    let left = g.R.PortRead.remaining c.read_trace-read.new.port in
    let version = c.read_trace-read.result.version in
    let entries = c.read_trace-read.result.entries.items in
    let read = subst (IsRead bytes left version entries) c.in-BadLine.is c.read_trace-read.ensures.read in
    bad_line bytes left version entries c.in-BadLine.number read

pub returns-in-Whole-clause-silent : goal.returns-in-Whole-clause-silent
returns-in-Whole-clause-silent g c silent = silent_whole c.look_at_read.result _ c.look_at_read.ensures.silent silent

pub returns-in-Torn-clause-silent : goal.returns-in-Torn-clause-silent
returns-in-Torn-clause-silent g c silent =
    silent_torn c.read_trace-read.result.version c.read_trace-read.result.entries.items c.look_at_read-exit.result _ c.look_at_read-exit.ensures.silent
    (subst IsSilent c.torn_behind.ensures silent)

pub returns-in-Whole-clause-prints : goal.returns-in-Whole-clause-prints
returns-in-Whole-clause-prints g c is =
    let bytes = g.R.PortRead.remaining c.args.reader.now in
    let left = g.R.PortRead.remaining c.read_trace-read.new.port in
    let version = c.read_trace-read.result.version in
    let entries = c.read_trace-read.result.entries.items in
    let read = subst (IsRead bytes left version entries) c.in-Whole.is c.read_trace-read.ensures.read in
    printed_whole version _ c.look_at_read.result _ c.look_at_read.ensures.said
    (λ done. printed c.args.look bytes version entries false _ _ (whole_lines bytes left version entries read) (c.look_at_read.ensures.prints done)) is

pub returns-in-Torn-clause-prints : goal.returns-in-Torn-clause-prints
returns-in-Torn-clause-prints g c is =
    let bytes = g.R.PortRead.remaining c.args.reader.now in
    let left = g.R.PortRead.remaining c.read_trace-read.new.port in
    let version = c.read_trace-read.result.version in
    let entries = c.read_trace-read.result.entries.items in
    let read = subst (IsRead bytes left version entries) c.in-Torn.is c.read_trace-read.ensures.read in
    printed_torn version entries _ c.look_at_read-exit.result _ c.look_at_read-exit.ensures.said
    (λ done. printed c.args.look bytes version entries true _ _ (torn_lines bytes left version entries read) (c.look_at_read-exit.ensures.prints done))
    (subst IsPrinted c.torn_behind.ensures is)

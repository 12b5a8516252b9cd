use Rattle.std.proofs.Common.{false, true, subst, take, ◌++◌}
use Rattle.ipc_trace.specs.Traces.{IsRead}
use Rattle.ipc_shell.proofs.CheckLemmas.{bad_line, torn_lines, whole_lines}
use Rattle.l4sh_look.specs.Looking.{IsPrinted}
use Rattle.l4sh_look.specs.declared.looking.Look.TheVariants.{StateAt}
use Rattle.l4sh_look.proofs.LookLemmas.{looked_torn, printed, printed_torn, printed_whole}
use Rattle.l4sh_look.proofs.last_state.state_of_trace.Goals as goal

pub returns-in-Torn-clause-looks : goal.returns-in-Torn-clause-looks
returns-in-Torn-clause-looks g c =
    let bytes = g.R.PortRead.remaining c.args.reader.now in
    let left = g.R.PortRead.remaining c.read_entries-read.new.port in
    let version = c.read_entries-read.result.version in
    let front = c.read_entries-read.new.sink in
    let entries = front.shown ++ front.behind in
    let read = subst (IsRead bytes left version entries) c.in-Torn.is c.read_entries-read.ensures.read in
    rw (c.torn_after.ensures entries c.given.ensures.count c.given.ensures.few)
    (looked_torn (StateAt c.args.last) bytes version entries c.tell-exit.result (torn_lines bytes left version entries read) c.tell-exit.ensures.said)

pub returns-in-BadLine-clause-looks : goal.returns-in-BadLine-clause-looks
returns-in-BadLine-clause-looks g c =
    let bytes = g.R.PortRead.remaining c.args.reader.now in
    let left = g.R.PortRead.remaining c.read_entries-read.new.port in
    let version = c.read_entries-read.result.version in
    let front = c.read_entries-read.new.sink in
    let entries = front.shown ++ front.behind in
    let read = subst (IsRead bytes left version entries) c.in-BadLine.is c.read_entries-read.ensures.read in
    bad_line bytes left version entries c.in-BadLine.number read

pub returns-in-Whole-clause-prints : goal.returns-in-Whole-clause-prints
returns-in-Whole-clause-prints g c is =
    let bytes = g.R.PortRead.remaining c.args.reader.now in
    let left = g.R.PortRead.remaining c.read_entries-read.new.port in
    let version = c.read_entries-read.result.version in
    let front = c.read_entries-read.new.sink in
    let entries = front.shown ++ front.behind in
    let read = subst (IsRead bytes left version entries) c.in-Whole.is c.read_entries-read.ensures.read in
    printed_whole version _ c.tell.result _ c.tell.ensures.said
    (λ done. printed (StateAt c.args.last) bytes version entries false _ _ (whole_lines bytes left version entries read) (c.tell.ensures.prints (take c.args.last entries) done)) is

pub returns-in-Torn-clause-prints : goal.returns-in-Torn-clause-prints
returns-in-Torn-clause-prints g c is =
    let bytes = g.R.PortRead.remaining c.args.reader.now in
    let left = g.R.PortRead.remaining c.read_entries-read.new.port in
    let version = c.read_entries-read.result.version in
    let front = c.read_entries-read.new.sink in
    let entries = front.shown ++ front.behind in
    let read = subst (IsRead bytes left version entries) c.in-Torn.is c.read_entries-read.ensures.read in
    printed_torn version entries _ c.tell-exit.result _ c.tell-exit.ensures.said
    (λ done. printed (StateAt c.args.last) bytes version entries true _ _ (torn_lines bytes left version entries read) (c.tell-exit.ensures.prints (take c.args.last entries) done))
    (subst IsPrinted (c.torn_after.ensures entries c.given.ensures.count c.given.ensures.few) is)

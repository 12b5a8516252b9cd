use Rattle.std.proofs.Common.{subst, ◌++◌}
use Rattle.ipc_trace.specs.Traces.{IsRead}
use Rattle.l4sh_look.specs.Looking.{IsSilent}
use Rattle.ipc_shell.proofs.CheckLemmas.{bad_line, torn_lines, whole_lines}
use Rattle.l4sh_look.proofs.LookLemmas.{drawn, drawn_torn, silent_torn, silent_whole}
use Rattle.l4sh_look.proofs.chart.chart_selected.Goals as goal

pub returns-in-Whole-clause-charts : goal.returns-in-Whole-clause-charts
returns-in-Whole-clause-charts g c =
    let bytes = g.R.PortRead.remaining c.args.reader.now in
    let left = g.R.PortRead.remaining c.read_entries-read.new.port in
    let version = c.read_entries-read.result.version in
    let front = c.read_entries-read.new.sink in
    let entries = front.shown ++ front.behind in
    let last = c.args.options.now.to in
    let read = subst (IsRead bytes left version entries) c.in-Whole.is c.read_entries-read.ensures.read in
    drawn last bytes version entries c.print_chart.result (whole_lines bytes left version entries read) c.print_chart.ensures.drawn

pub returns-in-Torn-clause-charts : goal.returns-in-Torn-clause-charts
returns-in-Torn-clause-charts g c =
    let bytes = g.R.PortRead.remaining c.args.reader.now in
    let left = g.R.PortRead.remaining c.read_entries-read.new.port in
    let version = c.read_entries-read.result.version in
    let front = c.read_entries-read.new.sink in
    let entries = front.shown ++ front.behind in
    let last = c.args.options.now.to in
    let read = subst (IsRead bytes left version entries) c.in-Torn.is c.read_entries-read.ensures.read in
    rw (c.torn_after.ensures entries c.given-count.ensures.count c.given-count.ensures.few)
    (drawn_torn last bytes version entries c.print_chart-exit.result (torn_lines bytes left version entries read) c.print_chart-exit.ensures.drawn)

pub returns-in-BadLine-clause-charts : goal.returns-in-BadLine-clause-charts
returns-in-BadLine-clause-charts g c =
    let bytes = g.R.PortRead.remaining c.args.reader.now in
    let left = g.R.PortRead.remaining c.read_entries-read.new.port in
    let version = c.read_entries-read.result.version in
    let front = c.read_entries-read.new.sink in
    let entries = front.shown ++ front.behind in
    let read = subst (IsRead bytes left version entries) c.in-BadLine.is c.read_entries-read.ensures.read in
    bad_line bytes left version entries c.in-BadLine.number read

pub returns-in-Whole-clause-silent : goal.returns-in-Whole-clause-silent
returns-in-Whole-clause-silent g c silent = silent_whole c.print_chart.result _ c.print_chart.ensures.silent silent

pub returns-in-Torn-clause-silent : goal.returns-in-Torn-clause-silent
returns-in-Torn-clause-silent g c silent =
    let front = c.read_entries-read.new.sink in
    let entries = front.shown ++ front.behind in
    silent_torn c.read_entries-read.result.version entries c.print_chart-exit.result _ c.print_chart-exit.ensures.silent
    (subst IsSilent (c.torn_after.ensures entries c.given-count.ensures.count c.given-count.ensures.few) silent)

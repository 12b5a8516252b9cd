use Rattle.l4sh_explain.proofs.TraceLines.{good_lines_are_entries}
use Rattle.l4sh_explain.proofs.laws.good_trace_lines_are_entries.Goals as goal

pub returns : goal.returns
returns c = good_lines_are_entries

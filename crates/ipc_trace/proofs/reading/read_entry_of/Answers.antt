use Rattle.std.proofs.Common.{Err, ap, sym, ◌∙◌}
use Rattle.ipc_trace.proofs.Ends.{keeps_bad_line, keeps_other_line, read_line_is_short}
use Rattle.ipc_trace.proofs.reading.read_entry_of.Goals as goal

pub returns-in-Err-Bad : goal.returns-in-Err-Bad
returns-in-Err-Bad c =
    keeps_bad_line c.args.version c.args.line.now c.read_entry.result c.lines_are_within_the_limit.ensures c.read_entry.ensures.only
    (c.in-Err-Bad.is ∙ ap (λ wrong. Err wrong) c.in-Err-Bad.field-0-is)

pub returns-in-Ok-2 : goal.returns-in-Ok-2
returns-in-Ok-2 c =
    keeps_other_line c.args.version c.args.line.now c.in-Ok.entry (read_line_is_short c.args.line.now c.read_entry.result c.in-Ok.entry c.in-Ok.is c.read_entry.ensures.long)
    c.in-Ok.ensures.found (sym c.if-may_hold.ensures)

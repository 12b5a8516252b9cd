use Rattle.std.proofs.Common.{◌++◌}
use Rattle.ipc_trace.specs.Traces.{ended, trace_text}
use Rattle.ipc_trace.specs.Versions.{version_line}
use Rattle.ipc_trace.proofs.Puts.{front_behind, front_of_first, front_where_flush_fails, on_err, puts_more}
use Rattle.ipc_trace.proofs.whole.put_trace.Goals as goal

pub returns-in_err-put_header-clause-front : goal.returns-in_err-put_header-clause-front
returns-in_err-put_header-clause-front g c =
    on_err c.from_residual.result
    (front_of_first c.args.trace.now c.put_header.new.self (ended version_line) (trace_text c.args.entries.now) c.put_header.result c.in_err-put_header.field-0.0
    c.in_err-put_header.was c.put_header.ensures.device c.put_header.ensures.same)

pub returns-in_err-put_entries-clause-front : goal.returns-in_err-put_entries-clause-front
returns-in_err-put_entries-clause-front g c =
    on_err c.from_residual-in_err-put_entries.result
    (front_behind c.args.trace.now c.put_header.new.self c.put_entries.new.trace (ended version_line) (trace_text c.args.entries.now)
    c.in_ok-put_header.ensures.ok c.in_err-put_entries.ensures.front)

pub returns-clause-front : goal.returns-clause-front
returns-clause-front g c =
    front_where_flush_fails c.args.trace.now c.put_entries.new.trace c.flush.new.self (ended version_line ++ trace_text c.args.entries.now) c.flush.result
    (puts_more c.args.trace.now c.put_header.new.self c.put_entries.new.trace (ended version_line) (trace_text c.args.entries.now)
    c.in_ok-put_header.ensures.ok c.in_ok-put_entries.ensures.ok)
    c.flush.ensures.device c.flush.ensures.same

use Rattle.ipc_trace.specs.Traces.{ended, trace_text}
use Rattle.ipc_trace.proofs.Puts.{front_of_first, on_err}
use Rattle.ipc_trace.proofs.Written.{errs_behind}
use Rattle.ipc_trace.proofs.part_writing.put_section.Goals as goal

pub returns-in_err-put_text-clause-front : goal.returns-in_err-put_text-clause-front
returns-in_err-put_text-clause-front g c =
    on_err c.from_residual.result
    (front_of_first c.args.trace.now c.put_text.new.self (ended c.args.text.now) (trace_text c.args.entries.now) c.put_text.result c.in_err-put_text.field-0.0
    c.in_err-put_text.was c.put_text.ensures.device c.put_text.ensures.same)

pub returns-clause-front : goal.returns-clause-front
returns-clause-front g c =
    errs_behind c.args.trace.now c.put_text.new.self c.put_entries.new.trace (ended c.args.text.now) (trace_text c.args.entries.now) c.put_entries.result c.in_ok-put_text.ensures.ok c.put_entries.ensures.front

use Rattle.std.proofs.Common.{OnErr, OnOk, ap, subst, ◌∙◌}
use Rattle.ipc_base.specs.Ports.{AppendsFront}
use Rattle.ipc_trace.specs.Putting.{PutsLine}
use Rattle.ipc_trace.specs.Traces.{ended}
use Rattle.ipc_trace.proofs.Written.{sections}
use Rattle.ipc_trace.proofs.part_writing.put_part.Goals as goal

pub returns-clause-ok : goal.returns-clause-ok
returns-clause-ok g c =
    let is = sections c.args.base.now c.args.kept.now c.args.entries.now c.as_str.result.now (ap ended c.as_str.ensures.value ∙ c.in-Ok.ensures) in
    subst (λ t. OnOk c.put_lines-put.result (PutsLine c.args.trace.now c.put_lines-put.new.trace t)) is c.put_lines-put.ensures.ok

pub returns-clause-front : goal.returns-clause-front
returns-clause-front g c =
    let is = sections c.args.base.now c.args.kept.now c.args.entries.now c.as_str.result.now (ap ended c.as_str.ensures.value ∙ c.in-Ok.ensures) in
    subst (λ t. OnErr c.put_lines-put.result (AppendsFront c.args.trace.now.written c.put_lines-put.new.trace.written t)) is c.put_lines-put.ensures.front

use Rattle.std.proofs.Common.{codes}
use Rattle.ipc_trace.proofs.Puts.{front_behind, front_where_flush_fails, on_err, puts_more}
use Rattle.ipc_trace.specs.PartPutting.{lines_behind, section_text}
use Rattle.ipc_trace.proofs.Written.{front_before}
use Rattle.ipc_trace.proofs.part_writing.put_lines.Goals as goal

pub returns-in_err-put_section-clause-front : goal.returns-in_err-put_section-clause-front
returns-in_err-put_section-clause-front g c =
    on_err c.from_residual.result
    (front_before c.args.trace.now c.put_section.new.trace (section_text c.args.base.now c.args.kept.now) (section_text (codes "since") c.args.entries.now) c.in_err-put_section.ensures.front)

pub returns-in_err-put_section-2-clause-front : goal.returns-in_err-put_section-2-clause-front
returns-in_err-put_section-2-clause-front g c =
    on_err c.from_residual-in_err-put_section-2.result
    (front_behind c.args.trace.now c.put_section.new.trace c.put_section-2.new.trace (section_text c.args.base.now c.args.kept.now) (section_text (codes "since") c.args.entries.now)
    c.in_ok-put_section.ensures.ok c.in_err-put_section-2.ensures.front)

pub returns-clause-front : goal.returns-clause-front
returns-clause-front g c =
    front_where_flush_fails c.args.trace.now c.put_section-2.new.trace c.flush.new.self (lines_behind c.args.base.now c.args.kept.now c.args.entries.now) c.flush.result
    (puts_more c.args.trace.now c.put_section.new.trace c.put_section-2.new.trace (section_text c.args.base.now c.args.kept.now) (section_text (codes "since") c.args.entries.now)
    c.in_ok-put_section.ensures.ok c.in_ok-put_section-2.ensures.ok)
    c.flush.ensures.device c.flush.ensures.same

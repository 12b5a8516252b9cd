use Rattle.std.proofs.Common.{refl, subst, sym, ◌∙◌}
use Rattle.ipc_trace.specs.PartReading.{HasPart}
use Rattle.ipc_trace.proofs.PartEnds.{has_part}
use Rattle.ipc_trace.proofs.OneText.{part_finished, part_not_torn, part_read}
use Rattle.ipc_trace.proofs.part_reading.finished.Goals as goal

pub returns-in-Some-clause-read : goal.returns-in-Some-clause-read
returns-in-Some-clause-read c old new has =
    subst (λ p. HasPart old new p c.args.is_torn) c.in-Some.ensures.part.1 (has_part old new c.args.lines c.args.is_torn has c.in-Some.ensures.part.0)

pub returns-in-Some-clause-only : goal.returns-in-Some-clause-only
returns-in-Some-clause-only c part old new is known has =
    (sym c.in-Some.ensures.part.1 ∙ part_read part old new c.args.lines c.args.is_torn is known has, part_not_torn part old new c.args.lines c.args.is_torn is known has)

pub returns-in-None-clause-only : goal.returns-in-None-clause-only
returns-in-None-clause-only c part old new is known has = c.in-None.ensures.none refl (part_finished part old new c.args.lines c.args.is_torn is known has)

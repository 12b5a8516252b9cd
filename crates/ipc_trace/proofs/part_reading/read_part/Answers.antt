use Rattle.ipc_trace.proofs.OneText.{part_not_bad}
use Rattle.ipc_trace.proofs.Readings.{no_fault}
use Rattle.ipc_trace.proofs.part_reading.read_part.Goals as goal

pub returns-in-Whole-clause-only : goal.returns-in-Whole-clause-only
returns-in-Whole-clause-only g c part is known =
    no_fault _ _ c.finished.result (c.finished.ensures.only part (g.P.PortRead.remaining c.args.port.now) (g.P.PortRead.remaining c.read_into.new.port) is known c.in-Whole.ensures.read)

pub returns-in-Torn-clause-only : goal.returns-in-Torn-clause-only
returns-in-Torn-clause-only g c part is known =
    no_fault _ _ c.finished-in-Torn.result (c.finished-in-Torn.ensures.only part (g.P.PortRead.remaining c.args.port.now) (g.P.PortRead.remaining c.read_into.new.port) is known c.in-Torn.ensures.read)

pub returns-in-BadLine-clause-only : goal.returns-in-BadLine-clause-only
returns-in-BadLine-clause-only g c part is known = absurd (part_not_bad part (g.P.PortRead.remaining c.args.port.now) c.in-BadLine.number is known c.in-BadLine.ensures.read)

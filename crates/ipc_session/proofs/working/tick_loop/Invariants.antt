-- Each turn of the gate leaves one fewer, and one tick was made at each turn of the clock and of the gate.
use Rattle.std.proofs.Common.{◌≡◌, ◌+◌}
use Rattle.ipc_session.proofs.working.tick_loop.Given as goal

abbrev pub invariant-turns : goal.invariant-turns
invariant-turns g l =
    (g.W.WorkPort.ticks l.work_port + g.C.Beat.turns l.fn.clock ≡ g.W.WorkPort.ticks l.fn.work_port + g.C.Beat.turns l.clock)
    × (g.W.WorkPort.ticks l.work_port + g.G.Gate.left l.gate ≡ g.W.WorkPort.ticks l.fn.work_port + g.G.Gate.left l.fn.gate)

abbrev pub decreases-turns : goal.decreases-turns
decreases-turns g l = g.G.Gate.left l.gate

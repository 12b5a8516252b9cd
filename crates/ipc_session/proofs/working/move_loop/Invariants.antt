-- Each turn of the gate leaves one fewer, and a part to move was looked for at each.
use Rattle.std.proofs.Common.{◌≡◌, ◌+◌, length}
use Rattle.ipc_session.proofs.working.move_loop.Given as goal

abbrev pub invariant-turns : goal.invariant-turns
invariant-turns g l =
    length (g.W.WorkPort.moves l.work_port) + g.G.Gate.left l.gate ≡ length (g.W.WorkPort.moves l.fn.work_port) + g.G.Gate.left l.fn.gate

abbrev pub decreases-turns : goal.decreases-turns
decreases-turns g l = g.G.Gate.left l.gate

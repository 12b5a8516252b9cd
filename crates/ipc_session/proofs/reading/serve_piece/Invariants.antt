-- Of the piece behind whatever bytes were held, the frames so far were served.
use Rattle.std.proofs.Common.{ℕ, List, ◌++◌}
use Rattle.ipc_connection.specs.Taking.{Holds}
use Rattle.ipc_session.proofs.ReadLemmas.{Progress}
use Rattle.ipc_session.proofs.reading.serve_piece.Given as goal

abbrev pub invariant-frames : goal.invariant-frames
invariant-frames g l = (left : List ℕ) → Holds l.fn.decoder left → Progress (g.K.KernelPort.log l.fn.kernel_port) (g.K.KernelPort.log l.kernel_port) l.fn.stage (left ++ l.fn.piece) l.stage l.decoder l.rest l.turns

abbrev pub decreases-frames : goal.decreases-frames
decreases-frames g l = l.turns

-- All that the answer port gave went out.
use Rattle.std.proofs.Common.{◌≡◌, [], true}
use Rattle.ipc_session.specs.Taking.{Wrote}
use Rattle.ipc_session.proofs.writing.write_loop.Given as goal

abbrev pub invariant-turns : goal.invariant-turns
invariant-turns g l = record {
  wrote : Wrote (g.A.AnswerPort.log l.fn.answer_port) (g.A.AnswerPort.log l.answer_port) (g.P.PortWrite.written l.fn.port) (g.P.PortWrite.written l.port) [] true;
  kept : g.P.PortWrite.failures l.port ≡ g.P.PortWrite.failures l.fn.port;
}

abbrev pub decreases-turns : goal.decreases-turns
decreases-turns g l = g.G.Gate.left l.gate

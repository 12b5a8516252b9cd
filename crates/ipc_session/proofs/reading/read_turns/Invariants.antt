-- All whole frames of the bytes read were served, and the device has not failed.
use Rattle.std.proofs.Common.{◌≡◌, ℕ, List, []}
use Rattle.ipc_base.specs.Ports.{Gives, input_of}
use Rattle.ipc_connection.specs.Taking.{Holds}
use Rattle.ipc_connection.specs.declared.stage.Stage.TheVariants.{Greeting}
use Rattle.ipc_session.specs.Reading.{HasServed}
use Rattle.ipc_session.proofs.reading.read_turns.Given as goal

abbrev pub invariant-turns : goal.invariant-turns
invariant-turns g l = record {
  bytes : List ℕ;
  left : List ℕ;
  gave : Gives (input_of (g.P.PortRead.came l.fn.port) (g.P.PortRead.remaining l.fn.port)) (input_of (g.P.PortRead.came l.port) (g.P.PortRead.remaining l.port)) bytes;
  holds : Holds l.decoder left;
  served : HasServed (g.K.KernelPort.log l.fn.kernel_port) (g.K.KernelPort.log l.kernel_port) Greeting bytes left l.stage [];
  kept : g.P.PortRead.failures l.port ≡ g.P.PortRead.failures l.fn.port;
}

abbrev pub decreases-turns : goal.decreases-turns
decreases-turns g l = g.G.Gate.left l.gate

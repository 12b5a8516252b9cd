-- What was taken is held, and ends where a frame does.
use Rattle.std.proofs.Common.{◌≡◌}
use Rattle.ipc_base.specs.Ports.{Gives, input_of}
use Rattle.ipc_client.proofs.ReadLemmas.{IsTight}
use Rattle.ipc_client.proofs.reading.read_frame.Given as goal

abbrev pub invariant-parts : goal.invariant-parts
invariant-parts g l = record {
  taken : Gives (input_of (g.P.PortRead.came l.fn.port) (g.P.PortRead.remaining l.fn.port))
      (input_of (g.P.PortRead.came l.port) (g.P.PortRead.remaining l.port)) l.held.items;
  tight : IsTight l.side l.held.items;
  kept : g.P.PortRead.failures l.port ≡ g.P.PortRead.failures l.fn.port;
}

abbrev pub decreases-parts : goal.decreases-parts
decreases-parts g l = g.P.PortRead.reads_left l.port

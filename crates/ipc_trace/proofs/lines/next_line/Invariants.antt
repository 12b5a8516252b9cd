-- The line so far.
use Rattle.std.proofs.Common.{◌≡◌, ◌≤◌}
use Rattle.std.specs.Io.KnownBytes.{prepend_known}
use Rattle.ipc_base.specs.Ports.{most_left}
use Rattle.ipc_trace.proofs.Pieces.{SoFar}
use Rattle.ipc_trace.proofs.lines.next_line.Given as goal

abbrev pub invariant-pieces : goal.invariant-pieces
invariant-pieces g l = record {
  so_far : SoFar (prepend_known l.fn.buffer (g.P.PortRead.remaining l.fn.port)) (prepend_known l.buffer (g.P.PortRead.remaining l.port)) l.line.items;
  failures : g.P.PortRead.failures l.port ≡ g.P.PortRead.failures l.fn.port;
  fewer : most_left (g.P.PortRead.reads_left l.port) l.buffer ≤ most_left (g.P.PortRead.reads_left l.fn.port) l.fn.buffer;
}

abbrev pub decreases-pieces : goal.decreases-pieces
decreases-pieces g l = most_left (g.P.PortRead.reads_left l.port) l.buffer

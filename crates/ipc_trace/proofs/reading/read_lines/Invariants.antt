-- What was taken is the line of the version and those of the entries.
use Rattle.std.proofs.Common.{◌≡◌}
use Rattle.std.specs.Io.KnownBytes.{prepend_known}
use Rattle.ipc_base.specs.Ports.{most_left}
use Rattle.ipc_trace.proofs.Stages.{LinesSoFar}
use Rattle.ipc_trace.proofs.reading.read_lines.Given as goal

abbrev pub invariant-lines : goal.invariant-lines
invariant-lines g l = record {
  so_far : LinesSoFar (g.P.PortRead.remaining l.fn.port) (prepend_known l.buffer (g.P.PortRead.remaining l.port)) l.reader (g.S.EntrySink.given l.sink);
  failures : g.P.PortRead.failures l.port ≡ g.P.PortRead.failures l.fn.port;
}

abbrev pub decreases-lines : goal.decreases-lines
decreases-lines g l = most_left (g.P.PortRead.reads_left l.port) l.buffer

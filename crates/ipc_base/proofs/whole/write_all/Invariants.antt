-- The bytes before the place are written.
use Rattle.std.proofs.Common.{◌≡◌, take, length, ◌≤◌, ◌-◌}
use Rattle.std.specs.Io.KnownBytes.{Appends}
use Rattle.ipc_base.proofs.whole.write_all.Given as goal

abbrev pub invariant-pieces : goal.invariant-pieces
invariant-pieces g l = record {
  within : l.at ≤ length l.bytes;
  written : Appends (g.P.PortWrite.written l.fn.port) (g.P.PortWrite.written l.port) (take l.at l.bytes);
  kept : g.P.PortWrite.failures l.port ≡ g.P.PortWrite.failures l.fn.port;
}

abbrev pub decreases-pieces : goal.decreases-pieces
decreases-pieces g l = length l.bytes - l.at

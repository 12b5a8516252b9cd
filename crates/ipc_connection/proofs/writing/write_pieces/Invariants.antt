-- What went out and what is left are the encoder's bytes.
use Rattle.std.proofs.Common.{◌≡◌}
use Rattle.ipc_connection.specs.Pens.{Passes}
use Rattle.ipc_connection.proofs.writing.write_pieces.Given as goal

abbrev pub invariant-pieces : goal.invariant-pieces
invariant-pieces g l = record {
  wrote : Passes (g.P.PenPort.written l.fn.port) (g.P.PenPort.written l.port) l.initial.encoder l.encoder;
  kept : g.P.PenPort.failures l.port ≡ g.P.PenPort.failures l.fn.port;
}

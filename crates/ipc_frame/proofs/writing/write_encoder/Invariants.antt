-- What went out and what is left are the encoder's bytes.
use Rattle.std.proofs.Common.{◌≡◌, length}
use Rattle.ipc_frame.specs.Writing.{Writes}
use Rattle.ipc_frame.proofs.writing.write_encoder.Given as goal

abbrev pub invariant-pieces : goal.invariant-pieces
invariant-pieces g l = record {
  wrote : Writes (g.P.PortWrite.written l.fn.port) (g.P.PortWrite.written l.port) l.fn.encoder l.encoder;
  kept : g.P.PortWrite.failures l.port ≡ g.P.PortWrite.failures l.fn.port;
}

abbrev pub decreases-pieces : goal.decreases-pieces
decreases-pieces g l = length l.encoder

-- What the ports had moved.
use Rattle.std.specs.Prelude.{◌∷◌, []}
use Rattle.ipc_base.specs.Ports.{input_of}
use Rattle.ipc_client.specs.ClientParts.{started}
use Rattle.ipc_client.proofs.wire.note_start.Given as goal

abbrev pub ghost-told_at_start : goal.ghost-told_at_start
ghost-told_at_start g a = started (input_of (g.R.PortRead.came a.reader.now) (g.R.PortRead.remaining a.reader.now)) (g.W.PortWrite.written a.writer.now) ∷ []

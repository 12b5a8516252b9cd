-- What the port had given.
use Rattle.std.specs.Prelude.{◌∷◌, []}
use Rattle.ipc_server.specs.Services.{begun_by}
use Rattle.ipc_server.proofs.services.note_of.Given as goal

abbrev pub ghost-told_at_first : goal.ghost-told_at_first
ghost-told_at_first g a = begun_by (g.I.PortRead.came a.reader.now) ∷ []

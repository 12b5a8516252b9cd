-- What the connection was, behind those that were served before.
use Rattle.std.specs.Prelude.{◌++◌, ◌∷◌, [], map, option_and_then}
use Rattle.ipc_server.specs.Services.{came_before, read_by, with_sent}
use Rattle.ipc_server.proofs.services.Services.check_in.Given as goal

abbrev pub ghost-told_of : goal.ghost-told_of
ghost-told_of g a =
    read_by (came_before a.note.now) a.end.now.space a.end.now.own.number (g.I.PortRead.came a.served.now.reader) a.served.now.asked ∷ []

abbrev pub ghost-told_behind : goal.ghost-told_behind
ghost-told_behind g a = a.all.now ++ map (with_sent (option_and_then (λ port. g.P.PenPort.written port) a.port.now)) a.read.now

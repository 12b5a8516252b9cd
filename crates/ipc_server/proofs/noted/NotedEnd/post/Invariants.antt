-- What was done: this was left to be posted, behind what was done before.
use Rattle.std.specs.Prelude.{◌++◌}
use Rattle.ipc_session.specs.Sessions.{deeds_left}
use Rattle.ipc_server.proofs.noted.NotedEnd.post.Given as goal

abbrev pub ghost-with_posted : goal.ghost-with_posted
ghost-with_posted g a = a.deeds.now ++ deeds_left a.told

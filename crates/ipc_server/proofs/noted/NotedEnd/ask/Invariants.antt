-- What was done: this was asked, behind what was done before.
use Rattle.std.specs.Prelude.{◌++◌, map}
use Rattle.ipc_session.specs.declared.deed.Deed.TheVariants.{Asked}
use Rattle.ipc_server.proofs.noted.NotedEnd.ask.Given as goal

abbrev pub ghost-with_asked : goal.ghost-with_asked
ghost-with_asked g a = a.deeds.now ++ map (λ request. Asked request a.told) a.asked.now

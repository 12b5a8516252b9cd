use Rattle.ipc_session.specs.Serving.{Serves}
use Rattle.ipc_session.proofs.serving.serve.Goals as goal

pub returns : goal.returns
unfolding Serves
returns g c = let told = c.react.ensures in (told.0, told.1, rw c.asks-reaction.ensures at told.2)

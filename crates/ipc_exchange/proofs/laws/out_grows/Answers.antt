use Rattle.ipc_exchange.proofs.OutLemmas.{out_grows}
use Rattle.ipc_exchange.proofs.laws.out_grows.Goals as goal

pub returns : goal.returns
returns c = out_grows

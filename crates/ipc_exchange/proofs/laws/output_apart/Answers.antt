use Rattle.ipc_exchange.proofs.FrontLemmas.{output_apart}
use Rattle.ipc_exchange.proofs.laws.output_apart.Goals as goal

pub returns : goal.returns
returns c = output_apart

use Rattle.ipc_exchange.proofs.OnceLemmas.{happen_once}
use Rattle.ipc_exchange.proofs.laws.happen_once.Goals as goal

pub returns : goal.returns
returns c = happen_once

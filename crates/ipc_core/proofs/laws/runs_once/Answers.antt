use Rattle.ipc_core.proofs.RunLaws.{runs_once}
use Rattle.ipc_core.proofs.laws.runs_once.Goals as goal

pub returns : goal.returns
returns c = runs_once

use Rattle.ipc_core.proofs.UnfinishedLaws.{unfinished_keeps}
use Rattle.ipc_core.proofs.laws.unfinished_keeps.Goals as goal

pub returns : goal.returns
returns c = unfinished_keeps

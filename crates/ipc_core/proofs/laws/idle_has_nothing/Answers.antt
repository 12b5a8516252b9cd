use Rattle.ipc_core.proofs.IdleLaws.{idle_has_nothing}
use Rattle.ipc_core.proofs.laws.idle_has_nothing.Goals as goal

pub returns : goal.returns
returns c = idle_has_nothing

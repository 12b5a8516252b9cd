use Rattle.ipc_compact.specs.Kept.{kept_upto}
use Rattle.ipc_compact.proofs.found.Found.find.Goals as goal

pub loop-place-init : goal.loop-place-init
unfolding kept_upto
loop-place-init c = c.clear.ensures

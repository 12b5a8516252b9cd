use Rattle.ipc_core.proofs.AgainLaws.{again_once, again_sound}
use Rattle.ipc_core.proofs.laws.obeyed_again.Goals as goal

pub returns-clause-sound : goal.returns-clause-sound
returns-clause-sound c = again_sound

pub returns-clause-once : goal.returns-clause-once
returns-clause-once c = again_once

use Rattle.ipc_core.proofs.SoundLaws.{stays_sound}
use Rattle.ipc_core.proofs.laws.stays_sound.Goals as goal

pub returns : goal.returns
returns c = stays_sound

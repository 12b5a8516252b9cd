use Rattle.ipc_waits.proofs.AtPlaces.{entry_covers_at, quiet_covers_at}
use Rattle.ipc_waits.proofs.finding.places_are_kept.Goals as goal

pub returns-clause-quiet : goal.returns-clause-quiet
returns-clause-quiet c = quiet_covers_at

pub returns-clause-entry : goal.returns-clause-entry
returns-clause-entry c = entry_covers_at

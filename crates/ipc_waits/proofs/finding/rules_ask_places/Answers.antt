use Rattle.ipc_waits.proofs.AtPlaces.{found_at, source_is_sender}
use Rattle.ipc_waits.proofs.finding.rules_ask_places.Goals as goal

pub returns-clause-rules : goal.returns-clause-rules
returns-clause-rules c = found_at

pub returns-clause-source : goal.returns-clause-source
returns-clause-source c = source_is_sender

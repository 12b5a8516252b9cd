use Rattle.ipc_compact.proofs.SlotReading.{slots_kept}
use Rattle.ipc_compact.proofs.StandingReading.{over_kept, standings_kept}
use Rattle.ipc_compact.proofs.laws.kept_standings.Goals as goal

pub returns-clause-over : goal.returns-clause-over
returns-clause-over c = over_kept

pub returns-clause-open : goal.returns-clause-open
returns-clause-open c = standings_kept

pub returns-clause-slots : goal.returns-clause-slots
returns-clause-slots c = slots_kept

use Rattle.ipc_core.proofs.BusyLaws.{entered_is_busy, idle_stays, taken_is_idle}
use Rattle.ipc_core.proofs.laws.busy_by_its_calls.Goals as goal

pub returns-clause-idle : goal.returns-clause-idle
returns-clause-idle c = idle_stays

pub returns-clause-entered : goal.returns-clause-entered
returns-clause-entered c = entered_is_busy

pub returns-clause-taken : goal.returns-clause-taken
returns-clause-taken c = taken_is_idle

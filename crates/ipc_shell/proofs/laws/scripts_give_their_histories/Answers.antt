use Rattle.ipc_shell.proofs.Kernels.{kernels_may_be}
use Rattle.ipc_shell.proofs.Replaying.{script_replays, script_runs}
use Rattle.ipc_shell.proofs.laws.scripts_give_their_histories.Goals as goal

pub returns-clause-kernels : goal.returns-clause-kernels
returns-clause-kernels c = kernels_may_be

pub returns-clause-runs : goal.returns-clause-runs
returns-clause-runs c = script_runs

pub returns-clause-replays : goal.returns-clause-replays
returns-clause-replays c = script_replays

use Rattle.ipc_laws.proofs.LiveThreads.{live_bound, outputs_most}
use Rattle.ipc_laws.proofs.OpenCalls.{open_bound, outputs_bound}
use Rattle.ipc_laws.proofs.Steps.{all_steps_fall, steps_bound}
use Rattle.ipc_laws.proofs.laws.outputs_end.Goals as goal

pub returns-clause-fall : goal.returns-clause-fall
returns-clause-fall c = all_steps_fall

pub returns-clause-bound : goal.returns-clause-bound
returns-clause-bound c = steps_bound

pub returns-clause-calls : goal.returns-clause-calls
returns-clause-calls c = open_bound

pub returns-clause-outputs : goal.returns-clause-outputs
returns-clause-outputs c = outputs_bound

pub returns-clause-live : goal.returns-clause-live
returns-clause-live c = live_bound

pub returns-clause-most : goal.returns-clause-most
returns-clause-most c = outputs_most

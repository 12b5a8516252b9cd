use Rattle.ipc_core.proofs.Few.{obeys_few}
use Rattle.ipc_core.proofs.Obeyed.{entered_so}
use Rattle.ipc_core.proofs.kernel.Kernel.enter_in.Goals as goal

pub returns-clause-obeys : goal.returns-clause-obeys
returns-clause-obeys g c = entered_so _ _ c.args.thread c.args.call c.enter_call-entered.result c.enter_call-entered.ensures.ok c.enter_call-entered.ensures.cause c.enter_call-entered.ensures.err

pub returns-clause-few : goal.returns-clause-few
returns-clause-few g c = obeys_few _ _ _ _ (returns-clause-obeys g c) c.history.ensures.legal

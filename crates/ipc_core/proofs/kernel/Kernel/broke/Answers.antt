use Rattle.ipc_core.proofs.Few.{obeys_few}
use Rattle.ipc_core.proofs.Obeyed.{broken_so}
use Rattle.ipc_core.proofs.kernel.Kernel.broke.Goals as goal

pub returns-clause-obeys : goal.returns-clause-obeys
returns-clause-obeys c = broken_so _ _ c.args.thread c.end_thread-broke.result c.end_thread-broke.ensures.ok c.end_thread-broke.ensures.gone c.end_thread-broke.ensures.err

pub returns-clause-few : goal.returns-clause-few
returns-clause-few c = obeys_few _ _ _ _ (returns-clause-obeys c) c.history.ensures.legal

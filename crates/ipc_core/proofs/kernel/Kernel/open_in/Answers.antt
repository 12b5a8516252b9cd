use Rattle.ipc_core.proofs.Few.{obeys_few}
use Rattle.ipc_core.proofs.Obeyed.{opened_so}
use Rattle.ipc_core.proofs.kernel.Kernel.open_in.Goals as goal

pub returns-clause-obeys : goal.returns-clause-obeys
returns-clause-obeys g c = opened_so _ _ c.args.number c.args.space c.open_thread-opened.result c.open_thread-opened.ensures.ok c.open_thread-opened.ensures.cause c.open_thread-opened.ensures.memory c.open_thread-opened.ensures.err

pub returns-clause-few : goal.returns-clause-few
returns-clause-few g c = obeys_few _ _ _ _ (returns-clause-obeys g c) c.history.ensures.legal

use Rattle.ipc_core.proofs.Few.{obeys_few}
use Rattle.ipc_core.proofs.Obeyed.{exchanged_so}
use Rattle.ipc_core.proofs.kernel.Kernel.exreg_in.Goals as goal

pub returns-clause-obeys : goal.returns-clause-obeys
returns-clause-obeys g c = exchanged_so _ _ c.args.thread c.args.target c.args.control c.stop_phases-exchanged.result c.stop_phases-exchanged.ensures.ok c.stop_phases-exchanged.ensures.cause c.stop_phases-exchanged.ensures.memory c.stop_phases-exchanged.ensures.err

pub returns-clause-few : goal.returns-clause-few
returns-clause-few g c = obeys_few _ _ _ _ (returns-clause-obeys g c) c.history.ensures.legal

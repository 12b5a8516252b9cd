use Rattle.ipc_core.proofs.Few.{obeys_few}
use Rattle.ipc_core.proofs.Obeyed.{advanced_so}
use Rattle.ipc_core.proofs.kernel.Kernel.advance.Goals as goal

pub returns-clause-obeys : goal.returns-clause-obeys
returns-clause-obeys c = advanced_so _ _ c.copy_block-advance.result c.copy_block-advance.ensures.moved c.copy_block-advance.ensures.idle

pub returns-clause-few : goal.returns-clause-few
returns-clause-few c = obeys_few _ _ _ _ (returns-clause-obeys c) c.history.ensures.legal

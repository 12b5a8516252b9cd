use Rattle.ipc_core.proofs.Few.{obeys_few, obeys_held}
use Rattle.ipc_core.proofs.kernel.Kernel.obey_in.Goals as goal

pub returns-clause-few : goal.returns-clause-few
returns-clause-few g c = obeys_few _ _ _ _ c.answer-answer.ensures.obeys c.history.ensures.legal

pub returns-clause-held : goal.returns-clause-held
returns-clause-held g c = obeys_held _ _ _ _ c.answer-answer.ensures.obeys

use Rattle.ipc_core.proofs.AgainLaws.{again_few}
use Rattle.ipc_core.proofs.kernel.Kernel.obey_again_in.Goals as goal

pub returns-clause-few : goal.returns-clause-few
returns-clause-few g c = again_few c.args.upto _ c.args.command _ _ c.answer_again-answer.ensures.obeys c.history.ensures.legal

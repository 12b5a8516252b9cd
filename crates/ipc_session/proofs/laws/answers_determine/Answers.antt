use Rattle.ipc_session.proofs.DeterminedLemmas.{answers_determine}
use Rattle.ipc_session.proofs.laws.answers_determine.Goals as goal

pub returns : goal.returns
returns c = answers_determine

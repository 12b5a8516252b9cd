use Rattle.ipc_laws.proofs.Passing.{ends_next}
use Rattle.ipc_laws.proofs.laws.words_end_at_once.Goals as goal

pub returns : goal.returns
returns c = record { ends = ends_next }

use Rattle.ipc_laws.proofs.OutputLemmas.{next_output_means}
use Rattle.ipc_laws.proofs.laws.next_output_means.Goals as goal

pub returns : goal.returns
returns c = next_output_means

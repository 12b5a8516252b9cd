use Rattle.ipc_compact.proofs.Again as again
use Rattle.ipc_compact.proofs.laws.kept_again.Goals as goal

pub returns : goal.returns
returns c = λ t u H X n. again.kept_again t u X H n

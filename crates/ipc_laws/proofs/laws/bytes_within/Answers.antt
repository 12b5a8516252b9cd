use Rattle.ipc_laws.proofs.Moving.{moved_within, some_left}
use Rattle.ipc_laws.proofs.Normal.{moves_fit}
use Rattle.ipc_laws.proofs.PhaseParts.{passes_parts}
use Rattle.ipc_laws.proofs.laws.bytes_within.Goals as goal

pub returns-clause-within : goal.returns-clause-within
returns-clause-within c = moved_within

pub returns-clause-quiet : goal.returns-clause-quiet
returns-clause-quiet c = λ H h q n m p. some_left H h q n m (passes_parts H n m p)

pub returns-clause-fit : goal.returns-clause-fit
returns-clause-fit c = moves_fit

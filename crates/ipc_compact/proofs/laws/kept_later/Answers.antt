use Rattle.ipc_compact.proofs.NotNeeded as needed
use Rattle.ipc_compact.proofs.laws.kept_later.Goals as goal

pub returns-clause-dropped : goal.returns-clause-dropped
returns-clause-dropped c = needed.not_needed_again

pub returns-clause-kept : goal.returns-clause-kept
returns-clause-kept c = needed.kept_later

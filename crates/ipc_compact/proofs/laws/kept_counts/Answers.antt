use Rattle.ipc_compact.proofs.Counting as counting
use Rattle.ipc_compact.proofs.laws.kept_counts.Goals as goal

pub returns : goal.returns
returns c = counting.calls_counted

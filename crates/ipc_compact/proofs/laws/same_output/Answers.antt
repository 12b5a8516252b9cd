use Rattle.ipc_compact.proofs.SameRules as rules
use Rattle.ipc_compact.proofs.laws.same_output.Goals as goal

pub returns : goal.returns
returns c = rules.same_output

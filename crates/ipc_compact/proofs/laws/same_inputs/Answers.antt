use Rattle.ipc_compact.proofs.SameInputs as inputs
use Rattle.ipc_compact.proofs.laws.same_inputs.Goals as goal

pub returns : goal.returns
returns c = inputs.same_inputs

use Rattle.ipc_trace.proofs.ReadBack.{parts_are_read_back}
use Rattle.ipc_trace.proofs.laws.parts_are_read_back.Goals as goal

pub returns : goal.returns
returns c = parts_are_read_back

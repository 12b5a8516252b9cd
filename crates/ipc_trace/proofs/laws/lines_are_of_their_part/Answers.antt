use Rattle.ipc_trace.proofs.Following.{lines_are_of_their_part}
use Rattle.ipc_trace.proofs.laws.lines_are_of_their_part.Goals as goal

pub returns : goal.returns
returns c = lines_are_of_their_part

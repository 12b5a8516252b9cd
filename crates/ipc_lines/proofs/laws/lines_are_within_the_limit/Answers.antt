use Rattle.ipc_lines.proofs.Longest.{lines_are_within_the_limit}
use Rattle.ipc_lines.proofs.laws.lines_are_within_the_limit.Goals as goal

pub returns : goal.returns
returns c = lines_are_within_the_limit

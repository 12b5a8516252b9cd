use Rattle.ipc_lines.proofs.Splitting.{lines_hold_no_newline}
use Rattle.ipc_lines.proofs.laws.lines_hold_no_newline.Goals as goal

pub returns : goal.returns
returns c = lines_hold_no_newline

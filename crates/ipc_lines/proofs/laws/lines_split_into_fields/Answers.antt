use Rattle.ipc_lines.proofs.Splitting.{lines_split_into_fields}
use Rattle.ipc_lines.proofs.laws.lines_split_into_fields.Goals as goal

pub returns : goal.returns
returns c = lines_split_into_fields

use Rattle.ipc_lines.proofs.OneSpelling.{one_spelling}
use Rattle.ipc_lines.proofs.laws.entries_have_lines_of_their_own.Goals as goal

pub returns : goal.returns
returns c = one_spelling

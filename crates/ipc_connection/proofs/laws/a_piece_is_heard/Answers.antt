use Rattle.ipc_connection.proofs.PieceLemmas.{piece_is_heard}
use Rattle.ipc_connection.proofs.laws.a_piece_is_heard.Goals as goal

pub returns : goal.returns
returns c = piece_is_heard

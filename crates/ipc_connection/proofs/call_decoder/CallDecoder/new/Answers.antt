use Rattle.ipc_connection.proofs.TakeLemmas.{new_unfinished}
use Rattle.ipc_connection.proofs.call_decoder.CallDecoder.new.Goals as goal

pub invariant_of-result : goal.invariant_of-result
invariant_of-result c = λ unspent gone are. new_unfinished c.new.result c.new.ensures gone are

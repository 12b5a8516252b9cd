use Rattle.ipc_client.proofs.LawLemmas.{laid_out_strings_are_read}
use Rattle.ipc_client.proofs.laws.laid_out_strings_are_read.Goals as goal

pub returns : goal.returns
returns c = laid_out_strings_are_read

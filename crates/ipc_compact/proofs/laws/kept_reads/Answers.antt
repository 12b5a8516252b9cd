use Rattle.ipc_compact.proofs.ReadLemmas.{kept_reads, threads_read}
use Rattle.ipc_compact.proofs.laws.kept_reads.Goals as goal

pub returns-clause-calls : goal.returns-clause-calls
returns-clause-calls c = kept_reads

pub returns-clause-threads : goal.returns-clause-threads
returns-clause-threads c = threads_read

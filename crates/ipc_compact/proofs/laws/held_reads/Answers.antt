use Rattle.ipc_compact.proofs.HeldReading as held
use Rattle.ipc_compact.proofs.laws.held_reads.Goals as goal

pub returns-clause-further : goal.returns-clause-further
returns-clause-further c = held.further_same

pub returns-clause-calls : goal.returns-clause-calls
returns-clause-calls c = held.calls_same

pub returns-clause-threads : goal.returns-clause-threads
returns-clause-threads c = held.live_same

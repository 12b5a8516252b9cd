use Rattle.ipc_threads.proofs.RestoringLemmas.{IsRestoredUpTo}
use Rattle.ipc_threads.proofs.table.ThreadTable.restore.Given as goal

abbrev pub invariant-loop-number : goal.invariant-loop-number
invariant-loop-number l = IsRestoredUpTo l.pairs l.number-index l.table

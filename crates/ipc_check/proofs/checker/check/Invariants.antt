use Rattle.ipc_threads.proofs.Walks.{IsWalked}
use Rattle.ipc_check.proofs.checker.check.Given as goal

abbrev pub invariant-loop-index : goal.invariant-loop-index
invariant-loop-index l = IsWalked l.entries l.index l.past l.slots

use Rattle.ipc_threads.proofs.Walks.{IsWalked}
use Rattle.l4sh_state.proofs.building.slots_of.Given as goal

abbrev pub invariant-loop-index : goal.invariant-loop-index
invariant-loop-index l = IsWalked l.entries l.index l.past l.slots

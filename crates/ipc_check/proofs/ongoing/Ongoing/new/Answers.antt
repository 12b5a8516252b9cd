use Rattle.ipc_history.proofs.HoldingLemmas.{empty_holds}
use Rattle.ipc_check.proofs.ongoing.Ongoing.new.Goals as goal

pub invariant_of-result : goal.invariant_of-result
invariant_of-result c = rw (c.new.ensures, c.new-3.ensures.items) (record { told = c.new-2.ensures; holds = empty_holds })

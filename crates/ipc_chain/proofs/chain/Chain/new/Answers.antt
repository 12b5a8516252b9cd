use Rattle.ipc_chain.proofs.Keeping.{judged_none}
use Rattle.ipc_chain.proofs.chain.Chain.new.Goals as goal

pub invariant_of-result : goal.invariant_of-result
invariant_of-result c = judged_none _ _ _ _ c.new.ensures.entries c.new.ensures.held c.new-2.ensures c.in_ok-new.ensures.past c.in_ok-new.ensures.taken c.in_ok-new-2.ensures.past

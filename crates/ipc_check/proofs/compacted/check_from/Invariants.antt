use Rattle.ipc_check.proofs.After.{IsWalkedAfter}
use Rattle.ipc_check.proofs.compacted.check_from.Given as goal

abbrev pub ghost-slots : goal.ghost-slots
ghost-slots g a = g.before

abbrev pub ghost-told : goal.ghost-told
ghost-told g a = g.before.past

abbrev pub invariant-loop-index : goal.invariant-loop-index
invariant-loop-index g l = IsWalkedAfter g.before.past l.kept l.entries l.index l.past l.slots

use Rattle.std.proofs.Common.{sym, subst, append-nil}
use Rattle.ipc_history.specs.Holding.{Holds}
use Rattle.ipc_history.proofs.HoldingLemmas.{all_held}
use Rattle.ipc_history.proofs.entries.Entries.of.Goals as goal

pub invariant_of-result : goal.invariant_of-result
invariant_of-result c = rw c.requires (subst (Holds c.args.past.now) (sym (append-nil c.args.past.now)) (all_held c.args.past.now))

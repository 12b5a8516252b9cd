use Rattle.std.proofs.Common.{sym, subst, append-nil}
use Rattle.ipc_history.specs.Holding.{Holds}
use Rattle.ipc_check.proofs.ongoing.Ongoing.entries.Goals as goal

pub of_pieces-requires : goal.of_pieces-requires
of_pieces-requires c =
    subst (Holds c.self.inside.past) (sym (append-nil c.deref.result.now))
    (subst (Holds c.self.inside.past) (sym c.deref.ensures.value) c.self.invariant.holds)

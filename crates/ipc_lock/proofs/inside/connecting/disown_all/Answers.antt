use Rattle.ipc_seats.proofs.Rows.{kept_more}
use Rattle.ipc_seats.specs.Places.{disowned}
use Rattle.ipc_lock.proofs.inside.connecting.disown_all.Goals as goal

pub owners-preserved : goal.owners-preserved
owners-preserved c = kept_more (disowned c.args.place) _ _ _ _ _ c.owners.invariant c.disowned.ensures

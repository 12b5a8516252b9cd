-- The owners so far are those that are left.
use Rattle.std.proofs.Common.{◌≡◌, ◌++◌, map, take, drop}
use Rattle.ipc_seats.specs.Places.{disowned}
use Rattle.ipc_lock.proofs.inside.connecting.disown_all.Given as goal

abbrev pub invariant-owners : goal.invariant-owners
invariant-owners l = l.owner-items ≡ map (disowned l.place) (take l.owner-index l.fn.owners.items) ++ drop l.owner-index l.fn.owners.items

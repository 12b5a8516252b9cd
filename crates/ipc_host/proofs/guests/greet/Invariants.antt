-- The connections so far were looked at.
use Rattle.std.proofs.Common.{◌≡◌, ◌++◌, map, take, drop}
use Rattle.ipc_host.specs.Guests.{greeted}
use Rattle.ipc_host.proofs.guests.greet.Given as goal

abbrev pub invariant-guests : goal.invariant-guests
invariant-guests l =
    l.guest-items ≡ map (greeted l.ticket l.socket) (take l.guest-index l.fn.guests.items) ++ drop l.guest-index l.fn.guests.items

use Rattle.std.proofs.Common.{◌≡◌, take}
use Rattle.std.specs.List.{count_by}
use Rattle.ipc_seats.specs.Noting.{is_began}
use Rattle.ipc_seats.proofs.noting.count_began.Given as goal

abbrev pub invariant-loop-entry : goal.invariant-loop-entry
invariant-loop-entry l = l.count ≡ count_by is_began (take l.entry-index l.entries)

use Rattle.std.proofs.Common.{◌≡◌, take}
use Rattle.std.specs.List.{count_by}
use Rattle.ipc_seats.specs.Noting.{is_ended}
use Rattle.ipc_seats.proofs.noting.count_ended.Given as goal

abbrev pub invariant-loop-entry : goal.invariant-loop-entry
invariant-loop-entry l = l.count ≡ count_by is_ended (take l.entry-index l.entries)

use Rattle.std.proofs.Common.{◌≡◌, take}
use Rattle.ipc_history.specs.Words.{last_some}
use Rattle.ipc_history.specs.Entries.{turned_in}
use Rattle.ipc_compact.proofs.saying.last_turned.Given as goal

abbrev pub invariant-loop-place : goal.invariant-loop-place
invariant-loop-place l = l.found ≡ last_some (turned_in l.number) (take l.place l.held)

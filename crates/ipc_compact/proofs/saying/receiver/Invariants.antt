use Rattle.std.proofs.Common.{◌≡◌, take}
use Rattle.ipc_history.specs.Words.{first_some}
use Rattle.ipc_history.specs.Entries.{receiver_in}
use Rattle.ipc_compact.proofs.saying.receiver.Given as goal

abbrev pub invariant-loop-place : goal.invariant-loop-place
invariant-loop-place l = l.found ≡ first_some (receiver_in l.number) (take l.place l.held)

use Rattle.std.proofs.Common.{◌≡◌, take}
use Rattle.ipc_history.specs.Words.{first_some}
use Rattle.ipc_history.specs.Entries.{space_in}
use Rattle.ipc_compact.proofs.saying.first_space.Given as goal

abbrev pub invariant-loop-place : goal.invariant-loop-place
invariant-loop-place l = l.found ≡ first_some (space_in l.thread) (take l.place l.held)

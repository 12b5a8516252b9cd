use Rattle.std.proofs.Common.{◌≡◌, take}
use Rattle.ipc_history.specs.Words.{last_some}
use Rattle.ipc_history.specs.Entries.{moment_in}
use Rattle.ipc_compact.proofs.saying.last_moment.Given as goal

abbrev pub invariant-loop-place : goal.invariant-loop-place
invariant-loop-place l = l.found ≡ last_some moment_in (take l.place l.held)

use Rattle.std.proofs.Common.{◌≡◌, take, sum_by}
use Rattle.ipc_history.specs.Entries.{count_in}
use Rattle.ipc_compact.proofs.saying.moved_bytes.Given as goal

abbrev pub invariant-loop-place : goal.invariant-loop-place
invariant-loop-place l = l.moved ≡ sum_by (count_in l.number) (take l.place l.held)

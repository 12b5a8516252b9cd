use Rattle.std.proofs.Common.{◌≡◌}
use Rattle.ipc_compact.specs.Kept.{kept_upto}
use Rattle.ipc_compact.proofs.found.Found.find.Given as goal

abbrev pub invariant-loop-place : goal.invariant-loop-place
invariant-loop-place l = l.self ≡ kept_upto l.desks.past l.desks.taken l.place

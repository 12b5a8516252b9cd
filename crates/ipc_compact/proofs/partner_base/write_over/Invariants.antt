use Rattle.std.proofs.Common.{◌≡◌, filter_map, take}
use Rattle.ipc_compact.specs.Bases.{over_in}
use Rattle.ipc_compact.proofs.partner_base.write_over.Given as goal

abbrev pub invariant-loop-place : goal.invariant-loop-place
invariant-loop-place l = l.room ≡ record l.fn.room { over = filter_map (over_in l.desks.past l.desks.taken) (take l.place l.kept) }

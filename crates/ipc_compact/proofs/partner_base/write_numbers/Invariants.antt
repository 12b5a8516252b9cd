use Rattle.std.proofs.Common.{◌≡◌}
use Rattle.ipc_compact.specs.Bases.{written_to}
use Rattle.ipc_compact.proofs.partner_base.write_numbers.Given as goal

abbrev pub invariant-loop-place : goal.invariant-loop-place
invariant-loop-place l = l.room ≡ written_to l.desks.past l.kept l.place

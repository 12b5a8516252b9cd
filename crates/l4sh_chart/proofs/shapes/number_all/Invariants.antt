use Rattle.std.proofs.Common.{◌≡◌, length}
use Rattle.l4sh_chart.proofs.shapes.number_all.Given as goal

abbrev pub invariant-loop-place : goal.invariant-loop-place
invariant-loop-place l = length l.shapes.items ≡ l.place

use Rattle.std.proofs.Common.{◌≡◌, ℕ, ◌+◌, ◌<◌, slice_index}
use Rattle.l4sh_chart.proofs.folding.run.Given as goal

abbrev pub invariant-loop-k : goal.invariant-loop-k
invariant-loop-k l = (k : ℕ) → k < l.k → slice_index l.shapes (l.first + k) ≡ slice_index l.shapes (l.first + l.period + k)

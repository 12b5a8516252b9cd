use Rattle.std.proofs.Common.{◌≡◌, ◌-◌, ◌≤◌, length}
use Rattle.std.specs.Prelude.{All, sum_by}
use Rattle.l4sh_chart.specs.Folds.{Covers, IsRepeated, rows_of}
use Rattle.l4sh_chart.proofs.folding.folds_of.Given as goal

abbrev pub invariant-loop-first : goal.invariant-loop-first
invariant-loop-first l = (l.first ≤ length l.shapes) × Covers 0 l.folds.items l.first
    × (sum_by rows_of l.folds.items ≡ l.first) × All (IsRepeated l.shapes) l.folds.items

abbrev pub decreases-loop-first : goal.decreases-loop-first
decreases-loop-first l = length l.shapes - l.first

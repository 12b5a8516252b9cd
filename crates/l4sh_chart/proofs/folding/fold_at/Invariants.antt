use Rattle.l4sh_chart.specs.Folds.{IsFoldAt}
use Rattle.l4sh_chart.proofs.folding.fold_at.Given as goal

abbrev pub invariant-loop-period : goal.invariant-loop-period
invariant-loop-period l = IsFoldAt l.shapes l.first l.best

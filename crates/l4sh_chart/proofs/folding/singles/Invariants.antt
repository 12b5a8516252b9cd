use Rattle.l4sh_chart.specs.Folds.{Covers}
use Rattle.l4sh_chart.proofs.folding.singles.Given as goal

abbrev pub invariant-loop-first : goal.invariant-loop-first
invariant-loop-first l = Covers 0 l.folds.items l.first

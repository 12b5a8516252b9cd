use Rattle.std.proofs.Common.{◌+◌, List, refl, subst, sym}
use Rattle.l4sh_chart.specs.Folds.{Covers}
use Rattle.l4sh_chart.specs.declared.folding.Fold.{Fold}
use Rattle.l4sh_chart.proofs.Covering.{covers_more}
use Rattle.l4sh_chart.proofs.folding.singles.Goals as goal

pub loop-first-preserved : goal.loop-first-preserved
loop-first-preserved c =
    let first = c.loop-first.first in
    let fold : Fold = record { first = first; period = 1; count = 1 } in
    subst (λ (folds : List Fold). Covers 0 folds (first + 1)) (sym c.in_ok-push.ensures.items)
    (covers_more c.loop-first.folds.items 0 first (first + 1) fold c.loop-first.invariant refl refl)

use Rattle.std.proofs.Common.{◌≡◌, ◌+◌, List, refl, subst, sym}
use Rattle.std.specs.Prelude.{All, sum_by}
use Rattle.l4sh_chart.specs.Folds.{Covers, IsRepeated, rows_of}
use Rattle.l4sh_chart.specs.declared.folding.Fold.{Fold}
use Rattle.l4sh_chart.proofs.Covering.{counted_more, covers_more, repeated_more}
use Rattle.l4sh_chart.proofs.folding.folds_of.Goals as goal

pub loop-first-preserved : goal.loop-first-preserved
loop-first-preserved c =
    let first = c.loop-first.first in
    let fold = c.fold_at-fold.result in
    let folds = c.loop-first.folds.items in
    let shapes = c.args.shapes.now in
    let same = sym c.in_ok-push.ensures.items in
    let inv = c.loop-first.invariant in
    let at = c.fold_at-fold.ensures in (
      at.within,
      subst (λ (fs : List Fold). Covers 0 fs (first + rows_of fold)) same
          (covers_more folds 0 first (first + rows_of fold) fold inv.1 at.begins refl),
      subst (λ (fs : List Fold). sum_by rows_of fs ≡ first + rows_of fold) same (counted_more folds first fold inv.2),
      subst (λ (fs : List Fold). All (IsRepeated shapes) fs) same (repeated_more shapes folds fold inv.3 at.repeated),
    )

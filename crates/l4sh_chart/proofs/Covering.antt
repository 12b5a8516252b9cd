-- One fold more.
use Rattle.std.proofs.Common.{◌≡◌, ℕ, ◌+◌, ◌++◌, List, [], ◌∷◌, subst, sym, ◌∙◌, ap, arith}
use Rattle.std.specs.Prelude.{All, sum_by}
use Rattle.std.proofs.lemmas.List.Elements.{All-push}
use Rattle.std.proofs.lemmas.List.Sums.{sum_by-append}
use Rattle.l4sh_chart.specs.Folds.{Covers, IsRepeated, rows_of}
use Rattle.l4sh_chart.specs.declared.folding.Fold.{Fold}

-- a fold that begins where others end
pub covers_more : (folds : List Fold) (from middle to : ℕ) (fold : Fold) → Covers from folds middle → fold.first ≡ middle
    → middle + rows_of fold ≡ to → Covers from (folds ++ fold ∷ []) to
covers_more [] from middle to fold same begins ends = (begins ∙ sym same, subst (λ n. n + rows_of fold ≡ to) (sym same) ends)
covers_more (f ∷ folds) from middle to fold covers begins ends =
    (covers.0, covers_more folds (from + rows_of f) middle to fold covers.1 begins ends)

-- it adds its rows
pub counted_more : (folds : List Fold) (n : ℕ) (fold : Fold) → sum_by rows_of folds ≡ n
    → sum_by rows_of (folds ++ fold ∷ []) ≡ n + rows_of fold
counted_more folds n fold counted =
    let one : sum_by rows_of (fold ∷ []) ≡ rows_of fold = grind arith in
    sum_by-append rows_of folds (fold ∷ []) ∙ ap (λ m. sum_by rows_of folds + m) one ∙ ap (λ m. m + rows_of fold) counted

-- it is repeated as they are
pub repeated_more : (shapes : List ℕ) (folds : List Fold) (fold : Fold) → All (IsRepeated shapes) folds → IsRepeated shapes fold
    → All (IsRepeated shapes) (folds ++ fold ∷ [])
repeated_more shapes folds fold all one = All-push (IsRepeated shapes) folds fold all one

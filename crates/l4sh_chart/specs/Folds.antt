-- Our choice (README): rows of a chart that come again are shown once.
use Rattle.std.specs.Prelude.{◌≡◌, ℕ, ◌+◌, ◌*◌, ◌<◌, ◌≤◌, List, [], ◌∷◌, All, length, slice_index, sum_by}
use Rattle.l4sh_chart.specs.declared.folding.Fold.{Fold}

-- how many rows it stands for
abbrev pub rows_of : Fold → ℕ
rows_of fold = fold.period * fold.count

-- each of its rows but those of the last copy has the shape of the one a pattern later
abbrev pub IsRepeated : List ℕ → Fold → Type 0
IsRepeated shapes fold = (k : ℕ) → k + fold.period < rows_of fold
    → slice_index shapes (fold.first + k) ≡ slice_index shapes (fold.first + fold.period + k)

-- it begins at a row, stands for one at least and for none past the last, and what it folds is the
-- same again and again
pub record IsFoldAt (shapes : List ℕ) (first : ℕ) (fold : Fold) : Type 0 where
  pub begins : fold.first ≡ first
  pub some : 0 < rows_of fold
  pub within : first + rows_of fold ≤ length shapes
  pub repeated : IsRepeated shapes fold

-- the rows from one up to another: the first begins at the one, each other one where the one before
-- it ends
abbrev pub Covers : ℕ → List Fold → ℕ → Type 0
Covers from [] to = from ≡ to
Covers from (fold ∷ folds) to = (fold.first ≡ from) × Covers (from + rows_of fold) folds to

-- no row is lost and none is shown twice, and what is folded is the same again and again
pub record AreFoldsOf (shapes : List ℕ) (folds : List Fold) : Type 0 where
  pub whole : Covers 0 folds (length shapes)
  pub counted : sum_by rows_of folds ≡ length shapes
  pub repeated : All (IsRepeated shapes) folds

-- The rows of a chart, on the lines of its pages.
use Rattle.std.specs.Prelude.{ℕ, ◌+◌, ◌-◌, ◌^◌, List, ◌++◌, Option, Some, None, filter_map, min}
use Rattle.std.specs.List.{range_with_len}
use Rattle.l4sh_chart.specs.declared.folding.Fold.{Fold}
use Rattle.l4sh_draw.specs.declared.lines.Line.{Line}
use Rattle.l4sh_draw.specs.declared.lines.Line.TheVariants.{Row}

-- the row that a line shows
abbrev pub row_in : Line → Option ℕ
row_in (Row row copies) = Some row
row_in _ = None

-- the rows that lines show, in their order
abbrev pub rows_in : List Line → List ℕ
rows_in lines = filter_map row_in lines

-- the rows that pages show, and how many each may have
pub record ShownRows : Type 0 where
  pub rows : List ℕ
  pub most : ℕ

-- with more rows behind them
abbrev pub with_rows : List ℕ → ShownRows → ShownRows
with_rows more shown = record shown { rows = shown.rows ++ more }

-- the rows of a fold: those of its pattern, once
abbrev pub rows_of : Fold → List ℕ
rows_of fold = range_with_len fold.first (min (fold.first + fold.period) (2 ^ 64 - 1) - fold.first)

use Rattle.std.proofs.Common.{◌≡◌, take, flat_map}
use Rattle.l4sh_draw.specs.Lines.{rows_of, with_rows}
use Rattle.l4sh_draw.proofs.lines.pages_of.Given as goal

abbrev pub invariant-loop-index : goal.invariant-loop-index
invariant-loop-index l = l.pages ≡ with_rows (flat_map rows_of (take l.index l.folds)) l.initial.pages

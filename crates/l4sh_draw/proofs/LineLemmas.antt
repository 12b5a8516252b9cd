-- The rows of a chart, line by line.
use Rattle.std.proofs.Common.{◌≡◌, ap, ◌∙◌, List, [], ◌∷◌, ◌++◌}
use Rattle.std.proofs.lemmas.List.Elements.{filter_map-append}
use Rattle.l4sh_draw.specs.Lines.{row_in, rows_in}
use Rattle.l4sh_draw.specs.declared.lines.Line.{Line}

-- one more line
pub line_put : (old new : List Line) (line : Line) → new ≡ old ++ line ∷ [] → rows_in new ≡ rows_in old ++ rows_in (line ∷ [])
line_put old new line h = ap rows_in h ∙ filter_map-append row_in old (line ∷ [])

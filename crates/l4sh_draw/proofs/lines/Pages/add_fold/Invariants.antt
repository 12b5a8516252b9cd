use Rattle.std.proofs.Common.{◌≡◌, ◌-◌}
use Rattle.std.specs.List.{range_with_len}
use Rattle.l4sh_draw.specs.Lines.{with_rows}
use Rattle.l4sh_draw.proofs.lines.Pages.add_fold.Given as goal

abbrev pub invariant-loop-row : goal.invariant-loop-row
invariant-loop-row l = l.self ≡ with_rows (range_with_len l.fold.first (l.row - l.fold.first)) l.initial.self

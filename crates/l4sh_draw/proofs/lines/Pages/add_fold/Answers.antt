use Rattle.std.proofs.Common.{ap, ap₂, ◌∙◌}
use Rattle.ipc_history.proofs.PlaceLemmas.{place_numbered}
use Rattle.l4sh_draw.specs.Lines.{ShownRows}
use Rattle.l4sh_draw.proofs.lines.Pages.add_fold.Goals as goal

pub loop-row-preserved : goal.loop-row-preserved
loop-row-preserved c =
    ap₂ {C = ShownRows} (λ rows most. record { rows = rows; most = most })
    (place_numbered c.args.self.now.rows c.loop-row.self.rows c.add_row.new.self.rows
    c.args.fold.now.first c.loop-row.row c.loop-row.auto.row
    (ap (λ shown. shown.rows) c.loop-row.invariant) (ap (λ shown. shown.rows) c.in_ok-add_row.ensures))
    (ap (λ shown. shown.most) c.in_ok-add_row.ensures ∙ ap (λ shown. shown.most) c.loop-row.invariant)

use Rattle.std.proofs.Common.{ap, subst}
use Rattle.ipc_history.specs.Legal.{Legal}
use Rattle.l4sh_look.proofs.chart.print_shown.Goals as goal

pub returns-in-Yes-clause-drawn : goal.returns-in-Yes-clause-drawn
returns-in-Yes-clause-drawn g c =
    c.print_legal.ensures.ends c.args.version c.args.front.shown (subst Legal (ap (λ v. v.shown) c.front.view_is) (c.verdict.ensures.yes.0 c.in-Yes.is))

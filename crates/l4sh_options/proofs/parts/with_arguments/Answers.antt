use Rattle.std.proofs.Common.{List, get_or, take, ap, sym, subst, ◌∙◌, arith}
use Rattle.std.proofs.lemmas.List.{take_all, take_more}
use Rattle.clap.specs.Words.{App}
use Rattle.l4sh_options.specs.Command.{IsOfApp, with_rules}
use Rattle.l4sh_options.specs.declared.parts.Argument.{Argument}
use Rattle.l4sh_options.proofs.Commands.{more, with_rules_more}
use Rattle.l4sh_options.proofs.parts.with_arguments.Goals as goal

pub loop-row-preserved : goal.loop-row-preserved
loop-row-preserved c app is =
    let rows = c.args.rows.now in
    let n = c.loop-row.row-index in
    let same = λ (d : Argument). ap (with_rules app) (take_more rows n d c.loop-row-test.true) ∙ with_rules_more app (take n rows) (get_or rows n d) in
    let one = more c.loop-row.made c.in_ok-made.made c.argument_of.result (with_rules app (take n rows)) _ c.in_ok-made.ensures c.argument_of.ensures (c.loop-row.invariant app is) in
    subst (λ (a : App). IsOfApp a c.in_ok-made.made) (sym (same _)) one

pub returns : goal.returns
returns c app is =
    subst (λ (rows : List Argument). IsOfApp (with_rules app rows) c.loop-row.made) (take_all c.loop-row.row-index c.args.rows.now (omega arith)) (c.loop-row.invariant app is)

use Rattle.std.proofs.Common.{List, get_or, take, ap, sym, subst, ◌∙◌, arith}
use Rattle.std.proofs.lemmas.List.{take_all, take_more}
use Rattle.clap.specs.Words.{App}
use Rattle.l4sh_options.specs.Command.{IsOfApp, with_subcommands}
use Rattle.l4sh_options.specs.declared.parts.Subcommand.{Subcommand}
use Rattle.l4sh_options.proofs.Commands.{with_subcommands_more}
use Rattle.l4sh_options.proofs.parts.with_subcommands.Goals as goal

pub loop-row-preserved : goal.loop-row-preserved
loop-row-preserved c app is =
    let rows = c.args.rows.now in
    let n = c.loop-row.row-index in
    let same = λ (d : Subcommand). ap (with_subcommands app) (take_more rows n d c.loop-row-test.true) ∙ with_subcommands_more app (take n rows) (get_or rows n d) in
    let one = c.in_ok-made.ensures (with_subcommands app (take n rows)) _ (c.loop-row.invariant app is) c.command_of.ensures in
    subst (λ (a : App). IsOfApp a c.in_ok-made.made) (sym (same _)) one

pub returns : goal.returns
returns c app is =
    subst (λ (rows : List Subcommand). IsOfApp (with_subcommands app rows) c.loop-row.made) (take_all c.loop-row.row-index c.args.rows.now (omega arith)) (c.loop-row.invariant app is)

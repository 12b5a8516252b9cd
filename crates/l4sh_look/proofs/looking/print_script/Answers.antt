use Rattle.std.specs.String.{string_bytes}
use Rattle.l4sh_look.specs.declared.looking.Look.TheVariants as look
use Rattle.l4sh_look.proofs.LookLemmas.{prints_made}
use Rattle.l4sh_look.proofs.looking.print_script.Goals as goal

pub returns-in-Yes-clause-said : goal.returns-in-Yes-clause-said
returns-in-Yes-clause-said g c = c.print.ensures.ends c.args.version c.args.entries.now (c.check.ensures.yes.0 c.in-Yes.is)

pub returns-in-Yes-clause-prints : goal.returns-in-Yes-clause-prints
returns-in-Yes-clause-prints g c done =
    prints_made (λ text. string_bytes text) look.Script c.args.entries.now c.script_of.result c.print.result _ _ c.print.ensures.whole c.print.ensures.lost c.script_of.ensures.text done

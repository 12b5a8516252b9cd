use Rattle.std.specs.String.{string_bytes}
use Rattle.l4sh_look.specs.declared.looking.Look.TheVariants as look
use Rattle.l4sh_look.proofs.LookLemmas.{prints_made}
use Rattle.l4sh_look.proofs.looking.print_state.Goals as goal

pub returns-in-Ok-clause-said : goal.returns-in-Ok-clause-said
returns-in-Ok-clause-said g c = c.print.ensures.ends c.args.version c.args.entries.now c.in-Ok.ensures.state.legal

pub returns-in-Ok-clause-prints : goal.returns-in-Ok-clause-prints
returns-in-Ok-clause-prints g c count done =
    prints_made (λ text. string_bytes text) (look.StateAt count) c.args.entries.now c.with_its_end.result c.print.result _ _ c.print.ensures.whole c.print.ensures.lost
    (c.with_its_end.ensures c.state_after-text.ensures) done

use Rattle.std.specs.String.{string_bytes}
use Rattle.l4sh_look.specs.declared.looking.Look.TheVariants.{Counts}
use Rattle.l4sh_look.proofs.LookLemmas.{counts_made, prints_made}
use Rattle.l4sh_look.proofs.counting.tell.Goals as goal

pub returns-in-Ok-clause-said : goal.returns-in-Ok-clause-said
returns-in-Ok-clause-said g c = c.print.ensures.ends c.args.version c.args.counting.now.counter c.in-Ok.ensures.told.legal

pub returns-in-Ok-clause-prints : goal.returns-in-Ok-clause-prints
returns-in-Ok-clause-prints g c done =
    prints_made (λ text. string_bytes text) (Counts c.args.is_json) c.args.counting.now.counter c.counts_text.result c.print.result _ _ c.print.ensures.whole c.print.ensures.lost
    (counts_made (λ text. string_bytes text) c.args.is_json c.args.counting.now.counter _ c.counts_text.result c.in-Ok.ensures.told.counted.all c.counts_text.ensures) done

use Rattle.std.proofs.Common.{ap, ◌∙◌, subst}
use Rattle.std.specs.String.{string_bytes}
use Rattle.ipc_history.specs.Legal.{Legal}
use Rattle.l4sh_look.specs.declared.looking.Look.TheVariants.{StateAt}
use Rattle.l4sh_look.proofs.LookLemmas.{prints_made}
use Rattle.l4sh_look.proofs.last_state.tell_shown.Goals as goal

pub returns-in-Ok-clause-said : goal.returns-in-Ok-clause-said
returns-in-Ok-clause-said g c =
    let same = c.in-Ok.ensures.slots ∙ ap (λ v. v.shown) c.front.view_is in
    c.print.ensures.ends c.args.version c.args.front.now.shown (subst Legal same c.state_in-state.ensures.legal)

pub returns-in-Ok-clause-prints : goal.returns-in-Ok-clause-prints
returns-in-Ok-clause-prints g c last entries done =
    prints_made (λ text. string_bytes text) (StateAt last) entries c.shown_text.result c.print.result _ _ c.print.ensures.whole c.print.ensures.lost c.shown_text.ensures done

use Rattle.std.proofs.Common.{subst, Contains}
use Rattle.ipc_history.specs.declared.entry.Entry.TheVariants.{Given}
use Rattle.ipc_compact.proofs.BaseLemmas.{caller_there}
use Rattle.ipc_compact.proofs.partner_base.over_in_input.Goals as goal

pub is_kept-requires-clause-caller : goal.is_kept-requires-clause-caller
is_kept-requires-clause-caller c =
    caller_there c.args.desks.now.past c.kept.ensures.legal c.in-Called.number c.in-Called.caller c.in-Called.field-2
    (subst (λ input. Contains c.args.desks.now.past (Given input)) c.in-Called.is c.requires.there)

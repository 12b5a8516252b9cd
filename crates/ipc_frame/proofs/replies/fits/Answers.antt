use Rattle.std.proofs.Common.{subst}
use Rattle.ipc_items.specs.Strings.{AreStrings}
use Rattle.ipc_items.specs.Buffers.{AreBuffers}
use Rattle.ipc_history.specs.Outcomes.{OutcomeParts, HasItsWords}
use Rattle.ipc_frame.proofs.PlacingLemmas.{reply_is, reply_fits}
use Rattle.ipc_frame.proofs.replies.fits.Goals as goal

pub returns-clause-is : goal.returns-clause-is
returns-clause-is c =
    reply_is c.args.version c.args.outcome.now
    (subst (λ (o : OutcomeParts). AreStrings o.strings) c.outcome.view_is c.len-strings.ensures.within)
    (subst (λ (o : OutcomeParts). AreBuffers o.buffers) c.outcome.view_is c.len-buffers.ensures.within)
    (subst (λ (o : OutcomeParts). HasItsWords o.tag o.words) c.outcome.view_is c.outcome.invariant)

pub returns-clause-fault : goal.returns-clause-fault
returns-clause-fault c = reply_fits c.args.version c.args.outcome.now (returns-clause-is c)

use Rattle.ipc_compact.proofs.PartnerLemmas.{partner_by}
use Rattle.ipc_compact.proofs.kept.passing.held_partner.Goals as goal

pub returns : goal.returns
returns c = partner_by c.args.slots.now.past c.args.number c.call_held-call.result.now c.call_held-call.ensures.call

use Rattle.std.proofs.Common.{arith}
use Rattle.ipc_desks.proofs.LastCalls.{live_below}
use Rattle.ipc_compact.proofs.PartnerLemmas.{alive, enter_knows}
use Rattle.ipc_compact.proofs.kept.KeptPartners.enter.Goals as goal

pub shown_sender-shown-requires : goal.shown_sender-shown-requires
shown_sender-shown-requires c = alive c.args.slots.now.past c.kept.ensures.legal c.args.self.now c.requires.knows c.args.number c.args.caller c.args.call.now c.requires.follows

pub set-requires : goal.set-requires
set-requires c =
    let lives = alive c.args.slots.now.past c.kept.ensures.legal c.args.self.now c.requires.knows c.args.number c.args.caller c.args.call.now c.requires.follows in
    omega (arith, c.number-place.ensures, live_below c.args.slots.now.past c.kept.ensures.legal c.args.caller lives)

pub returns : goal.returns
returns c = enter_knows c.args.slots.now.past c.kept.ensures.legal c.args.self.now c.requires.knows c.args.number c.args.caller c.args.call.now c.requires.follows c.number-place.result c.shown_sender-shown.result c.set.new.self c.number-place.ensures c.shown_sender-shown.ensures c.set.ensures

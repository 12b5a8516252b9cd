use Rattle.std.proofs.Common.{sym}
use Rattle.ipc_compact.proofs.MakingLemmas.{standing_is}
use Rattle.ipc_compact.proofs.making.standing_of.Goals as goal

pub returns : goal.returns
returns c = rw (c.to.ensures, c.from.ensures, c.from_specifier.ensures, c.shown_sender.ensures, c.since_of.ensures, c.send_period.ensures, c.receive_period.ensures, c.size.ensures.sum, c.strings.ensures, c.moved_bytes.ensures, c.phase_of.ensures) (sym (standing_is c.args.held.now c.args.number c.args.caller c.args.call.now c.requires.call))

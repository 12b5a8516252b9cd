use Rattle.std.proofs.Common.{refl}
use Rattle.ipc_desks.proofs.Standings.{standing_caller}
use Rattle.ipc_desks.proofs.kept.KeptDesks.fail_both.Goals as goal

pub returns-clause-finished : goal.returns-clause-finished
returns-clause-finished c = rw (c.standing-sender.ensures, c.standing-receiver.ensures, standing_caller c.args.slots.now.past c.args.sending, standing_caller c.args.slots.now.past c.args.receiving) refl

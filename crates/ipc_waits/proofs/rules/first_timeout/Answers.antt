use Rattle.std.proofs.Common.{◌∙◌}
use Rattle.ipc_waits.proofs.Answering.{first_due}
use Rattle.ipc_waits.proofs.rules.first_timeout.Goals as goal

pub returns : goal.returns
returns c = c.least.ensures ∙ first_due c.args.slots.now.past c.now.result c.now.ensures

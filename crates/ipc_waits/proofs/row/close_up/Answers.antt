use Rattle.std.proofs.Common.{ap, ◌∙◌, ◌-◌, take, arith}
use Rattle.ipc_waits.proofs.Fronts.{closed_up}
use Rattle.ipc_waits.proofs.row.close_up.Goals as goal

pub returns-clause-items : goal.returns-clause-items
returns-clause-items c =
    c.truncate.ensures.items ∙ (ap (take (c.len-len.result - c.args.front)) c.copy_within.ensures.items
    ∙ closed_up c.args.waits.now.items c.args.front c.len-len.result (omega (arith, c.requires, c.len-len.ensures)) (omega (arith, c.len-len.ensures)))

use Rattle.std.proofs.Common.{◌∙◌}
use Rattle.ipc_waits.proofs.PatienceLemmas.{lets_in_it}
use Rattle.ipc_waits.proofs.resting.lets_in.Goals as goal

pub returns : goal.returns
returns c =
    let by = rw c.are_local.ensures at c.lets_in_by.ensures in
    by ∙ lets_in_it c.args.slots.now.past c.kept-kept.result.now c.kept-kept.ensures.legal c.kept-kept.ensures.stands c.args.thread c.requires.live c.args.from c.args.call.now c.requires.call

use Rattle.std.proofs.Common.{sym, ◌∙◌}
use Rattle.ipc_waits.proofs.Lasts.{exreg_live, stop_last}
use Rattle.ipc_waits.proofs.last.stop_exreg.Goals as goal

pub is_live_beside-requires : goal.is_live_beside-requires
is_live_beside-requires c = exreg_live c.args.slots.now.past c.kept.ensures.legal c.args.thread c.args.target c.args.control c.requires

pub returns-then-is_live_beside : goal.returns-then-is_live_beside
returns-then-is_live_beside c =
    let law = stop_last c.args.slots.now.past c.args.thread c.args.target c.args.control in
    c.stop_of.ensures ∙ (rw (sym c.is_live_beside.ensures ∙ c.if-is_live_beside.true) at law)

pub returns-else-is_live_beside : goal.returns-else-is_live_beside
returns-else-is_live_beside c =
    let law = stop_last c.args.slots.now.past c.args.thread c.args.target c.args.control in
    rw (sym c.is_live_beside.ensures ∙ c.if-is_live_beside.false) at law

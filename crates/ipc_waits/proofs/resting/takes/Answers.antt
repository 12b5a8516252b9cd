use Rattle.std.proofs.Common.{sym, ◌∙◌, ap, option_copied}
use Rattle.ipc_waits.proofs.PatienceLemmas.{takes_it, takes_none}
use Rattle.ipc_waits.proofs.resting.takes.Goals as goal

pub returns-in-Some : goal.returns-in-Some
returns-in-Some c =
    let by = rw c.are_local.ensures at c.awaits.ensures in
    by ∙ takes_it c.args.slots.now.past c.kept-kept.result.now c.kept-kept.ensures.legal c.kept-kept.ensures.stands c.args.sender c.requires c.args.thread c.in-Some.receiving.now (sym (ap option_copied c.in-Some.is) ∙ c.call_of.ensures)

pub returns-in-None : goal.returns-in-None
returns-in-None c = sym (takes_none c.args.slots.now.past c.kept-kept.result.now c.kept-kept.ensures.legal c.kept-kept.ensures.stands c.args.sender c.requires c.args.thread (sym (ap option_copied c.in-None.is) ∙ c.call_of.ensures))

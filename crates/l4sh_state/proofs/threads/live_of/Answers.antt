use Rattle.std.proofs.Common.{◌∙◌, sym}
use Rattle.ipc_threads.proofs.Holders.{live_of_is}
use Rattle.l4sh_state.proofs.ThreadLemmas.{live_none, live_some}
use Rattle.l4sh_state.proofs.threads.live_of.Goals as goal

pub returns-in-None : goal.returns-in-None
returns-in-None c = live_none c.args.slots.now.past c.args.place (sym c.in-None.is ∙ c.thread_at.ensures)

pub space_of-requires : goal.space_of-requires
space_of-requires c = (live_of_is c.args.slots.now.past c.args.place c.in-Some.thread (sym c.thread_at.ensures ∙ c.in-Some.is)).live

pub returns-in-Some : goal.returns-in-Some
returns-in-Some c =
    rw c.call_at.ensures (live_some c.args.slots.now.past c.kept.result.now c.args.place c.in-Some.thread c.space_of.result c.kept.ensures.stands
    (sym c.in-Some.is ∙ c.thread_at.ensures) c.space_of.ensures)

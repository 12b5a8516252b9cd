use Rattle.std.proofs.Common.{sym, ap, ◌∙◌, option_and_then, option_copied}
use Rattle.ipc_history.specs.NextOutput.{stop}
use Rattle.ipc_waits.proofs.Lasts.{stop_absent}
use Rattle.ipc_threads.proofs.Lookups.{call_up}
use Rattle.ipc_waits.proofs.last.stop_of.Goals as goal

pub stop_call-requires : goal.stop_call-requires
stop_call-requires c = (call_up c.args.slots.now.past c.args.thread c.in-Some.call.now (sym (ap option_copied c.in-Some.is) ∙ c.call_of.ensures)).1

pub returns-in-Some : goal.returns-in-Some
returns-in-Some c =
    let call = (call_up c.args.slots.now.past c.args.thread c.in-Some.call.now (sym (ap option_copied c.in-Some.is) ∙ c.call_of.ensures)).0 in
    c.stop_call.ensures ∙ sym (ap (option_and_then (stop c.args.slots.now.past c.args.control)) call)

pub returns-in-None : goal.returns-in-None
returns-in-None c = stop_absent c.args.slots.now.past c.args.thread c.args.control (sym (ap option_copied c.in-None.is) ∙ c.call_of.ensures)

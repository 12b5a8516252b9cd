use Rattle.std.proofs.Common.{sym, ap, ◌∙◌, option_copied}
use Rattle.ipc_threads.proofs.Lookups.{call_up, none_up}
use Rattle.ipc_history.specs.Phases.{open_call}
use Rattle.ipc_threads.proofs.slots.Slots.open_call_of.Goals as goal

pub returns-in-Some : goal.returns-in-Some
returns-in-Some c = sym (call_up c.args.self.now.past c.args.thread c.in-Some.call.now (sym (ap option_copied c.in-Some.is) ∙ c.call_of.ensures)).0

pub returns-in-None : goal.returns-in-None
returns-in-None c = sym (none_up c.args.self.now.past (open_call c.args.self.now.past c.args.thread) (sym (ap option_copied c.in-None.is) ∙ c.call_of.ensures))

use Rattle.std.proofs.Common.{◌∙◌, sym}
use Rattle.ipc_core.proofs.BusyLaws.{busy_is}
use Rattle.ipc_core.proofs.kernel.Kernel.is_busy.Goals as goal

pub returns : goal.returns
returns c = c.has_untaken.ensures ∙ sym (busy_is c.args.self.now c.args.thread c.history.ensures.sound)

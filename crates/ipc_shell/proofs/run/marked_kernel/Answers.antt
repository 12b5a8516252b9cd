use Rattle.std.proofs.Common.{◌∙◌, ap}
use Rattle.ipc_history.specs.Holding.{marked_to}
use Rattle.ipc_core.specs.KernelParts.{KernelParts}
use Rattle.ipc_exchange.specs.Serving.{every_entry}
use Rattle.ipc_shell.proofs.run.marked_kernel.Goals as goal

pub returns : goal.returns
returns c = c.mark.ensures ∙ ap (λ (k : KernelParts). record k { held = marked_to every_entry k.held }) c.in_ok-kernel.ensures.ok

use Rattle.std.proofs.Common.{◌∙◌, ap}
use Rattle.ipc_core.specs.Outcomes.{is_finished}
use Rattle.ipc_core.proofs.kernel.Kernel.finished.Goals as goal

pub returns-clause-names : goal.returns-clause-names
returns-clause-names c = λ thread. c.finished.ensures.names thread ∙ ap (λ k. is_finished k thread) c.self.view_is

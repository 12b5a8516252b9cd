use Rattle.std.proofs.Common.{sym, ◌∙◌}
use Rattle.ipc_laws.proofs.Determined.{quiet_determined}
use Rattle.ipc_core.proofs.Running.{runs_none, runs_more}
use Rattle.ipc_core.proofs.kernel.Kernel.run_in.Goals as goal

pub loop-command-init : goal.loop-command-init
loop-command-init g c = runs_none _ _ _ c.in_ok-kernel.ensures.ok c.new-answers.ensures.items

pub loop-command-preserved : goal.loop-command-preserved
loop-command-preserved g c = runs_more _ _ _ _ _ _ _ _ c.loop-command.invariant c.obey_in-answer.ensures.obeys (sym c.is_no_memory.ensures ∙ c.if-is_no_memory.false) c.in-Ok.ensures.items

pub returns-clause-only : goal.returns-clause-only
returns-clause-only g c = λ H legal quiet same. quiet_determined H _ legal c.history.ensures.legal quiet c.history.ensures.quiet same

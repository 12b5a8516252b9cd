use Rattle.std.proofs.Common.{sym, ◌∙◌}
use Rattle.ipc_core.specs.declared.command.Command.TheVariants.{Exreg}
use Rattle.ipc_core.proofs.AgainLaws.{obeyed_again, obeyed_first}
use Rattle.ipc_core.proofs.kernel.Kernel.exreg_again.Goals as goal

pub returns-then-not-is_history_full-clause-obeys : goal.returns-then-not-is_history_full-clause-obeys
returns-then-not-is_history_full-clause-obeys g c = obeyed_first c.args.upto _ (Exreg c.args.thread c.args.target c.args.control) _ _ c.obey_exreg-first.ensures.obeys (sym c.is_history_full.ensures ∙ c.if-not-is_history_full.true)

pub returns-clause-obeys : goal.returns-clause-obeys
returns-clause-obeys g c = obeyed_again c.args.upto _ (Exreg c.args.thread c.args.target c.args.control) _ _ _ _ _ _ c.obey_exreg-first.ensures.obeys (sym c.is_history_full.ensures ∙ c.if-not-is_history_full.false) c.compact.ensures c.obey_exreg.ensures.obeys

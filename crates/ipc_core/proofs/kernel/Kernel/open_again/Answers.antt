use Rattle.std.proofs.Common.{sym, ◌∙◌}
use Rattle.ipc_core.specs.declared.command.Command.TheVariants.{Open}
use Rattle.ipc_core.proofs.AgainLaws.{obeyed_again, obeyed_first}
use Rattle.ipc_core.proofs.kernel.Kernel.open_again.Goals as goal

pub returns-then-not-is_history_full-clause-obeys : goal.returns-then-not-is_history_full-clause-obeys
returns-then-not-is_history_full-clause-obeys g c = obeyed_first c.args.upto _ (Open c.args.number c.args.space) _ _ c.obey_open-first.ensures.obeys (sym c.is_history_full.ensures ∙ c.if-not-is_history_full.true)

pub returns-clause-obeys : goal.returns-clause-obeys
returns-clause-obeys g c = obeyed_again c.args.upto _ (Open c.args.number c.args.space) _ _ _ _ _ _ c.obey_open-first.ensures.obeys (sym c.is_history_full.ensures ∙ c.if-not-is_history_full.false) c.compact.ensures c.obey_open.ensures.obeys

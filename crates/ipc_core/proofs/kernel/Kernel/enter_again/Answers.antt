use Rattle.std.proofs.Common.{sym, subst, refl, ◌∙◌}
use Rattle.ipc_core.specs.Obeying.{MayObey}
use Rattle.ipc_core.specs.declared.command.Command.TheVariants.{Enter}
use Rattle.ipc_core.proofs.AgainLaws.{obeyed_again, obeyed_first}
use Rattle.ipc_core.proofs.Running.{other_refusal}
use Rattle.ipc_core.proofs.kernel.Kernel.enter_again.Goals as goal

pub returns-in-Ok-clause-obeys : goal.returns-in-Ok-clause-obeys
returns-in-Ok-clause-obeys g c = obeyed_first c.args.upto _ (Enter c.args.thread c.args.call) _ _ c.in-Ok.ensures.obeys refl

pub returns-then-not-is_history_full-clause-obeys : goal.returns-then-not-is_history_full-clause-obeys
returns-then-not-is_history_full-clause-obeys g c = obeyed_first c.args.upto _ (Enter c.args.thread c.args.call) _ _ c.in-Err.ensures.obeys (sym c.is_history_full.ensures ∙ c.if-not-is_history_full.true)

pub returns-else-not-is_history_full-clause-obeys : goal.returns-else-not-is_history_full-clause-obeys
returns-else-not-is_history_full-clause-obeys g c =
    obeyed_again c.args.upto _ (Enter c.args.thread c.args.call) _ _ _ _ _ _ c.in-Err.ensures.obeys (sym c.is_history_full.ensures ∙ c.if-not-is_history_full.false) c.compact.ensures
    (subst (λ call. MayObey c.compact.new.self (Enter c.args.thread call) c.obey_enter.result c.obey_enter.new.self) c.in-Err.ensures.back c.obey_enter.ensures.obeys)

pub returns-then-not-is_history_full-clause-ample : goal.returns-then-not-is_history_full-clause-ample
returns-then-not-is_history_full-clause-ample g c ample = other_refusal _ (c.in-Err.ensures.ample ample)

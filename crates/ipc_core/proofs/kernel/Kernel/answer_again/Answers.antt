use Rattle.ipc_core.specs.declared.command.Command.TheVariants.{Broke, At, Advance, Take}
use Rattle.ipc_core.proofs.AgainLaws.{break_lacks_none, clock_lacks_none, copy_lacks_none, obeyed_at_once, take_lacks_none}
use Rattle.ipc_core.proofs.kernel.Kernel.answer_again.Goals as goal

pub returns-in-Broke-clause-obeys : goal.returns-in-Broke-clause-obeys
returns-in-Broke-clause-obeys g c = rw c.in-Broke.is (obeyed_at_once c.args.upto _ (Broke c.in-Broke.thread) _ _ (break_lacks_none _ _) c.obey_broke.ensures.obeys)

pub returns-in-At-clause-obeys : goal.returns-in-At-clause-obeys
returns-in-At-clause-obeys g c = rw c.in-At.is (obeyed_at_once c.args.upto _ (At c.in-At.reading) _ _ (clock_lacks_none _ _) c.obey_at.ensures.obeys)

pub returns-in-Advance-clause-obeys : goal.returns-in-Advance-clause-obeys
returns-in-Advance-clause-obeys g c = rw c.in-Advance.is (obeyed_at_once c.args.upto _ Advance _ _ (copy_lacks_none _) c.obey_advance.ensures.obeys)

pub returns-in-Take-clause-obeys : goal.returns-in-Take-clause-obeys
returns-in-Take-clause-obeys g c = rw c.in-Take.is (obeyed_at_once c.args.upto _ (Take c.in-Take.thread) _ _ (take_lacks_none _ _) c.obey_take.ensures.obeys)

use Rattle.ipc_check.proofs.Going.{given_behind, judged_behind}
use Rattle.ipc_check.proofs.incremental.judge.Goals as goal

pub returns-in-No-clause-judged : goal.returns-in-No-clause-judged
returns-in-No-clause-judged c =
    judged_behind c.args.front.now c.args.rest.now c.add.new.self c.args.count c.args.verdict.now c.args.entry _ _ c.in-No.is c.requires.judged c.requires.few c.add.ensures

pub returns-in-No-clause-given : goal.returns-in-No-clause-given
returns-in-No-clause-given c = given_behind c.args.front.now c.args.rest.now c.add.new.self c.args.entry c.add.ensures

use Rattle.ipc_check.proofs.Going.{given_behind, given_in_front, judged_fault, judged_on, judged_still, same_front, where_err, where_ok}
use Rattle.ipc_check.proofs.incremental.go_on.Goals as goal

pub returns-then-takes-clause-judged : goal.returns-then-takes-clause-judged
returns-then-takes-clause-judged c =
    where_ok c.append.result (judged_on c.args.front.now c.append.new.self c.args.rest.now c.args.count c.args.verdict.now c.args.entry c.requires.yes c.requires.judged c.requires.few) c.append.ensures.ok

pub returns-then-takes-clause-given : goal.returns-then-takes-clause-given
returns-then-takes-clause-given c =
    where_ok c.append.result (given_in_front c.args.front.now c.append.new.self c.args.rest.now c.args.count c.args.verdict.now c.args.entry c.requires.yes c.requires.judged) c.append.ensures.ok

pub returns-then-takes-clause-still : goal.returns-then-takes-clause-still
returns-then-takes-clause-still c =
    where_err c.append.result (judged_still c.args.front.now c.append.new.self c.args.rest.now c.args.count c.args.verdict.now c.requires.judged) c.append.ensures.err

pub returns-then-takes-clause-same : goal.returns-then-takes-clause-same
returns-then-takes-clause-same c = where_err c.append.result (same_front c.args.front.now c.append.new.self c.args.rest.now) c.append.ensures.err

pub returns-clause-judged : goal.returns-clause-judged
returns-clause-judged c =
    judged_fault c.args.front.now c.args.rest.now c.add.new.self c.args.count c.args.verdict.now c.args.entry c.expected.result c.requires.yes c.requires.judged c.requires.few
    c.slots.ensures.legal c.if-takes.ensures.no c.expected.ensures c.add.ensures

pub returns-clause-given : goal.returns-clause-given
returns-clause-given c = given_behind c.args.front.now c.args.rest.now c.add.new.self c.args.entry c.add.ensures

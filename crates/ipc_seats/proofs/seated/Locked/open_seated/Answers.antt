use Rattle.std.proofs.Common.{rules, arith}
use Rattle.ipc_core.proofs.Few.{obeys_few}
use Rattle.ipc_seats.proofs.Counts.{calls_opened, few_opens, opens_opened}
use Rattle.ipc_seats.proofs.seated.Locked.open_seated.Goals as goal

pub split_off-made-requires-clause-has_parts : goal.split_off-made-requires-clause-has_parts
split_off-made-requires-clause-has_parts g c =
    let few = few_opens c.args.self.now.kernel.history in
    grind (rules, arith)

pub invariant_of-self-2 : goal.invariant_of-self-2
invariant_of-self-2 g c =
    let made = calls_opened c.args.self.now.kernel c.open.new.self c.args.number c.args.space
    c.in_ok-thread.thread c.in_ok-thread.ensures.ok.1 in
    let opened = opens_opened c.args.self.now.kernel c.open.new.self c.args.number c.args.space
    c.in_ok-thread.thread c.in_ok-thread.ensures.ok.1 in
    let taken = c.in_ok-thread.ensures.ok.1.taken in
    search (rules, arith)

pub returns-clause-few : goal.returns-clause-few
returns-clause-few g c = obeys_few _ _ _ _ c.open.ensures.obeys c.history-2.ensures.legal

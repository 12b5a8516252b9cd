use Rattle.std.proofs.Common.{rules, arith}
use Rattle.ipc_core.proofs.Few.{obeys_few}
use Rattle.ipc_seats.proofs.Counts.{exreg_same}
use Rattle.ipc_seats.proofs.seated.Locked.exreg_seated.Goals as goal

pub invariant_of-self-2 : goal.invariant_of-self-2
invariant_of-self-2 g c =
    let same = exreg_same _ _ _ c.args.target c.args.control _ c.exreg-answer.result c.exreg-answer.ensures.ok c.exreg-answer.ensures.err in
    let calls = same.calls in
    let opens = same.opens in
    let taken = same.taken in
    search (rules, arith)

pub returns-clause-few : goal.returns-clause-few
returns-clause-few g c = obeys_few _ _ _ _ c.exreg-answer.ensures.obeys c.history.ensures.legal

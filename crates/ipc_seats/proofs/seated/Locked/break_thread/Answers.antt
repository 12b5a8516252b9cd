use Rattle.std.proofs.Common.{rules, arith}
use Rattle.ipc_core.proofs.Few.{obeys_few}
use Rattle.ipc_seats.proofs.Counts.{broke_same}
use Rattle.ipc_seats.proofs.seated.Locked.break_thread.Goals as goal

pub invariant_of-self : goal.invariant_of-self
invariant_of-self g c =
    let same = broke_same _ _ c.args.thread _ c.broke-ended.result c.broke-ended.ensures.ok c.broke-ended.ensures.err in
    let calls = same.calls in
    let opens = same.opens in
    let taken = same.taken in
    search (rules, arith)

pub returns-clause-few : goal.returns-clause-few
returns-clause-few g c = obeys_few _ _ _ _ c.broke-ended.ensures.obeys c.history.ensures.legal

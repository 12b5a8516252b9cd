use Rattle.std.proofs.Common.{rules, arith}
use Rattle.ipc_core.proofs.Few.{obeys_few}
use Rattle.ipc_seats.proofs.Counts.{advance_same}
use Rattle.ipc_seats.proofs.seated.Locked.advance.Goals as goal

pub invariant_of-self : goal.invariant_of-self
invariant_of-self g c =
    let same = advance_same _ _ _ c.advance-advance.result c.advance-advance.ensures.moved c.advance-advance.ensures.idle in
    let calls = same.calls in
    let opens = same.opens in
    let taken = same.taken in
    search (rules, arith)

pub returns-clause-few : goal.returns-clause-few
returns-clause-few g c = obeys_few _ _ _ _ c.advance-advance.ensures.obeys c.history.ensures.legal

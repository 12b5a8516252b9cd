use Rattle.std.proofs.Common.{sym, arith}
use Rattle.ipc_history.specs.Calls.{call_at}
use Rattle.ipc_history.specs.Entries.{call_in}
use Rattle.ipc_compact.proofs.SayingLemmas.{first_none, first_there}
use Rattle.ipc_compact.proofs.saying.call_of.Goals as goal

pub returns-in-Some : goal.returns-in-Some
unfolding call_at
returns-in-Some c =
    let l = c.loop-place in
    first_there (call_in c.args.number) c.args.held.now l.place c.index-held-place.result _ c.loop-place-test.true c.index-held-place.is l.invariant (sym c.in-Some.ensures)

pub returns : goal.returns
unfolding call_at
returns c =
    let l = c.loop-place in
    first_none (call_in c.args.number) c.args.held.now (let far = c.loop-place-test.false in λ k h d. l.invariant k (omega (arith, h, far)) d)

use Rattle.std.proofs.Common.{sym, arith}
use Rattle.ipc_history.specs.Entries.{calls}
use Rattle.ipc_compact.proofs.SayingLemmas.{before_at, before_none}
use Rattle.ipc_compact.proofs.saying.before_call.Goals as goal

pub returns-then-calls : goal.returns-then-calls
returns-then-calls c =
    let l = c.loop-place in
    before_at (calls c.args.number) c.args.held.now l.place c.index-held-place.result c.loop-place-test.true c.index-held-place.is l.invariant (sym c.if-calls.ensures)

pub returns : goal.returns
returns c =
    let l = c.loop-place in
    before_none (calls c.args.number) c.args.held.now (let far = c.loop-place-test.false in λ k h d. l.invariant k (omega (arith, h, far)) d)

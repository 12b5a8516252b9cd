use Rattle.std.proofs.Common.{sym, arith}
use Rattle.ipc_history.specs.Entries.{ends_send}
use Rattle.ipc_compact.proofs.SayingLemmas.{before_at, before_none}
use Rattle.ipc_compact.proofs.saying.before_sent.Goals as goal

pub returns-then-ends_send : goal.returns-then-ends_send
returns-then-ends_send c =
    let l = c.loop-place in
    before_at (ends_send c.args.number) c.args.held.now l.place c.index-held-place.result c.loop-place-test.true c.index-held-place.is l.invariant (sym c.if-ends_send.ensures)

pub returns : goal.returns
returns c =
    let l = c.loop-place in
    before_none (ends_send c.args.number) c.args.held.now (let far = c.loop-place-test.false in λ k h d. l.invariant k (omega (arith, h, far)) d)

use Rattle.std.proofs.Common.{arith}
use Rattle.ipc_history.proofs.EnteredOnce.{not_called}
use Rattle.ipc_history.proofs.entries.place_by_walk.Goals as goal

pub returns-clause-none : goal.returns-clause-none
returns-clause-none c =
    let l = c.loop-place in
    λ nothing. not_called c.args.number c.args.held.now (let far = c.loop-place-test.false in λ k h d. l.invariant k (omega (arith, h, far)) d)

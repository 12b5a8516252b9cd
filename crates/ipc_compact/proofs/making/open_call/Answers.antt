use Rattle.std.proofs.Common.{◌∙◌, sym, arith}
use Rattle.ipc_compact.specs.Making.{open_in}
use Rattle.ipc_compact.proofs.MakingLemmas.{open_found}
use Rattle.ipc_compact.proofs.SayingLemmas.{first_none, first_there}
use Rattle.ipc_compact.proofs.making.open_call.Goals as goal

pub returns-in-Some : goal.returns-in-Some
returns-in-Some c =
    let l = c.loop-place in
    first_there (open_in c.args.held.now c.args.over.now c.args.thread) c.args.held.now l.place c.index-held-place.result c.in-Some.number c.loop-place-test.true c.index-held-place.is l.invariant (sym c.in-Some.ensures)
    ∙ open_found c.args.held.now c.args.over.now c.args.thread

pub returns : goal.returns
returns c =
    let l = c.loop-place in
    first_none (open_in c.args.held.now c.args.over.now c.args.thread) c.args.held.now (let far = c.loop-place-test.false in λ k h d. l.invariant k (omega (arith, h, far)) d)
    ∙ open_found c.args.held.now c.args.over.now c.args.thread

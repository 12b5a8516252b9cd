use Rattle.ipc_history.specs.Entries.{sender_in}
use Rattle.ipc_compact.proofs.SayingLemmas.{first_more, first_whole}
use Rattle.ipc_compact.proofs.saying.sender.Goals as goal

pub loop-place-preserved : goal.loop-place-preserved
loop-place-preserved c =
    let l = c.loop-place in
    first_more (sender_in c.args.number) c.args.held.now l.place c.index-held-place.result l.found c.sender.result c.or-found.result c.loop-place-test.true c.index-held-place.is l.invariant c.sender.ensures c.or-found.ensures

pub returns : goal.returns
returns c = first_whole (sender_in c.args.number) c.args.held.now c.loop-place.place c.loop-place.found c.loop-place-test.false c.loop-place.invariant

use Rattle.ipc_history.specs.Entries.{turned_in}
use Rattle.ipc_compact.proofs.SayingLemmas.{last_more, last_whole}
use Rattle.ipc_compact.proofs.saying.last_turned.Goals as goal

pub loop-place-preserved : goal.loop-place-preserved
loop-place-preserved c =
    let l = c.loop-place in
    last_more (turned_in c.args.number) c.args.held.now l.place c.index-held-place.result l.found c.turned.result c.or-found.result c.loop-place-test.true c.index-held-place.is l.invariant c.turned.ensures c.or-found.ensures

pub returns : goal.returns
returns c = last_whole (turned_in c.args.number) c.args.held.now c.loop-place.place c.loop-place.found c.loop-place-test.false c.loop-place.invariant

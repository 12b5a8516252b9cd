use Rattle.ipc_history.specs.Entries.{space_in}
use Rattle.ipc_compact.proofs.SayingLemmas.{first_more, first_whole}
use Rattle.ipc_compact.proofs.saying.first_space.Goals as goal

pub loop-place-preserved : goal.loop-place-preserved
loop-place-preserved c =
    let l = c.loop-place in
    first_more (space_in c.args.thread) c.args.held.now l.place c.index-held-place.result l.found c.space.result c.or-found.result c.loop-place-test.true c.index-held-place.is l.invariant c.space.ensures c.or-found.ensures

pub returns : goal.returns
returns c = first_whole (space_in c.args.thread) c.args.held.now c.loop-place.place c.loop-place.found c.loop-place-test.false c.loop-place.invariant

use Rattle.std.proofs.Common.{◌∙◌, arith}
use Rattle.ipc_history.proofs.PlaceLemmas.{place_numbered}
use Rattle.ipc_history.proofs.keeping.number.Goals as goal

pub loop-place-preserved : goal.loop-place-preserved
loop-place-preserved c =
    let loop = c.loop-place in
    let low = loop.auto.place in
    let len = loop.invariant.len in
    let one = c.push_reserved.ensures.len in
    record {
      items = place_numbered _ _ _ c.args.from loop.place low loop.invariant.items c.push_reserved.ensures.items;
      len = omega (arith, low, len, one);
      capacity = c.push_reserved.ensures.capacity ∙ loop.invariant.capacity;
    }

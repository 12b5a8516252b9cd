use Rattle.std.proofs.Common.{arith}
use Rattle.ipc_frame.proofs.DecodeLemmas.{word_step}
use Rattle.ipc_frame.proofs.cutting.read_words.Goals as goal

pub loop-index-preserved : goal.loop-index-preserved
loop-index-preserved g c = record {
  all = word_step c.args.count c.loop-index.index _ c.loop-index.words.items _ c.loop-index.rest.now _ _ c.loop-index-test.true c.split_u64-word.ensures.number c.split_u64-word.ensures.behind c.in-Ok.ensures.items c.loop-index.invariant.all;
  there = omega (arith, c.loop-index.invariant.there, c.split_u64-word.ensures.left);
}

use Rattle.std.proofs.Common.{◌∙◌}
use Rattle.std.proofs.lemmas.Grind.{get_or_default_zero}
use Rattle.ipc_exchange.proofs.DueLemmas.{all_marked, one_marked}
use Rattle.ipc_exchange.proofs.due.mark_all.Goals as goal

pub loop-thread-preserved : goal.loop-thread-preserved
loop-thread-preserved c = record {
  long = c.mark.ensures.long ∙ c.loop-thread.invariant.long;
  marked = one_marked c.args.threads.now c.loop-thread.thread-index c.thread-item.result c.args.due.now.items c.loop-thread.due.items c.mark.new.due.items
      (c.thread-item.is ∙ get_or_default_zero c.args.threads.now c.loop-thread.thread-index c.thread-item.result c.loop-thread-test.true)
      c.loop-thread.invariant.long c.loop-thread.invariant.marked c.mark.ensures.marked c.mark.ensures.kept;
  kept = λ number e. c.mark.ensures.kept number (c.loop-thread.invariant.kept number e);
}

pub returns-clause-marked : goal.returns-clause-marked
returns-clause-marked c = all_marked c.args.threads.now c.loop-thread.thread-index c.args.due.now.items c.loop-thread.due.items c.loop-thread-test.false c.loop-thread.invariant.marked

use Rattle.std.proofs.Common.{sym, ap, ◌∙◌, ◌++◌, ◌∷◌, []}
use Rattle.ipc_threads.proofs.Walks.{walk_on, walk_start}
use Rattle.l4sh_state.proofs.Walks.{fault_at}
use Rattle.l4sh_look.proofs.Told.{told_more, told_start}
use Rattle.l4sh_look.proofs.walk.counts_of.Goals as goal

pub returns-then-not-follows-clause-fault : goal.returns-then-not-follows-clause-fault
returns-then-not-follows-clause-fault c =
    let l = c.loop-index in
    let e = c.index-entries-index in
    let was = l.invariant.walked in
    fault_at c.args.entries.now l.slots.past l.index e.result c.loop-index-test.true e.is was.told was.legal c.if-not-follows.ensures.no

pub loop-index-init : goal.loop-index-init
loop-index-init c = record {
  walked = walk_start c.args.entries.now c.new-past.result c.new-slots.result c.new-past.ensures c.new-slots.ensures;
  counted = told_start c.args.entries.now c.new-counts.result c.new-counts.ensures;
}

pub loop-index-preserved : goal.loop-index-preserved
loop-index-preserved c =
    let l = c.loop-index in
    let e = c.index-entries-index in
    let was = l.invariant.walked in
    let H = c.args.entries.now in
    let added = c.add-in-loop-index.ensures ∙ ap (λ p. p ++ e.result ∷ []) (was.walked ∙ sym was.told) in
    let event = c.event_of-event.ensures c.if-not-follows.ensures.yes in
    record {
      walked = walk_on H l.slots.past l.index e.result c.loop-index-test.true e.is was.told
          c.add-in-loop-index.new.self c.note-in-loop-index.new.self was.legal added c.if-not-follows.ensures.yes c.note-in-loop-index.ensures.past;
      counted = told_more H l.slots.past l.index e.result c.event_of-event.result c.add.new.counts
          c.loop-index-test.true e.is was.told event (c.in-Ok.ensures _ l.invariant.counted);
    }

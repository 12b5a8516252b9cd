use Rattle.std.proofs.Common.{sym, ap, ◌∙◌, ◌++◌, ◌∷◌, []}
use Rattle.ipc_threads.proofs.Walks.{walk_on, walk_start}
use Rattle.ipc_check.proofs.Walks.{fault_at, fault_whole, no_is_not_yes}
use Rattle.ipc_check.proofs.checker.check.Goals as goal

pub loop-index-init : goal.loop-index-init
loop-index-init c = walk_start c.args.entries.now c.new-past.result c.new-slots.result c.new-past.ensures c.new-slots.ensures

pub returns-then-not-follows-clause-no : goal.returns-then-not-follows-clause-no
returns-then-not-follows-clause-no c =
    let l = c.loop-index in
    let e = c.index-entries-index in
    fault_at c.args.entries.now l.slots.past l.index e.result c.loop-index-test.true e.is l.invariant.told
    c.next_output.result l.invariant.legal c.if-not-follows.ensures.no c.next_output.ensures

pub returns-then-not-follows-clause-yes : goal.returns-then-not-follows-clause-yes
returns-then-not-follows-clause-yes c =
    let l = c.loop-index in
    let e = c.index-entries-index in
    let fault = fault_at c.args.entries.now l.slots.past l.index e.result c.loop-index-test.true e.is l.invariant.told
    c.next_output.result l.invariant.legal c.if-not-follows.ensures.no c.next_output.ensures in
    let expected = c.next_output.result in
    ((λ yes. absurd (no_is_not_yes l.index expected yes)), (λ legal. absurd (fault_whole c.args.entries.now l.index expected fault legal)))

pub loop-index-preserved : goal.loop-index-preserved
loop-index-preserved c =
    let l = c.loop-index in
    let e = c.index-entries-index in
    let was = l.invariant in
    let added = c.add.ensures ∙ ap (λ p. p ++ e.result ∷ []) (was.walked ∙ sym was.told) in
    walk_on c.args.entries.now l.slots.past l.index e.result c.loop-index-test.true e.is was.told
    c.add.new.self c.note.new.self was.legal added c.if-not-follows.ensures.yes c.note.ensures.past

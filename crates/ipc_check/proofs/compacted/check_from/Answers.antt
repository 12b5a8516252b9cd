use Rattle.std.proofs.Common.{sym, ap, ◌∙◌, ◌++◌, ◌∷◌, []}
use Rattle.ipc_check.proofs.After.{after_on, after_start, fault_after, fault_all}
use Rattle.ipc_check.proofs.Walks.{no_is_not_yes}
use Rattle.ipc_check.proofs.compacted.check_from.Goals as goal

pub loop-index-init : goal.loop-index-init
loop-index-init g c = after_start c.args.base.now c.args.kept.now g.before c.requires c.args.entries.now c.told-past.result c.slots-slots.result c.told-past.ensures c.slots-slots.ensures

pub returns-then-not-follows-clause-no : goal.returns-then-not-follows-clause-no
returns-then-not-follows-clause-no g c =
    let l = c.loop-index in
    let e = c.index-entries-index in
    fault_after g.before.past c.args.kept.now c.args.entries.now l.slots.past l.index e.result c.loop-index-test.true e.is l.invariant.told
    c.next_output.result l.invariant.legal c.if-not-follows.ensures.no c.next_output.ensures

pub returns-then-not-follows-clause-yes : goal.returns-then-not-follows-clause-yes
returns-then-not-follows-clause-yes g c =
    let l = c.loop-index in
    let e = c.index-entries-index in
    let fault = fault_after g.before.past c.args.kept.now c.args.entries.now l.slots.past l.index e.result c.loop-index-test.true e.is l.invariant.told
    c.next_output.result l.invariant.legal c.if-not-follows.ensures.no c.next_output.ensures in
    let expected = c.next_output.result in
    ((λ yes. absurd (no_is_not_yes l.index expected yes)), (λ legal. absurd (fault_all g.before.past c.args.entries.now l.index expected fault legal)))

pub loop-index-preserved : goal.loop-index-preserved
loop-index-preserved g c =
    let l = c.loop-index in
    let e = c.index-entries-index in
    let was = l.invariant in
    let added = c.add.ensures ∙ ap (λ p. p ++ e.result ∷ []) (was.walked ∙ sym was.told) in
    after_on g.before.past c.args.kept.now c.args.entries.now l.slots.past l.index e.result c.loop-index-test.true e.is was.told
    l.past c.add.new.self l.slots c.note.new.self was added c.if-not-follows.ensures.yes c.note.ensures.past

use Rattle.std.proofs.Common.{◌≡◌, ◌∙◌, sym, not, true, false, rules, arith}
use Rattle.std.proofs.lemmas.Bool.{false_from_ne_true, not-true, not_from_false, true≢false}
use Rattle.std.proofs.lemmas.List.Elements.{All-from_all_within}
use Rattle.std.proofs.lemmas.List.Folds.{list_any_none}
use Rattle.std.proofs.lemmas.List.Sorted.{IsPartitionPoint-from_clause}
use Rattle.ipc_waits.specs.Queues.{comes_before, is_same}
use Rattle.ipc_waits.specs.declared.queue.Wait.{Wait}
use Rattle.ipc_waits.proofs.Orders.{before_before, partitioned, unlike}
use Rattle.ipc_waits.proofs.queue.place_of.Goals as goal

-- what comes before a wait that does not come behind this one does not either
falls : (wait a b : Wait) → comes_before a b ≡ true → not (comes_before wait b) ≡ true → not (comes_before wait a) ≡ true
falls wait a b before after = not_from_false _ (false_from_ne_true _ (λ behind. true≢false (sym (before_before wait a b behind before) ∙ not-true _ after)))

pub loop-index-init : goal.loop-index-init
loop-index-init c k d low high =
    let wait = c.args.wait.now in
    let parted = partitioned (λ w. not (comes_before wait w)) (falls wait) c.args.waits.now c.requires in
    let point = IsPartitionPoint-from_clause (λ w. not (comes_before wait w)) _ _ c.partition_point-begin.ensures.partitioned parted (λ a r q k. search rules) in
    unlike wait _ (not-true _ (point.0 k d low high))

pub returns-clause-none : goal.returns-clause-none
returns-clause-none c =
    list_any_none (is_same c.args.wait.now) c.args.waits.now (All-from_all_within (λ w. is_same c.args.wait.now w ≡ false) c.args.waits.now (λ k d low high. c.loop-index.invariant k d low (omega arith)))

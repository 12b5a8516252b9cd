use Rattle.std.proofs.Common.{◌∙◌, refl, sym, length, rules}
use Rattle.std.proofs.lemmas.List.Sorted.{IsPartitionPoint-from_clause}
use Rattle.ipc_waits.specs.Queues.{comes_before}
use Rattle.ipc_waits.proofs.Orders.{before_before, behind_last, partitioned}
use Rattle.ipc_waits.proofs.queue.place_for.Goals as goal

-- at the end: all come before the last one, and so before it
pub returns-then-comes_before-clause-order : goal.returns-then-comes_before-clause-order
returns-then-comes_before-clause-order c = behind_last c.args.waits.now (length c.args.waits.now) c.args.wait.now _ c.requires refl (sym c.comes_before.ensures ∙ c.if-comes_before.true)

pub returns-clause-order : goal.returns-clause-order
returns-clause-order c =
    let wait = c.args.wait.now in
    let parted = partitioned (λ w. comes_before w wait) (λ a b before passes. before_before a b wait before passes) c.args.waits.now c.requires in
    IsPartitionPoint-from_clause (λ w. comes_before w wait) _ _ c.partition_point.ensures.partitioned parted (λ a r q k. search rules)

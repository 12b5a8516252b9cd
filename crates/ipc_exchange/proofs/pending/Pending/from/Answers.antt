use Rattle.std.proofs.Common.{sym, subst, rules}
use Rattle.std.specs.Prelude.{nat_le}
use Rattle.std.proofs.lemmas.List.Sorted.{IsPartitionPoint-from_clause}
use Rattle.ipc_exchange.specs.Pending.{FallsFrom}
use Rattle.ipc_exchange.proofs.PendingLemmas.{at_least, before_point, behind_point}
use Rattle.ipc_exchange.proofs.pending.Pending.from.Goals as goal

pub returns-clause-before : goal.returns-clause-before
returns-clause-before c =
    let parted = at_least c.self.inside.count c.args.place c.deref.result.now (subst (FallsFrom c.self.inside.count) (sym c.deref.ensures.value) c.self.invariant.0) in
    let point = IsPartitionPoint-from_clause (λ y. nat_le c.args.place y) _ _ c.partition_point.ensures.partitioned parted (λ a r q k. search rules) in
    rw (← c.self.view_is, ← c.deref.ensures.value) (before_point c.args.place c.deref.result.now c.partition_point.result c.partition_point.ensures.bound point)

pub returns-clause-behind : goal.returns-clause-behind
returns-clause-behind c =
    let parted = at_least c.self.inside.count c.args.place c.deref.result.now (subst (FallsFrom c.self.inside.count) (sym c.deref.ensures.value) c.self.invariant.0) in
    let point = IsPartitionPoint-from_clause (λ y. nat_le c.args.place y) _ _ c.partition_point.ensures.partitioned parted (λ a r q k. search rules) in
    rw (← c.self.view_is, ← c.deref.ensures.value) (behind_point c.args.place c.deref.result.now c.partition_point.result point)

use Rattle.std.proofs.Common.{◌≡◌, ℕ, ◌-◌, ◌≤◌, subst, length, true, leb, leb-true, arith, rules}
use Rattle.std.proofs.lemmas.Bool.{le-leb}
use Rattle.std.proofs.lemmas.List.{get_or_default}
use Rattle.std.proofs.lemmas.List.Sorted.{IsPartitionPoint-from_clause}
use Rattle.ipc_waits.specs.Queues.{comes_before}
use Rattle.ipc_waits.specs.declared.queue.Wait.{Wait}
use Rattle.ipc_waits.proofs.Orders.{key_rises, partitioned}
use Rattle.ipc_waits.proofs.Parts.{front_is}
use Rattle.ipc_waits.proofs.queue.end_of.Goals as goal

falls : (key : ℕ) (a b : Wait) → comes_before a b ≡ true → leb b.key key ≡ true → leb a.key key ≡ true
falls key a b before less = (let rises = key_rises a b before in let below = leb-true b.key key less in le-leb a.key key (omega arith))

-- behind the last one: none has a greater key
pub returns-then-waits-len-clause-front : goal.returns-then-waits-len-clause-front
returns-then-waits-len-clause-front c =
    let moment = c.args.moment in
    let ws = c.args.waits.now in
    let some = c.if-len-gt0.true in
    let last = length ws - 1 in
    front_is (λ w. leb w.key moment) ws (length ws)
    (λ k d low high. partitioned (λ w. leb w.key moment) (falls moment) ws c.requires k last d (omega arith) (omega (arith, some))
    (le-leb _ _ (subst (λ w. w.key ≤ moment) (get_or_default ws last _ d (omega (arith, some))) c.if-waits-len.true)))
    (λ k d low high. absurd (omega arith))
    (omega arith)

pub returns-clause-front : goal.returns-clause-front
returns-clause-front c =
    let moment = c.args.moment in
    let parted = partitioned (λ w. leb w.key moment) (falls moment) c.args.waits.now c.requires in
    let point = IsPartitionPoint-from_clause (λ w. leb w.key moment) _ _ c.partition_point.ensures.partitioned parted (λ a r q k. search rules) in
    front_is (λ w. leb w.key moment) c.args.waits.now c.partition_point.result point.0 point.1 c.partition_point.ensures.bound

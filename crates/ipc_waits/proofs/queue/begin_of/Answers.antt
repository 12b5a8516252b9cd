use Rattle.std.proofs.Common.{◌≡◌, ℕ, true, leb, ltb, ltb-true, arith, rules}
use Rattle.std.proofs.lemmas.Bool.{le-leb, lt-leb, lt-ltb, ltb-false}
use Rattle.std.proofs.lemmas.List.Sorted.{IsPartitionPoint-from_clause}
use Rattle.ipc_waits.specs.Queues.{comes_before}
use Rattle.ipc_waits.specs.declared.queue.Wait.{Wait}
use Rattle.ipc_waits.proofs.Orders.{first_least, key_rises, partitioned}
use Rattle.ipc_waits.proofs.Parts.{rest_is}
use Rattle.ipc_waits.proofs.queue.begin_of.Goals as goal

falls : (key : ℕ) (a b : Wait) → comes_before a b ≡ true → ltb b.key key ≡ true → ltb a.key key ≡ true
falls key a b before less = (let rises = key_rises a b before in let below = ltb-true b.key key less in lt-ltb a.key key (omega arith))

-- at the first one: none has a lesser key
pub returns-then-key-waits-clause-rest : goal.returns-then-key-waits-clause-rest
returns-then-key-waits-clause-rest c =
    let ws = c.args.waits.now in
    let first = c.if-key-waits.true in
    rest_is (λ w. leb c.args.key w.key) ws 0
    (λ k d low high. absurd (omega arith))
    (λ k d low high. le-leb _ _ (let least = first_least ws k d (record { key = 0; number = 0; place = 0 }) c.requires high in omega (arith, first, least)))
    (omega arith)

pub returns-clause-rest : goal.returns-clause-rest
returns-clause-rest c =
    let key = c.args.key in
    let parted = partitioned (λ w. ltb w.key key) (falls key) c.args.waits.now c.requires in
    let point = IsPartitionPoint-from_clause (λ w. ltb w.key key) _ _ c.partition_point.ensures.partitioned parted (λ a r q k. search rules) in
    rest_is (λ w. leb key w.key) c.args.waits.now c.partition_point.result
    (λ k d low high. lt-leb _ _ (ltb-true _ _ (point.0 k d low high)))
    (λ k d low high. le-leb _ _ (ltb-false _ _ (point.1 k d low high)))
    c.partition_point.ensures.bound

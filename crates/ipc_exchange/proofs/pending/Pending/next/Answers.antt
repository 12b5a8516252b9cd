use Rattle.std.proofs.Common.{◌<◌, ◌≤◌, ◌-◌, length, arith}
use Rattle.ipc_exchange.proofs.PendingLemmas.{falls_below, least_among, none_among, read_zero}
use Rattle.ipc_exchange.proofs.pending.Pending.next.Goals as goal

pub returns-then-at-eq0-clause-none : goal.returns-then-at-eq0-clause-none
returns-then-at-eq0-clause-none c = λ _. none_among c.args.from c.args.self.now.places c.from-at.result c.if-at-eq0.true c.from-at.ensures.behind

pub returns-else-at-eq0-clause-some : goal.returns-else-at-eq0-clause-some
returns-else-at-eq0-clause-some c =
    let some : 0 < c.from-at.result = omega (arith, c.if-at-eq0.false) in
    let most : c.from-at.result ≤ length c.self.inside.places.items = rw (← c.self.view_is) at c.from-at.ensures.within in
    let read = read_zero c.self.inside.places.items (c.from-at.result - 1) c.index.result.now (omega (arith, most, some)) c.index.ensures in
    let before = rw (← c.self.view_is) at (c.from-at.ensures.before (c.from-at.result - 1) (omega (arith, some))) in
    let less = falls_below c.self.inside.count c.self.inside.places.items (c.from-at.result - 1) c.self.invariant.0 (omega (arith, most, some)) in
    rw (← c.self.view_is) (omega (arith, read, before), omega (arith, read, less))

pub returns-else-at-eq0-clause-first : goal.returns-else-at-eq0-clause-first
returns-else-at-eq0-clause-first c =
    let some : 0 < c.from-at.result = omega (arith, c.if-at-eq0.false) in
    let most : c.from-at.result ≤ length c.self.inside.places.items = rw (← c.self.view_is) at c.from-at.ensures.within in
    let read = read_zero c.self.inside.places.items (c.from-at.result - 1) c.index.result.now (omega (arith, most, some)) c.index.ensures in
    let behind = rw (← c.self.view_is) at c.from-at.ensures.behind in
    rw (← c.self.view_is) (λ other least among. (let first = least_among c.self.inside.count c.args.from c.self.inside.places.items c.from-at.result c.self.invariant.0 some most behind other least among in omega (arith, first, read)))

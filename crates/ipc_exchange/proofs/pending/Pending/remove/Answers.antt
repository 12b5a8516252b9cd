use Rattle.std.proofs.Common.{◌≤◌, ◌-◌, length, sym, ◌∙◌, arith}
use Rattle.ipc_exchange.proofs.PendingLemmas.{among_left, falls_remove, read_zero}
use Rattle.ipc_exchange.proofs.pending.Pending.remove.Goals as goal

pub invariant_of-self : goal.invariant_of-self
invariant_of-self c = (rw c.remove.ensures.items (falls_remove c.self.inside.count c.self.inside.places.items (c.from-at.result - 1) c.self.invariant.0), omega (arith, c.self.invariant.1, c.remove.ensures.capacity))

pub returns-then-index-place-clause-kept : goal.returns-then-index-place-clause-kept
returns-then-index-place-clause-kept c =
    let most : c.from-at.result ≤ length c.self.inside.places.items = rw (← c.self.view_is) at c.from-at.ensures.within in
    let read = read_zero c.self.inside.places.items (c.from-at.result - 1) c.index.result.now (omega (arith, most, c.if-at-gt0.true)) c.index.ensures in
    rw (← c.self.view_is) (λ other among apart. rw c.remove.ensures.items (among_left c.self.inside.places.items (c.from-at.result - 1) other among (λ same. apart (sym same ∙ (read ∙ c.if-index-place.true)))))

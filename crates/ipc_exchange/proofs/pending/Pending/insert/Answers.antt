use Rattle.std.proofs.Common.{◌≢◌, ◌<◌, ◌≤◌, ◌-◌, length, arith}
use Rattle.std.specs.Prelude.{slice_index_or}
use Rattle.ipc_exchange.proofs.PendingLemmas.{absent_by, found_here, inserted_falls, inserted_here, inserted_kept, new_fits}
use Rattle.ipc_exchange.proofs.pending.Pending.insert.Goals as goal
use Rattle.ipc_exchange.proofs.pending.Pending.insert.Goals.{else-at-gt0-via-then-at-gt0+else-index-place, else-at-gt0-via-else-at-gt0}

within : (c : goal.After-insert) → c.from-at.result ≤ length c.self.inside.places.items
within c = rw (← c.self.view_is) at c.from-at.ensures.within

absent : (c : goal.After-insert) → ◌<◌ 0 c.from-at.result → slice_index_or c.self.inside.places.items (c.from-at.result - 1) 0 ≢ c.args.place
absent c some = elim c.else-at-gt0.branch [
  | else-at-gt0-via-then-at-gt0+else-index-place w ↦ (let most = within c in absent_by c.self.inside.places.items c.from-at.result w.index.result.now c.args.place (omega (arith, most, some)) w.index.ensures w.if-index-place.false some)
  | else-at-gt0-via-else-at-gt0 w ↦ absurd (omega (arith, some, w.if-at-gt0.false))
]

pub returns-then-index-place-clause-here : goal.returns-then-index-place-clause-here
returns-then-index-place-clause-here c =
    let most : c.from-at.result ≤ length c.self.inside.places.items = rw (← c.self.view_is) at c.from-at.ensures.within in
    rw (← c.self.view_is) (found_here c.self.inside.places.items (c.from-at.result - 1) c.index.result.now c.args.place (omega (arith, most, c.if-at-gt0.true)) c.index.ensures c.if-index-place.true)

pub invariant_of-self : goal.invariant_of-self
invariant_of-self c =
    let under = rw (← c.self.view_is) at c.requires in
    let before = rw (← c.self.view_is) at c.from-at.ensures.before in
    let behind = rw (← c.self.view_is) at c.from-at.ensures.behind in
    let fits = new_fits c.self.inside.count c.self.inside.places.items c.from-at.result c.args.place c.self.invariant.0 under (within c) before behind (absent c) _ c.self.invariant.1 in
    (inserted_falls c.self.inside.count c.self.inside.places.items c.from-at.result c.args.place c.self.invariant.0 under (within c) before behind (absent c) c.insert.result c.insert.new.self.items c.insert.ensures.items (c.insert.ensures.succeeds (omega (arith, fits, c.self.inside.places.ok))), omega (arith, c.self.invariant.1, c.insert.ensures.capacity))

pub returns-clause-here : goal.returns-clause-here
returns-clause-here c =
    let under = rw (← c.self.view_is) at c.requires in
    let before = rw (← c.self.view_is) at c.from-at.ensures.before in
    let behind = rw (← c.self.view_is) at c.from-at.ensures.behind in
    let fits = new_fits c.self.inside.count c.self.inside.places.items c.from-at.result c.args.place c.self.invariant.0 under (within c) before behind (absent c) _ c.self.invariant.1 in
    inserted_here c.self.inside.count c.self.inside.places.items c.from-at.result c.args.place c.self.invariant.0 under (within c) before behind (absent c) c.insert.result c.insert.new.self.items c.insert.ensures.items (c.insert.ensures.succeeds (omega (arith, fits, c.self.inside.places.ok)))

pub returns-clause-kept : goal.returns-clause-kept
returns-clause-kept c =
    let under = rw (← c.self.view_is) at c.requires in
    let before = rw (← c.self.view_is) at c.from-at.ensures.before in
    let behind = rw (← c.self.view_is) at c.from-at.ensures.behind in
    let fits = new_fits c.self.inside.count c.self.inside.places.items c.from-at.result c.args.place c.self.invariant.0 under (within c) before behind (absent c) _ c.self.invariant.1 in
    rw (← c.self.view_is) (inserted_kept c.self.inside.count c.self.inside.places.items c.from-at.result c.args.place c.self.invariant.0 under (within c) before behind (absent c) c.insert.result c.insert.new.self.items c.insert.ensures.items (c.insert.ensures.succeeds (omega (arith, fits, c.self.inside.places.ok))))

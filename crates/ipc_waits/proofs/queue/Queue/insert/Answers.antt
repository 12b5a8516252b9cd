use Rattle.std.proofs.Common.{◌≡◌, ◌∙◌, ap, subst, sym, true, false, ◌||◌, ◌≤◌, length, arith}
use Rattle.std.specs.List.Sorted.{IsPartitionPoint}
use Rattle.ipc_waits.specs.Queues.{IsQueue, comes_before, is_in, is_placed, is_same}
use Rattle.ipc_waits.proofs.Distinct.{room}
use Rattle.ipc_waits.proofs.Edits.{in_inserted, queue_with}
use Rattle.ipc_waits.proofs.queue.Queue.insert.Goals as goal

pub insert-requires-clause-within : goal.insert-requires-clause-within
insert-requires-clause-within c = subst (λ l. c.place_for-place.result ≤ length l) c.as_slice.ensures.value c.place_for-place.ensures.within

pub insert-requires-clause-room : goal.insert-requires-clause-room
insert-requires-clause-room c =
    let wait = c.args.wait in
    let few = room c.self.inside.waits.items wait c.self.invariant.0 c.requires.within (ap (λ l. is_placed l wait.place) c.self.view_is ∙ c.requires.fresh) in
    omega (arith, few, c.self.invariant.1)

pub invariant_of-self : goal.invariant_of-self
invariant_of-self c =
    let wait = c.args.wait in
    let place = c.place_for-place.result in
    let fresh = ap (λ l. is_placed l wait.place) c.self.view_is ∙ c.requires.fresh in
    let fits = subst (λ l. place ≤ length l) c.as_slice.ensures.value c.place_for-place.ensures.within in
    let point = subst (λ l. IsPartitionPoint (λ w. comes_before w wait ≡ true) (λ w. comes_before w wait ≡ false) l place) c.as_slice.ensures.value c.place_for-place.ensures.order in
    (subst IsQueue (sym c.insert.ensures.items) (queue_with c.self.inside.waits.items wait place point fits c.self.invariant.0 c.requires.within fresh), omega (arith, c.self.invariant.1, c.insert.ensures.capacity))

pub returns : goal.returns
returns c w =
    ap (λ l. is_in l w) c.insert.ensures.items ∙ in_inserted c.self.inside.waits.items c.place_for-place.result c.args.wait w
    ∙ ap (λ l. is_in l w || is_same w c.args.wait) c.self.view_is

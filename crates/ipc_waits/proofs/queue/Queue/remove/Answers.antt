use Rattle.std.proofs.Common.{◌≡◌, ◌∙◌, ap, subst, sym, ◌&&◌, not, ◌<◌, length, slice_index_or, arith}
use Rattle.ipc_waits.specs.Queues.{IsQueue, is_in, is_same}
use Rattle.ipc_waits.proofs.Edits.{in_removed, queue_without}
use Rattle.ipc_waits.proofs.queue.Queue.remove.Goals as goal

pub invariant_of-self : goal.invariant_of-self
invariant_of-self c =
    let found = c.in-Some.ensures.found in
    let within = subst (λ l. c.in-Some.index < length l) c.as_slice.ensures.value found.0 in
    let is = subst (λ l. slice_index_or l c.in-Some.index c.args.wait ≡ c.args.wait) c.as_slice.ensures.value found.1 in
    (subst IsQueue (sym c.remove.ensures.items) (queue_without c.self.inside.waits.items c.in-Some.index c.args.wait within is c.self.invariant.0), omega (arith, c.self.invariant.1, c.remove.ensures.capacity))

pub returns-in-Some : goal.returns-in-Some
returns-in-Some c w =
    let found = c.in-Some.ensures.found in
    let within = subst (λ l. c.in-Some.index < length l) c.as_slice.ensures.value found.0 in
    let is = subst (λ l. slice_index_or l c.in-Some.index c.args.wait ≡ c.args.wait) c.as_slice.ensures.value found.1 in
    ap (λ l. is_in l w) c.remove.ensures.items ∙ in_removed c.self.inside.waits.items c.in-Some.index c.args.wait within is c.self.invariant.0 w
    ∙ ap (λ l. is_in l w && not (is_same w c.args.wait)) c.self.view_is

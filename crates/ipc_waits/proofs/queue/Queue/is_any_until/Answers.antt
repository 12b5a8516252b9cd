use Rattle.std.proofs.Common.{◌∙◌, ap, nat_le, slice_get}
use Rattle.std.specs.List.{list_any}
use Rattle.ipc_waits.proofs.Parts.{due_first}
use Rattle.ipc_waits.proofs.queue.Queue.is_any_until.Goals as goal

pub returns-in-Some : goal.returns-in-Some
returns-in-Some c =
    let first = c.in-Some.ensures.value ∙ ap (λ l. slice_get l 0) c.as_slice.ensures.value in
    due_first c.args.moment c.self.inside.waits.items c.in-Some.wait.now c.self.invariant.0.ordered first
    ∙ ap (list_any (λ w. nat_le w.key c.args.moment)) c.self.view_is

use Rattle.std.proofs.Common.{ap, arith, length}
use Rattle.ipc_history.proofs.HoldingLemmas.{pushed}
use Rattle.ipc_history.proofs.PlaceLemmas.{placed_push}
use Rattle.ipc_history.proofs.history.History.push.Goals as goal

pub invariant_of-self : goal.invariant_of-self
invariant_of-self c =
    let held = c.self.invariant.held in
    let room = c.requires in
    let size = held.size in
    let entries = ap (λ h. length h.entries) c.self.view_is in
    let room_is = ap (λ h. h.room) c.self.view_is in
    rw (c.add.ensures, c.push_reserved.ensures.items, c.push_reserved.ensures.capacity) (record {
      held = pushed _ _ _ _ held c.args.entry;
      placed = placed_push _ _ _ _ _ _ _ _ held c.self.invariant.placed c.args.entry (omega (arith, room, size, entries, room_is));
    })

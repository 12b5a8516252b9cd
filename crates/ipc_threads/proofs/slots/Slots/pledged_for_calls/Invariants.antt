use Rattle.std.proofs.Common.{◌≡◌, ◌≤◌, ◌*◌, ◌^◌}
use Rattle.ipc_threads.specs.Pledges.{pledge_in}
use Rattle.ipc_threads.specs.Slots.{slot_at}
use Rattle.ipc_threads.proofs.SlotSums.{sum_below}
use Rattle.ipc_threads.proofs.slots.Slots.pledged_for_calls.Given as goal

abbrev pub invariant-loop-place : goal.invariant-loop-place
invariant-loop-place l = (l.total ≡ sum_below (λ k. pledge_in (slot_at l.kept.table k)) l.place) × (l.total ≤ l.place * 2 ^ 64)

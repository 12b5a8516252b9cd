use Rattle.std.proofs.Common.{◌≡◌, ◌≤◌}
use Rattle.ipc_threads.specs.Pledges.{open_in}
use Rattle.ipc_threads.specs.Slots.{slot_at}
use Rattle.ipc_threads.proofs.SlotSums.{sum_below}
use Rattle.ipc_threads.proofs.slots.Slots.open_calls.Given as goal

abbrev pub invariant-loop-place : goal.invariant-loop-place
invariant-loop-place l = (l.total ≡ sum_below (λ k. open_in (slot_at l.kept.table k)) l.place) × (l.total ≤ l.place)

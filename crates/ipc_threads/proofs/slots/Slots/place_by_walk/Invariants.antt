use Rattle.std.proofs.Common.{◌≡◌, ℕ, ◌<◌, false}
use Rattle.ipc_threads.specs.Slots.{slot_at}
use Rattle.ipc_threads.specs.Steps.{holds}
use Rattle.ipc_threads.proofs.slots.Slots.place_by_walk.Given as goal

abbrev pub invariant-loop-place : goal.invariant-loop-place
invariant-loop-place l = (k : ℕ) → k < l.place → holds (slot_at l.kept.table k) l.number ≡ false

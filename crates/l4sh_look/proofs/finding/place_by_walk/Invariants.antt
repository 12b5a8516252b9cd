use Rattle.std.proofs.Common.{◌<◌, ℕ}
use Rattle.std.specs.Prelude.{IsFalse}
use Rattle.ipc_threads.specs.Slots.{slot_at}
use Rattle.ipc_threads.specs.Steps.{holds}
use Rattle.l4sh_look.proofs.finding.place_by_walk.Given as goal

abbrev pub invariant-loop-place : goal.invariant-loop-place
invariant-loop-place l = (k : ℕ) → k < l.place → IsFalse (holds (slot_at l.slots.kept.table k) l.number)

use Rattle.std.proofs.Common.{◌≡◌, ◌<◌, ℕ, slice_index_or, false}
use Rattle.ipc_history.specs.Entries.{calls}
use Rattle.ipc_history.specs.declared.entry.Entry.{Entry}
use Rattle.ipc_history.proofs.entries.place_by_walk.Given as goal

-- no entry before the place enters the call
abbrev pub invariant-loop-place : goal.invariant-loop-place
invariant-loop-place l = (k : ℕ) → k < l.place → (d : Entry) → calls l.number (slice_index_or l.held k d) ≡ false

use Rattle.std.proofs.Common.{◌≡◌, ◌<◌, ℕ, slice_index_or, false}
use Rattle.ipc_history.specs.Entries.{calls}
use Rattle.ipc_history.specs.declared.entry.Entry.{Entry}
use Rattle.ipc_compact.proofs.saying.before_call.Given as goal

-- no entry before the place passes
abbrev pub invariant-loop-place : goal.invariant-loop-place
invariant-loop-place l = (k : ℕ) → k < l.place → (d : Entry) → calls l.number (slice_index_or l.held k d) ≡ false

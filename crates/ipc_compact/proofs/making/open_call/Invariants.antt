use Rattle.std.proofs.Common.{◌≡◌, ◌<◌, ℕ, slice_index_or, None}
use Rattle.ipc_history.specs.declared.entry.Entry.{Entry}
use Rattle.ipc_compact.specs.Making.{open_in}
use Rattle.ipc_compact.proofs.making.open_call.Given as goal

-- no entry before the place enters it
abbrev pub invariant-loop-place : goal.invariant-loop-place
invariant-loop-place l = (k : ℕ) → k < l.place → (d : Entry) → open_in l.held l.over l.thread (slice_index_or l.held k d) ≡ None

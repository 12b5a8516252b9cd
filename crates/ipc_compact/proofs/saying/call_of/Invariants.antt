use Rattle.std.proofs.Common.{◌≡◌, ◌<◌, ℕ, slice_index_or, None}
use Rattle.ipc_history.specs.Entries.{call_in}
use Rattle.ipc_history.specs.declared.entry.Entry.{Entry}
use Rattle.ipc_compact.proofs.saying.call_of.Given as goal

-- no entry before the place enters the call
abbrev pub invariant-loop-place : goal.invariant-loop-place
invariant-loop-place l = (k : ℕ) → k < l.place → (d : Entry) → call_in l.number (slice_index_or l.held k d) ≡ None

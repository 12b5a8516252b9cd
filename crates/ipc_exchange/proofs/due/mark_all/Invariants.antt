-- The threads so far are marked.
use Rattle.std.proofs.Common.{◌≡◌, ◌<◌, ℕ, true, length}
use Rattle.std.specs.Prelude.{slice_index_or}
use Rattle.ipc_words.specs.ThreadId.{number_of}
use Rattle.ipc_exchange.specs.Due.{is_marked}
use Rattle.ipc_exchange.proofs.due.mark_all.Given as goal

abbrev pub invariant-loop-thread : goal.invariant-loop-thread
invariant-loop-thread l = record {
  long : length l.due.items ≡ length l.fn.due.items;
  marked : (k : ℕ) → k < l.thread-index → number_of (slice_index_or l.threads k 0) < length l.fn.due.items → is_marked l.due.items (number_of (slice_index_or l.threads k 0)) ≡ true;
  kept : (number : ℕ) → is_marked l.fn.due.items number ≡ true → is_marked l.due.items number ≡ true;
}

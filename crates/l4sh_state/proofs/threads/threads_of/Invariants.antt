use Rattle.std.proofs.Common.{◌≡◌, ℕ, ◌<◌, length, get_or, None}
use Rattle.ipc_words.specs.Limits.{table_slots}
use Rattle.ipc_threads.specs.Slots.{slot_of}
use Rattle.l4sh_state.proofs.threads.threads_of.Given as goal

abbrev pub invariant-loop-place : goal.invariant-loop-place
invariant-loop-place l =
    (length l.threads ≡ table_slots) × ((k : ℕ) → k < l.place → get_or l.threads k None ≡ (slot_of l.slots.past k).live)

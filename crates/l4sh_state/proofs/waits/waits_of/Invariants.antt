use Rattle.std.proofs.Common.{◌≡◌, ℕ, ◌<◌, length, get_or, None}
use Rattle.ipc_words.specs.Limits.{table_slots}
use Rattle.l4sh_state.specs.WaitsFor.{waits_at}
use Rattle.l4sh_state.proofs.waits.waits_of.Given as goal

abbrev pub invariant-loop-place : goal.invariant-loop-place
invariant-loop-place l =
    (length l.waits ≡ table_slots) × ((k : ℕ) → k < l.place → get_or l.waits k None ≡ waits_at l.threads k)

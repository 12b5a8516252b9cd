use Rattle.std.proofs.Common.{◌≡◌, ℕ, ◌<◌, length, get_or}
use Rattle.l4sh_state.specs.declared.courses.Course.TheVariants.{Ends}
use Rattle.l4sh_state.specs.Waits.{IsCourse, places}
use Rattle.l4sh_state.proofs.telling.courses_of.Given as goal

abbrev pub invariant-loop-place : goal.invariant-loop-place
invariant-loop-place l =
    (length l.courses ≡ places) × ((k : ℕ) → k < l.place → IsCourse l.waits k (get_or l.courses k Ends))

use Rattle.std.proofs.Common.{◌≡◌, ℕ, ◌<◌, get_or}
use Rattle.l4sh_state.specs.declared.courses.Course.TheVariants.{Ends, Returns}
use Rattle.l4sh_state.proofs.telling.first_circle.Given as goal

abbrev pub invariant-loop-place : goal.invariant-loop-place
invariant-loop-place l = (k : ℕ) → k < l.place → (n : ℕ) → get_or l.courses k Ends ≡ Returns n → ⊥

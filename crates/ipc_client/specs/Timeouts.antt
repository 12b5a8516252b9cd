-- How long a phase may wait (L4 X.2 manual, time).
use Rattle.std.specs.Prelude.{◌≡◌, ℕ, ◌≤◌, ◌<◌, ◌^◌, Some, IfSome}
use Rattle.ipc_words.specs.Time.{span}

-- a period is not shorter than so many microseconds, and no other that is not shorter is less;
-- never, where none is so long
pub record IsLeastPeriod (micros period : ℕ) : Type 0 where
  pub long : IfSome (span period) (λ own. micros ≤ own)
  pub least : (other long : ℕ) → other < 2 ^ 15 → span other ≡ Some long → micros ≤ long
      → (own : ℕ) × (span period ≡ Some own) × (own ≤ long)

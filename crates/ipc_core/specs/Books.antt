-- The books of a kernel: which outcomes were taken.
use Rattle.std.specs.Prelude.{◌≡◌, ℕ, ◌≤◌, List, ◌==◌, length, All}
use Rattle.std.specs.List.{IsDistinct}
use Rattle.ipc_history.specs.declared.entry.Entry.{Entry}
pub use Rattle.ipc_compact.specs.Kept.{TookOthers}
use Rattle.ipc_core.specs.Outcomes.{IsTaken}

-- each call that was taken was made and is over, and none was taken twice; of each thread every
-- call but its last was taken
pub record AreBooks (H : List Entry) (taken : List ℕ) (since : ℕ) : Type 0 where
  pub taken_are : All (IsTaken H) taken
  pub once : IsDistinct (λ a b. a == b) taken
  pub begun : since ≤ length H
  pub others : TookOthers H taken

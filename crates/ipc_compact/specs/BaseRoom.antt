-- Room for a base.
use Rattle.std.specs.Prelude.{ℕ, ◌*◌, ◌≤◌, List, []}
use Rattle.ipc_words.specs.Limits.{table_slots}

-- what was written of a base: by thread numbers from 0 on the last version and how many calls were
-- dropped; and calls that count as over
pub record BaseParts : Type 0 where
  pub versions : List ℕ
  pub dropped : List ℕ
  pub over : List ℕ

abbrev pub nothing_written : BaseParts
nothing_written = record { versions = []; dropped = []; over = [] }

-- each kept call met at most two others, and a thread has at most one
abbrev pub most_over : ℕ
most_over = 2 * table_slots

-- the capacities are enough for every base
pub record HasBaseRoom (versions dropped over : ℕ) : Type 0 where
  pub versions_fit : table_slots ≤ versions
  pub dropped_fit : table_slots ≤ dropped
  pub over_fit : most_over ≤ over

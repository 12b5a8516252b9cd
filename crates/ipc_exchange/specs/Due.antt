-- Which thread numbers may have an outcome to take.
use Rattle.std.specs.Prelude.{◌≡◌, ℕ, ◌<◌, List, Bool, false, length, slice_index_or, None}
use Rattle.ipc_words.specs.Limits.{table_slots}
use Rattle.ipc_words.specs.ThreadId.{number_of}
use Rattle.ipc_core.specs.KernelParts.{KernelParts}
use Rattle.ipc_core.specs.Laws.{IsSound}
use Rattle.ipc_core.specs.Outcomes.{outcome_to_take}

-- whether a number is marked
abbrev pub is_marked : List Bool → ℕ → Bool
is_marked due number = slice_index_or due number false

-- no thread of the number has an outcome to take
abbrev pub NothingDue : KernelParts → ℕ → Type 0
NothingDue kernel number = (thread : ℕ) → number_of thread ≡ number → outcome_to_take kernel thread ≡ None

-- so of each number that is not marked
pub record AreDue (kernel : KernelParts) (due : List Bool) : Type 0 where
  pub sound : IsSound kernel
  pub long : length due ≡ table_slots
  pub rest : (number : ℕ) → number < table_slots → is_marked due number ≡ false → NothingDue kernel number

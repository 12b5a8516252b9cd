-- What a list of numbers with their last versions restores.
use Rattle.std.specs.Prelude.{◌≡◌, ◌<◌, ℕ, Bool, List, Option, Some, None, not, ◌&&◌, ◌%◌, ◌==◌}
use Rattle.std.specs.Prelude.{find, if◌then◌else◌, is_some, length, option_map}
use Rattle.std.specs.Prelude.{slice_index_or, take, unwrap_or}
use Rattle.ipc_words.specs.Limits.{table_slots}
use Rattle.ipc_threads.specs.Ids.{is_thread_number}
use Rattle.ipc_threads.specs.Threads.{slot_of}
use Rattle.ipc_threads.specs.declared.table.Slot.{Slot}
use Rattle.ipc_threads.specs.declared.refusal.ThreadRefusal.{ThreadRefusal}
use Rattle.ipc_threads.specs.declared.refusal.ThreadRefusal.TheVariants.{BadNumber, NumberTaken}

-- a number of a thread, and a version that a thread may have
abbrev pub is_last_version : ℕ × ℕ → Bool
is_last_version pair = is_thread_number pair.0 && not (pair.1 % 64 == 0)

-- the version that the pairs give a number; none where they do not name it
abbrev pub given : List (ℕ × ℕ) → ℕ → Option ℕ
given pairs number = option_map (λ pair. pair.1) (find (λ pair. pair.0 == number) pairs)

-- the fault of a pair, whose number is taken or not
abbrev pub fault_of : Bool → ℕ × ℕ → Option ThreadRefusal
fault_of is_taken pair =
    if not (is_last_version pair) then Some BadNumber
    else (if is_taken then Some NumberTaken else None)

-- the fault of the k-th pair: its number is taken where an earlier pair names it
abbrev pub fault_at : List (ℕ × ℕ) → ℕ → Option ThreadRefusal
fault_at pairs k =
    let pair = slice_index_or pairs k (0, 0) in
    fault_of (is_some (given (take k pairs) pair.0)) pair

-- the refusal is the fault of a pair, and no earlier pair has one
abbrev pub IsFirstFault : List (ℕ × ℕ) → ThreadRefusal → Type 0
IsFirstFault pairs refusal = (k : ℕ) × (k < length pairs) × (fault_at pairs k ≡ Some refusal)
    × ((j : ℕ) → j < k → fault_at pairs j ≡ None)

-- each number has the version that the pairs give it, 0 where they give none, and no live thread
pub record IsRestoredFrom (pairs : List (ℕ × ℕ)) (table : List Slot) : Type 0 where
  pub size : length table ≡ table_slots
  pub slots : (number : ℕ)
      → slot_of table number ≡ record { last = unwrap_or (given pairs number) 0; space = None }

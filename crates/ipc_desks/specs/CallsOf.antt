-- The calls of one thread: the last one, how many it made, and how many of those had their outcome
-- taken.
use Rattle.std.specs.Prelude.{ℕ, List, Bool, false, not, ◌==◌, Option, None, if◌then◌else◌, count_by, option_and_then}
use Rattle.std.specs.Option.{option_map_or}
pub use Rattle.ipc_history.specs.Entries.{number_by}
pub use Rattle.ipc_history.specs.Words.{is_among}
unfoldable pub use Rattle.ipc_history.specs.Calls.{last_call}
use Rattle.ipc_history.specs.Calls.{caller_of}
use Rattle.ipc_history.specs.Outcomes.{OutcomeParts, outcome_of}
use Rattle.ipc_history.specs.declared.entry.Entry.{Entry}
use Rattle.ipc_history.specs.declared.entry.Entry.TheVariants.{Given}
use Rattle.ipc_history.specs.declared.entry.Input.TheVariants.{Called}

-- an entry by which a thread makes a call
abbrev pub calls_by : ℕ → Entry → Bool
calls_by thread (Given (Called n caller call)) = caller == thread
calls_by thread _ = false

-- how many calls a thread made
unfoldable pub made_by : List Entry → ℕ → ℕ
made_by H thread = count_by (calls_by thread) H

-- how many of the calls whose outcome was taken a thread made
unfoldable pub taken_by : List Entry → List ℕ → ℕ → ℕ
taken_by H taken thread = count_by (λ n. caller_of H n == thread) taken

-- a live thread is busy from its call on until the outcome is taken
unfoldable pub is_busy : List Entry → List ℕ → ℕ → Bool
is_busy H taken thread = option_map_or (λ n. not (is_among n taken)) (last_call H thread) false

-- what a live thread may take: the outcome of its last call, where that was not taken
abbrev pub untaken_outcome : List Entry → List ℕ → ℕ → Option OutcomeParts
untaken_outcome H taken n = (if is_among n taken then None else outcome_of H n)

unfoldable pub outcome_to_take : List Entry → List ℕ → ℕ → Option OutcomeParts
outcome_to_take H taken thread = option_and_then (untaken_outcome H taken) (last_call H thread)

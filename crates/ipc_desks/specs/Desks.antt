-- What is kept for each thread number, so that the outcome of its call can be handed out.
use Rattle.std.specs.Prelude.{◌≡◌, ℕ, ◌+◌, List, length, Bool, not, ◌||◌, ◌==◌, Option, Some, None}
use Rattle.std.specs.Prelude.{option_and_then, if◌then◌else◌, slice_index_or, IsTrue}
use Rattle.std.specs.Option.{option_map_or}
use Rattle.ipc_words.specs.Limits.{table_slots}
use Rattle.ipc_words.specs.ThreadId.{nilthread}
use Rattle.ipc_history.specs.Calls.{is_called, to_of, buffers_of}
use Rattle.ipc_history.specs.Phases.{is_over, is_sent}
use Rattle.ipc_history.specs.Outcomes.{outcome_of}
use Rattle.ipc_history.specs.declared.entry.Entry.{Entry}
pub use Rattle.ipc_laws.specs.Laws.{one_if}
use Rattle.ipc_threads.specs.Slots.{live_of}
use Rattle.ipc_desks.specs.CallsOf.{last_call, made_by, taken_by, is_among, is_busy}
use Rattle.ipc_desks.specs.Messages.{MessageParts, message_of}
use Rattle.ipc_desks.specs.declared.desk.Desk.{Desk}
use Rattle.ipc_desks.specs.declared.desk.Told.{Told}
use Rattle.ipc_desks.specs.declared.desk.Told.TheVariants.{Nothing, Waiting, Ready}

-- the message of n is still to be sent: n is open, has a send phase, and that was not successful
unfoldable pub is_unsent : List Entry → ℕ → Bool
is_unsent H n = not (is_over H n || is_sent H n || (to_of H n == nilthread))

abbrev pub message_at : List Entry → ℕ → Option MessageParts
message_at H n = (if is_unsent H n then Some (message_of H n) else None)

-- what is to be told of n: nothing where it was taken; its outcome; or its buffer strings, while it
-- is open
abbrev pub told_at : List Entry → List ℕ → ℕ → Told
told_at H taken n =
    (if is_among n taken then Nothing
    else (if is_over H n then option_map_or (λ o. Ready o) (outcome_of H n) Nothing else Waiting n (buffers_of H n)))

-- the desk of a number that has no live thread, of a live thread, and of a number
abbrev pub blank_desk : Desk
blank_desk = record { message = None; told = Nothing; made = 0; taken = 0 }

unfoldable pub thread_desk : List Entry → List ℕ → ℕ → Desk
thread_desk H taken thread = record {
  message = option_and_then (message_at H) (last_call H thread);
  told = option_map_or (told_at H taken) (last_call H thread) Nothing;
  made = made_by H thread;
  taken = taken_by H taken thread;
}

unfoldable pub desk_of : List Entry → List ℕ → ℕ → Desk
desk_of H taken k = option_map_or (thread_desk H taken) (live_of H k) blank_desk

-- the desk at a place; a blank one past the end
abbrev pub desk_at : List Desk → ℕ → Desk
desk_at desks k = slice_index_or desks k blank_desk

-- the desks are those of the history, where the outcomes of these calls were taken; only outcomes
-- of calls that were over were taken, and of each thread as many as it made calls, but for the last
-- one where the thread is busy
pub record Keeps (H : List Entry) (taken : List ℕ) (desks : List Desk) : Type 0 where
  pub size : length desks ≡ table_slots
  pub table : (k : ℕ) → desk_at desks k ≡ desk_of H taken k
  pub called : (n : ℕ) → IsTrue (is_among n taken) → IsTrue (is_called H n)
  pub over : (n : ℕ) → IsTrue (is_among n taken) → IsTrue (is_over H n)
  pub counted : (thread : ℕ) → taken_by H taken thread + one_if (is_busy H taken thread) ≡ made_by H thread

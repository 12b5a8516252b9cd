-- What a kernel keeps.
use Rattle.std.specs.Prelude.{◌≡◌, ℕ, ◌+◌, ◌^◌, ◌≤◌, ◌<◌, List, ◌==◌, length, take, false}
use Rattle.std.specs.List.{IsDistinct, list_any}
use Rattle.ipc_words.specs.Limits.{table_slots, last_moment, max_calls, max_entries}
use Rattle.ipc_history.specs.Calls.{numbers}
use Rattle.ipc_history.specs.Threads.{now}
use Rattle.ipc_history.specs.Timing.{is_due_at}
use Rattle.ipc_history.specs.Holding.{held_of}
use Rattle.ipc_history.specs.HistoryParts.{HistoryParts}
use Rattle.ipc_history.specs.Legal.{Legal, Quiet}
use Rattle.ipc_history.specs.declared.entry.Entry.{Entry}
use Rattle.ipc_laws.specs.Counting.{room_owed}
use Rattle.ipc_desks.specs.PastDesks.{PastDesks}
use Rattle.ipc_compact.specs.Places.{WasPlaced}
use Rattle.ipc_compact.specs.PastPartners.{PastPartners}
use Rattle.ipc_waits.specs.Waiting.{IsWaiting}
use Rattle.ipc_waits.specs.declared.waiting.Waiting.{Waiting}
use Rattle.ipc_core.specs.Books.{AreBooks}
use Rattle.ipc_core.specs.CourseParts.{CourseParts, history_of}
use Rattle.ipc_core.specs.Outcomes.{finished_from, is_among}

-- a course: a legal history, who waits in it, desks that are of it, and the threads whose calls the
-- last command finished, each once
pub record IsCourse (H : List Entry) (waiting : Waiting) (desks : PastDesks) (since : ℕ) (finished : List ℕ) (width : ℕ) : Type 0 where
  pub legal : Legal H
  pub waits_in : waiting.slots.past ≡ H
  pub waiting_is : IsWaiting waiting
  pub desks_of : desks.past ≡ H
  pub names : (thread : ℕ) → is_among thread finished ≡ finished_from (take since H) H thread
  pub once : IsDistinct (λ a b. a == b) finished
  pub begun : since ≤ length H
  pub wide : table_slots ≤ width

-- a course, with the calls that met the last ones, and how many outcomes were taken; memory holds
-- all entries of the last command, and of those before a place what a compaction kept
pub record IsHeldCourse (history : HistoryParts) (waiting : Waiting) (desks : PastDesks) (partners : PastPartners) (takes since : ℕ)
    (finished : List ℕ) (width : ℕ) : Type 0 where
  pub course : IsCourse history.entries waiting desks since finished width
  pub front : history.held.whole_from ≤ since
  pub partners_of : partners.past ≡ history.entries
  pub counted : takes ≡ length desks.taken
  pub kept : WasPlaced history.entries desks.taken history.held.front history.held.places history.held.whole_from

-- a kernel's history is legal and quiet, within its limit with all that is owed; its moment is not
-- before the history's, and no phase is due then
pub record Stands (H : List Entry) (limit moment : ℕ) : Type 0 where
  pub legal : Legal H
  pub quiet : Quiet H
  pub within : length H + room_owed H ≤ limit
  pub past : now H ≤ moment
  pub in_range : moment < last_moment + 1
  pub undue : list_any (is_due_at H moment) (numbers H) ≡ false

-- a kernel stands, has room for all that is owed, and its limits are within the greatest: that of
-- entries counts with those that were let go
pub record IsKernel (entries_limit calls_limit moment : ℕ) (course : CourseParts) : Type 0 where
  pub stands : Stands course.entries entries_limit moment
  pub room : length course.entries + room_owed course.entries ≤ course.room
  pub few_entries : entries_limit < 2 ^ 63
  pub few_calls : calls_limit ≤ max_calls

-- a whole kernel: with its books. Its limit of entries is raised by those that were let go, and by
-- no more: so memory never has to hold more than the greatest limit
pub record IsWhole (entries_limit calls_limit moment : ℕ) (course : CourseParts) : Type 0 where
  pub kernel : IsKernel entries_limit calls_limit moment course
  pub books : AreBooks course.entries course.taken course.since
  pub fits : entries_limit + length (held_of (history_of course)) ≤ max_entries + length course.entries

-- Which outcomes are to be taken, how many were, and whose calls the last command finished.
use Rattle.std.specs.Prelude.{ℕ, List, Bool, false, not, ◌&&◌, ◌||◌, Option, None, is_some, if◌then◌else◌, take, IsTrue}
use Rattle.std.specs.Option.{option_map_or}
use Rattle.ipc_history.specs.Calls.{caller_of, is_called}
use Rattle.ipc_history.specs.Threads.{is_live}
use Rattle.ipc_history.specs.Phases.{is_over, open_call}
use Rattle.ipc_history.specs.Outcomes.{OutcomeParts}
use Rattle.ipc_history.specs.declared.entry.Entry.{Entry}
use Rattle.ipc_desks.specs.CallsOf as calls
use Rattle.ipc_desks.specs.CallsOf.{last_call}
pub use Rattle.ipc_desks.specs.CallsOf.{is_among}
use Rattle.ipc_core.specs.KernelParts.{KernelParts}

-- the outcome of a call is still to be taken, once it is over: its caller lives, and it was not
-- taken
unfoldable pub is_untaken : KernelParts → ℕ → Bool
is_untaken kernel n =
    is_called kernel.history n && is_live kernel.history (caller_of kernel.history n) && not (is_among n kernel.taken)

-- the outcome that a thread may take: that of its last call, where the thread is live, the call is
-- over and it was not yet taken
unfoldable pub outcome_to_take : KernelParts → ℕ → Option OutcomeParts
outcome_to_take kernel thread =
    (if is_live kernel.history thread then calls.outcome_to_take kernel.history kernel.taken thread else None)

-- a thread has an outcome to take, or will have: it is live, and the outcome of its last call was
-- not taken
unfoldable pub has_untaken : KernelParts → ℕ → Bool
has_untaken kernel thread = is_live kernel.history thread && calls.is_busy kernel.history kernel.taken thread

-- a thread is busy where it has an open call or an outcome that was not yet taken
unfoldable pub is_busy : KernelParts → ℕ → Bool
is_busy kernel thread = is_some (open_call kernel.history thread) || has_untaken kernel thread

-- how many calls a live thread entered; 0 for a thread that is not live
unfoldable pub made_by : List Entry → ℕ → ℕ
made_by H thread = (if is_live H thread then calls.made_by H thread else 0)

-- how many outcomes a live thread took; 0 for a thread that is not live
unfoldable pub taken_by : KernelParts → ℕ → ℕ
taken_by kernel thread = (if is_live kernel.history thread then calls.taken_by kernel.history kernel.taken thread else 0)

-- the call n was made and is over
abbrev pub is_done : List Entry → ℕ → Bool
is_done P n = is_called P n && is_over P n

-- from P to H the last call of a live thread became over
unfoldable pub finished_from : List Entry → List Entry → ℕ → Bool
finished_from P H thread = is_live H thread && option_map_or (λ n. is_over H n && not (is_done P n)) (last_call H thread) false

-- the last command that was obeyed finished the thread's call
abbrev pub is_finished : KernelParts → ℕ → Bool
is_finished kernel thread = finished_from (take kernel.since kernel.history) kernel.history thread

-- a call that was taken was made, and is over
pub record IsTaken (H : List Entry) (n : ℕ) : Type 0 where
  pub called : IsTrue (is_called H n)
  pub over : IsTrue (is_over H n)

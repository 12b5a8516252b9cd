-- The laws of a kernel.
use Rattle.std.specs.Prelude.{◌≡◌, ℕ, ◌≤◌, List, Bool, false, ◌==◌, Some, None, IsFalse, IsTrue, All, length}
use Rattle.std.specs.List.{IsDistinct}
use Rattle.ipc_history.specs.CallParts.{CallParts}
use Rattle.ipc_history.specs.Legal.{Legal, Quiet}
use Rattle.ipc_history.specs.Outcomes.{OutcomeParts}
use Rattle.ipc_history.specs.Threads.{is_live}
use Rattle.ipc_core.specs.Books.{TookOthers}
use Rattle.ipc_core.specs.KernelParts.{KernelParts, without_room}
use Rattle.ipc_core.specs.Obeying.{MayObey, Runs}
use Rattle.ipc_core.specs.Outcomes.{IsTaken, is_busy, is_finished, outcome_to_take}
use Rattle.ipc_core.specs.declared.command.Answer.{Answer}
use Rattle.ipc_core.specs.Steps.{Enters, taken_after}
use Rattle.ipc_core.specs.declared.command.Command.{Command}
use Rattle.ipc_core.specs.declared.command.Command.TheVariants.{Enter, Take}

-- what is true of a kernel between commands: its history is legal and quiet; each call that was
-- taken was made and is over, and none was taken twice; of each thread every call but its last was
-- taken; and the history has not become shorter
pub record IsSound (kernel : KernelParts) : Type 0 where
  pub legal : Legal kernel.history
  pub quiet : Quiet kernel.history
  pub taken : All (IsTaken kernel.history) kernel.taken
  pub once : IsDistinct (λ a b. a == b) kernel.taken
  pub others : TookOthers kernel.history kernel.taken
  pub since : kernel.since ≤ length kernel.history

-- a command keeps it true
abbrev pub StaysSound : Type 0
StaysSound =
    (old : KernelParts) (command : Command) (answer : Answer) (new : KernelParts)
    → IsSound old → MayObey old command answer new → IsSound new

-- the same commands, each obeyed, have one list of answers and one end, in all that is seen but the
-- room
abbrev pub RunsOnce : Type 0
RunsOnce =
    (old one other : KernelParts) (commands : List Command) (answers others : List Answer)
    → Legal old.history → Runs old commands answers one → Runs old commands others other
    → (answers ≡ others) × (without_room one ≡ without_room other)

-- a thread that is not busy has nothing to take
abbrev pub IdleHasNothing : Type 0
IdleHasNothing = (kernel : KernelParts) (thread : ℕ) → IsFalse (is_busy kernel thread) → outcome_to_take kernel thread ≡ None

-- a command that enters a call of this thread
abbrev pub is_call_of : ℕ → Command → Bool
is_call_of thread (Enter caller call) = caller == thread
is_call_of thread _ = false

-- so one that is not busy is not busy after a command that is no call of it
abbrev pub StaysIdle : Type 0
StaysIdle =
    (old : KernelParts) (command : Command) (answer : Answer) (new : KernelParts)
    → IsSound old → IsSound new → MayObey old command answer new
    → (thread : ℕ) → IsFalse (is_call_of thread command) → IsFalse (is_busy old thread) → IsFalse (is_busy new thread)

-- one whose call was entered is busy
abbrev pub EnteredIsBusy : Type 0
EnteredIsBusy =
    (old new : KernelParts) (number thread : ℕ) (call : CallParts)
    → IsSound old → IsSound new → Enters old new number thread call → IsTrue (is_busy new thread)

-- and one whose outcome was taken is not
abbrev pub TakenIsIdle : Type 0
TakenIsIdle =
    (old new : KernelParts) (thread since : ℕ) (outcome : OutcomeParts)
    → IsSound new → outcome_to_take old thread ≡ Some outcome
    → new ≡ record old { taken = taken_after (Some outcome) old.taken; since = since }
    → IsFalse (is_busy new thread)

-- a command that takes the outcome of this thread
abbrev pub is_take_of : ℕ → Command → Bool
is_take_of thread (Take taker) = taker == thread
is_take_of thread _ = false

-- a live thread that the finished ones do not name has to take what it had to take before a command
-- that is no call and no take of it
abbrev pub UnfinishedKeeps : Type 0
UnfinishedKeeps =
    (old : KernelParts) (command : Command) (answer : Answer) (new : KernelParts)
    → IsSound old → IsSound new → MayObey old command answer new
    → (thread : ℕ) → IsFalse (is_call_of thread command) → IsFalse (is_take_of thread command)
    → IsTrue (is_live new.history thread) → IsFalse (is_finished new thread)
    → outcome_to_take new thread ≡ outcome_to_take old thread

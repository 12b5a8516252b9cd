-- What a kernel answers to a command, and what it is then.
use Rattle.std.specs.Prelude.{◌≡◌, ℕ, List, [], ◌∷◌, Option, Some, None, if◌then◌else◌, ◌⊎◌}
use Rattle.std.specs.Prelude.{Bool, true, false, IsTrue, length, Result, Ok, Err}
use Rattle.ipc_history.specs.Legal.{next_moving}
use Rattle.ipc_history.specs.Threads.{is_live}
use Rattle.ipc_core.specs.Effects.{Breaks, Exchanges, Gives, Ticks}
use Rattle.ipc_core.specs.KernelParts.{KernelParts, nothing_held}
use Rattle.ipc_core.specs.Refusals.{enter_refusal, exreg_refusal, open_refusal}
use Rattle.ipc_core.specs.Room.{LacksRoomFor, exreg_need, open_need}
use Rattle.ipc_core.specs.Steps.{Advances, Enters, Opens}
use Rattle.ipc_core.specs.declared.answers.Advance.TheVariants.{Moved, Idle}
use Rattle.ipc_core.specs.declared.answers.EnterRefused.{EnterRefused}
use Rattle.ipc_core.specs.declared.answers.ExregAnswer.{ExregAnswer}
use Rattle.ipc_core.specs.declared.command.Answer.{Answer}
use Rattle.ipc_core.specs.declared.command.Answer.TheVariants.{Opened, Entered, Exchanged, Done, Advanced, Taken, Refused}
use Rattle.ipc_core.specs.declared.command.Command.{Command}
use Rattle.ipc_core.specs.declared.command.Command.TheVariants.{Open, Enter, Exreg, Broke, At, Advance, Take}
use Rattle.ipc_core.specs.declared.refusal.Refusal.{Refusal}
use Rattle.ipc_core.specs.declared.refusal.Refusal.TheVariants.{NoMemory, NoThread}

-- why a command is refused, want of memory aside; of several causes the first counts
unfoldable pub cause_of : KernelParts → Command → Option Refusal
cause_of kernel (Open number space) = open_refusal kernel number space
cause_of kernel (Enter thread call) = enter_refusal kernel thread call
cause_of kernel (Exreg thread target control) = exreg_refusal kernel thread
cause_of kernel (Broke thread) = (if is_live kernel.history thread then None else Some NoThread)
cause_of kernel _ = None

-- the commands that may take memory
abbrev pub takes_memory : Command → Bool
takes_memory (Open number space) = true
takes_memory (Enter thread call) = true
takes_memory (Exreg thread target control) = true
takes_memory _ = false

-- a command that was obeyed and wrote nothing
abbrev pub rested : KernelParts → KernelParts
rested kernel = record kernel { since = length kernel.history }

-- what a command that is not refused does, and how it is answered
unfoldable pub Does : KernelParts → Command → Answer → KernelParts → Type 0
Does old (Open number space) (Opened thread) new = Opens old new number space thread
Does old (Enter thread call) (Entered number) new = Enters old new number thread call
Does old (Exreg thread target control) (Exchanged answer) new = Exchanges old new thread target control answer
Does old (Broke thread) Done new = Breaks old new thread
Does old (At reading) Done new = Ticks old new reading
Does old Advance (Advanced Moved) new = Advances old new
Does old Advance (Advanced Idle) new = (next_moving old.history ≡ None) × (new ≡ rested old)
Does old (Take thread) (Taken outcome) new = Gives old new thread outcome
Does old _ _ new = ⊥

-- refused with a cause, and nothing changed; without one, what the command says
abbrev pub ObeysOr : Option Refusal → KernelParts → Command → Answer → KernelParts → Type 0
ObeysOr (Some refusal) old command answer new = (answer ≡ Refused refusal) × (new ≡ old)
ObeysOr None old command answer new = Does old command answer new

-- a command with a cause to be refused is refused with it, and changes nothing; any other does what
-- it says
unfoldable pub Obeys : KernelParts → Command → Answer → KernelParts → Type 0
Obeys old command answer new = ObeysOr (cause_of old command) old command answer new

-- what an open or an ExchangeRegisters takes memory for: more room in the history. A call takes it
-- for its copies too, so of a call nothing is said
abbrev pub LacksRoom : KernelParts → Command → Type 0
LacksRoom kernel (Open number space) = LacksRoomFor kernel open_need
LacksRoom kernel (Exreg thread target control) = LacksRoomFor kernel exreg_need
LacksRoom kernel _ = Unit {0}

-- a command that may take memory, and has no other cause to be refused, may be refused for want of
-- it; then it changes nothing
pub record LacksMemory (old : KernelParts) (command : Command) (answer : Answer) (new : KernelParts) : Type 0 where
  pub takes_memory : IsTrue (takes_memory command)
  pub no_other_cause : cause_of old command ≡ None
  pub lacks_room : LacksRoom old command
  pub answer_is : answer ≡ Refused NoMemory
  pub stays : new ≡ old

-- a command is obeyed, or refused for want of memory
abbrev pub MayObey : KernelParts → Command → Answer → KernelParts → Type 0
MayObey old command answer new = Obeys old command answer new ⊎ LacksMemory old command answer new

-- the answers that the results of open, enter, exreg and broke are
abbrev pub open_answer : Result ℕ Refusal → Answer
open_answer (Ok thread) = Opened thread
open_answer (Err refusal) = Refused refusal

abbrev pub enter_answer : Result ℕ EnterRefused → Answer
enter_answer (Ok number) = Entered number
enter_answer (Err refused) = Refused refused.refusal

abbrev pub exreg_result : Result ExregAnswer Refusal → Answer
exreg_result (Ok answer) = Exchanged answer
exreg_result (Err refusal) = Refused refusal

abbrev pub broke_answer : {T E : Type 0} → Result T E → Answer
broke_answer (Ok done) = Done
broke_answer (Err gone) = Refused NoThread

-- the answer is a refusal for want of memory
abbrev pub is_no_memory : Answer → Bool
is_no_memory (Refused NoMemory) = true
is_no_memory _ = false

-- one command after the other, each obeyed and answered
unfoldable pub Runs : KernelParts → List Command → List Answer → KernelParts → Type 0
Runs old [] [] new = new ≡ old
Runs old (command ∷ commands) (answer ∷ answers) new =
    (between : KernelParts) × Obeys old command answer between × Runs between commands answers new
Runs old _ _ new = ⊥

-- a kernel with an empty history at the moment 0
abbrev pub empty_kernel : ℕ → ℕ → KernelParts
empty_kernel entries_limit calls_limit = record {
  entries_limit = entries_limit;
  calls_limit = calls_limit;
  moment = 0;
  history = [];
  held = nothing_held;
  taken = [];
  since = 0;
  room = 0;
}

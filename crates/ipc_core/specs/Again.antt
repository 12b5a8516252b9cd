-- A command that is obeyed once more where it was refused for want of room in the history.
use Rattle.std.specs.Prelude.{◌≡◌, ℕ, Bool, true, false, Option, Some, MatchBool}
use Rattle.ipc_core.specs.Compacting.{Compacts}
use Rattle.ipc_core.specs.KernelParts.{KernelParts, without_room}
use Rattle.ipc_core.specs.Laws.{IsSound}
use Rattle.ipc_core.specs.Obeying.{MayObey, Obeys, cause_of}
use Rattle.ipc_core.specs.declared.answers.Compacted.{Compacted}
use Rattle.ipc_core.specs.declared.command.Answer.{Answer}
use Rattle.ipc_core.specs.declared.command.Answer.TheVariants.{Refused}
use Rattle.ipc_core.specs.declared.command.Command.{Command}
use Rattle.ipc_core.specs.declared.refusal.Refusal.{Refusal}
use Rattle.ipc_core.specs.declared.refusal.Refusal.TheVariants.{HistoryFull}

-- K5, as a cause and as an answer
abbrev pub is_history_full : Option Refusal → Bool
is_history_full (Some HistoryFull) = true
is_history_full _ = false

abbrev pub says_history_full : Answer → Bool
says_history_full (Refused HistoryFull) = true
says_history_full _ = false

-- of the causes to refuse a command K5 is the first that applies
abbrev pub lacks_entries : KernelParts → Command → Bool
lacks_entries kernel command = is_history_full (cause_of kernel command)

-- before a command: where K5 is the first cause to refuse it, a compaction up to a place; else
-- nothing changes
abbrev pub MakesRoom : ℕ → KernelParts → Command → KernelParts → Type 0
MakesRoom upto old command roomy =
    MatchBool (lacks_entries old command) ((done : Compacted) × Compacts old roomy upto done) (roomy ≡ old)

-- after that the command is obeyed, or refused for want of memory. So K5 is answered only where
-- there is no room after the compaction either, and of a command that is not refused with K5 at
-- first nothing is let go
pub record MayObeyAgain (upto : ℕ) (old : KernelParts) (command : Command) (answer : Answer) (new : KernelParts) : Type 0 where
  pub roomy : KernelParts
  pub makes_room : MakesRoom upto old command roomy
  pub obeys : MayObey roomy command answer new

-- with memory enough
pub record ObeysAgain (upto : ℕ) (old : KernelParts) (command : Command) (answer : Answer) (new : KernelParts) : Type 0 where
  pub roomy : KernelParts
  pub makes_room : MakesRoom upto old command roomy
  pub obeys : Obeys roomy command answer new

-- what is sound stays sound
abbrev pub StaysSoundAgain : Type 0
StaysSoundAgain =
    (upto : ℕ) (old : KernelParts) (command : Command) (answer : Answer) (new : KernelParts)
    → IsSound old → MayObeyAgain upto old command answer new → IsSound new

-- kernels that are the same but for the room answer alike, and are the same but for it afterwards
abbrev pub ObeysAgainOnce : Type 0
ObeysAgainOnce =
    (upto : ℕ) (old other one two : KernelParts) (command : Command) (answer said : Answer)
    → IsSound old → without_room old ≡ without_room other
    → ObeysAgain upto old command answer one → ObeysAgain upto other command said two
    → (answer ≡ said) × (without_room one ≡ without_room two)

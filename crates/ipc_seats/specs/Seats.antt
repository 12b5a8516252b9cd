-- When a seat is refused.
use Rattle.std.specs.Prelude.{◌≡◌, ℕ, ◌==◌, Option, None, MatchBool}
use Rattle.ipc_core.specs.KernelParts.{KernelParts}
use Rattle.ipc_core.specs.Outcomes.{made_by, taken_by}
use Rattle.ipc_core.specs.Effects.{Gives}
use Rattle.ipc_core.specs.Again.{MayObeyAgain}
use Rattle.ipc_core.specs.Compacting.{Compacts}
use Rattle.ipc_core.specs.Obeying.{MayObey}
use Rattle.ipc_core.specs.Steps.{MayRefuse}
use Rattle.ipc_core.specs.declared.answers.Compacted.{Compacted}
use Rattle.ipc_core.specs.declared.command.Answer.{Answer}
use Rattle.ipc_core.specs.declared.command.Answer.TheVariants.{Refused}
use Rattle.ipc_core.specs.declared.command.Command.{Command}
use Rattle.ipc_core.specs.declared.refusal.Refusal.{Refusal}
use Rattle.ipc_core.specs.declared.refusal.Refusal.TheVariants.{NoThread}

-- K6 where the seat's amount is not the kernel's count for its thread; else what the kernel says
abbrev pub SeatRefuses : ℕ → ℕ → Option Refusal → Refusal → Type 0
SeatRefuses amount count cause refusal = MatchBool (amount == count) (MayRefuse cause refusal) (refusal ≡ NoThread)

-- K6 where the seat's amount is not the kernel's count for its thread; else what the kernel may do
-- and answer to the command
abbrev pub SeatObeys : ℕ → ℕ → KernelParts → Command → Answer → KernelParts → Type 0
SeatObeys amount count old command answer new =
    MatchBool (amount == count) (MayObey old command answer new) ((answer ≡ Refused NoThread) × (new ≡ old))

-- the same where the command is obeyed once more, behind a compaction up to the mark, when K5 is
-- the first cause to refuse it
abbrev pub SeatObeysAgain : ℕ → ℕ → KernelParts → Command → Answer → KernelParts → Type 0
SeatObeysAgain amount count old command answer new =
    MatchBool (amount == count) (MayObeyAgain old.held.mark old command answer new)
    ((answer ≡ Refused NoThread) × (new ≡ old))

-- memory lets go of what is marked, and then the command is obeyed
pub record ObeysRoomy (old : KernelParts) (command : Command) (answer : Answer) (new : KernelParts) : Type 0 where
  pub roomy : KernelParts
  pub done : Compacted
  pub compacts : Compacts old roomy old.held.mark done
  pub obeys : MayObey roomy command answer new

-- the same by a seat
pub record SeatObeysRoomy (amount thread : ℕ) (old : KernelParts) (command : Command) (answer : Answer) (new : KernelParts) : Type 0 where
  pub roomy : KernelParts
  pub done : Compacted
  pub compacts : Compacts old roomy old.held.mark done
  pub obeys : SeatObeys amount (made_by roomy.history thread) roomy command answer new

-- nothing is taken: the amount is not the kernel's count, and nothing changed; or there is nothing
-- to take
abbrev pub TakesNothing : KernelParts → KernelParts → ℕ → ℕ → Type 0
TakesNothing old new thread amount = MatchBool (amount == taken_by old thread) (Gives old new thread None) (new ≡ old)

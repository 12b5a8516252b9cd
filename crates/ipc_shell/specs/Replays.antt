-- The law of scripts: run, the script of a history gives that history.
use Rattle.std.specs.Prelude.{◌≡◌, ℕ, ◌+◌, ◌≤◌, Bool, true, false, List, [], ◌∷◌, ◌++◌, length}
use Rattle.std.specs.Prelude.{None}
use Rattle.std.specs.List.{All}
use Rattle.std.specs.Option.{option_map_or}
pub use Rattle.ipc_history.specs.Keeping.{is_at}
use Rattle.ipc_history.specs.Words.{last}
use Rattle.ipc_history.specs.Calls.{calls_made}
use Rattle.ipc_history.specs.Legal.{Legal, Quiet}
use Rattle.ipc_history.specs.declared.entry.Entry.{Entry}
use Rattle.ipc_history.specs.declared.entry.Entry.TheVariants.{Given}
use Rattle.ipc_history.specs.declared.entry.Input.{Input}
use Rattle.ipc_history.specs.declared.entry.Input.TheVariants as input
use Rattle.ipc_laws.specs.Counting.{pledged}
use Rattle.ipc_core.specs.KernelParts.{KernelParts}
use Rattle.ipc_core.specs.Obeying.{Runs, empty_kernel}
use Rattle.ipc_core.specs.Outcomes.{outcome_to_take}
use Rattle.ipc_core.specs.Room.{open_need, call_need, exreg_need}
use Rattle.ipc_core.specs.Steps.{with_input}
use Rattle.ipc_core.specs.declared.answers.Advance.TheVariants.{Idle}
use Rattle.ipc_core.specs.declared.command.Answer.{Answer}
use Rattle.ipc_core.specs.declared.command.Command.{Command}
use Rattle.ipc_core.specs.declared.command.Answer.TheVariants.{Advanced, Taken, Refused}
use Rattle.ipc_shell.specs.Script.{commands_of}

-- what stands behind an At: another entry than an At. A kernel writes an At where a phase is due,
-- so that outputs follow it, or with an input
abbrev pub IsBehindAt : List Entry → Type 0
IsBehindAt [] = ⊥
IsBehindAt (Given (input.At moment) ∷ rest) = ⊥
IsBehindAt _ = Unit {0}

-- a list ends with an At
abbrev pub ends_at : List Entry → Bool
ends_at P = option_map_or is_at (last P) false

-- a kernel with room for so many entries takes an input that stands behind P (K5)
abbrev pub FindsRoom : ℕ → List Entry → Input → Type 0
FindsRoom limit P (input.Opened thread space) = length P + pledged P + open_need ≤ limit
FindsRoom limit P (input.Called n thread call) = length P + pledged P + call_need call ≤ limit
FindsRoom limit P (input.Exreg thread target control) = length P + pledged P + exreg_need ≤ limit
FindsRoom limit P _ = Unit {0}

-- a history that a kernel of these limits may have between two commands. An input found room behind
-- what stands before it and before the At that came with it
pub record MayBeKernels (entries_limit calls_limit : ℕ) (H : List Entry) : Type 0 where
  pub legal : Legal H
  pub quiet : Quiet H
  pub moments : (P rest : List Entry) (moment : ℕ)
      → H ≡ P ++ Given (input.At moment) ∷ rest → IsBehindAt rest
  pub room : (P rest : List Entry) (moment : ℕ) (given : Input) → ends_at P ≡ false
      → H ≡ with_input P moment given ++ rest → FindsRoom entries_limit P given
  pub calls : calls_made H ≤ calls_limit

-- a command was done, and was not for nothing: it was not refused, an advance copied a block, and a
-- take took an outcome
abbrev pub IsDone : Answer → Type 0
IsDone (Refused refusal) = ⊥
IsDone (Advanced Idle) = ⊥
IsDone (Taken None) = ⊥
IsDone _ = Unit {0}

-- what comes of the script of H: that history, each command done, and no outcome left to take
pub record Replays (H : List Entry) (answers : List Answer) (kernel : KernelParts) : Type 0 where
  pub history : kernel.history ≡ H
  pub done : All IsDone answers
  pub taken : (thread : ℕ) → outcome_to_take kernel thread ≡ None

-- the script of such a history runs on an empty kernel, and gives the history
abbrev pub ScriptRuns : Type 0
ScriptRuns =
    (entries_limit calls_limit : ℕ) (H : List Entry) → MayBeKernels entries_limit calls_limit H
    → (answers : List Answer) × (kernel : KernelParts)
    × Runs (empty_kernel entries_limit calls_limit) (commands_of H) answers kernel
    × Replays H answers kernel

-- and whatever comes of a run of it is that
abbrev pub ScriptReplays : Type 0
ScriptReplays =
    (entries_limit calls_limit : ℕ) (H : List Entry) → MayBeKernels entries_limit calls_limit H
    → (answers : List Answer) (kernel : KernelParts)
    → Runs (empty_kernel entries_limit calls_limit) (commands_of H) answers kernel
    → Replays H answers kernel

-- such is each history that a kernel comes to by commands
abbrev pub KernelsMayBe : Type 0
KernelsMayBe =
    (entries_limit calls_limit : ℕ) (commands : List Command) (answers : List Answer)
    (kernel : KernelParts) → Runs (empty_kernel entries_limit calls_limit) commands answers kernel
    → MayBeKernels entries_limit calls_limit kernel.history

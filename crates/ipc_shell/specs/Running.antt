-- The run of a script: its lines, and what is printed.
use Rattle.std.specs.Prelude.{◌≡◌, ◌≢◌, ℕ, min, List, [], ◌∷◌, codes, Option, ◌⊎◌}
use Rattle.std.specs.Fmt.{decimal}
use Rattle.ipc_words.specs.Limits.{max_entries, max_calls}
use Rattle.ipc_core.specs.Compacting.{Compacts}
use Rattle.ipc_core.specs.KernelParts.{KernelParts}
use Rattle.ipc_core.specs.declared.answers.Compacted.{Compacted}
use Rattle.ipc_core.specs.declared.kernel.Limits.{Limits}
use Rattle.ipc_core.specs.declared.command.Command.{Command}
use Rattle.ipc_exchange.specs.Serving.{first_kernel}
use Rattle.ipc_lines.specs.Lines.{spaced}
use Rattle.ipc_shell.specs.Commands.{IsScriptCommand, command_text, compact_text, script_command_text}
use Rattle.ipc_shell.specs.declared.script_command.ScriptCommand.{ScriptCommand}
use Rattle.ipc_shell.specs.Printing.{Answers, ended}
use Rattle.ipc_shell.specs.Scripts.{EndsAtLine, RunsLines}
use Rattle.ipc_shell.specs.declared.exit.Exit.{Exit}

-- the kernel that a script begins with: more than the greatest limits counts as those
abbrev pub kernel_within : Limits → KernelParts
kernel_within limits = first_kernel (min limits.entries max_entries) (min limits.calls max_calls)

-- a line that spells a command: the kernel obeys it, and this is printed
pub record Commands (old : KernelParts) (line text : List ℕ) (new : KernelParts) : Type 0 where
  pub command : Command
  pub spells : line ≡ command_text command
  pub answers : Answers old command text new

-- what is printed of a compaction: how many entries were dropped, and how many are left
abbrev pub compacted_text : Compacted → List ℕ
compacted_text done = ended (spaced (codes "=" ∷ decimal done.dropped ∷ decimal done.left ∷ []))

pub record IsCompacted (old : KernelParts) (line text : List ℕ) (new : KernelParts) : Type 0 where
  pub spells : line ≡ compact_text
  pub done : Compacted
  pub compacts : Compacts old new old.held.mark done
  pub text_is : text ≡ compacted_text done

-- a line that is obeyed, and what is printed for it
abbrev pub RunsLine : KernelParts → List ℕ → List ℕ → KernelParts → Type 0
RunsLine old line text new = Commands old line text new ⊎ IsCompacted old line text new

-- a line that spells no command of a script, whatever the kernel
abbrev pub IsNoCommand : KernelParts → List ℕ → Type 0
IsNoCommand kernel line =
    (command : ScriptCommand) → IsScriptCommand command → line ≢ script_command_text command

-- what a run prints of a script
abbrev pub RunsScript : KernelParts → Option (List ℕ) → Option (List ℕ) → Option (List ℕ) → Exit
    → Type 0
RunsScript start bytes before after exit =
    RunsLines RunsLine IsNoCommand start bytes before after exit

-- how a line that is not empty ends
abbrev pub EndsLine : KernelParts → KernelParts → Option (List ℕ) → Option (List ℕ) → List ℕ → ℕ
    → Option Exit → Type 0
EndsLine old new before after line number exit =
    EndsAtLine RunsLine IsNoCommand old new before after line number exit

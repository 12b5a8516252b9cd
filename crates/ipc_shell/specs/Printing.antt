-- What is printed for a command of a script.
use Rattle.std.specs.Prelude.{◌≡◌, ℕ, List, ◌++◌, drop, length}
use Rattle.ipc_history.specs.declared.entry.Entry.{Entry}
use Rattle.ipc_core.specs.KernelParts.{KernelParts}
use Rattle.ipc_core.specs.Obeying.{MayObey}
use Rattle.ipc_core.specs.declared.command.Answer.{Answer}
use Rattle.ipc_core.specs.declared.command.Command.{Command}
use Rattle.ipc_shell.specs.Answers.{answer_text}
pub use Rattle.ipc_trace.specs.Traces.{ended, trace_text}
use Rattle.ipc_shell.specs.Commands.{IsCommand}

-- the entries that a kernel wrote
abbrev pub written : KernelParts → KernelParts → List Entry
written old new = drop (length old.history) new.history

-- the lines of the entries that a command wrote, in order, and then its answer line
abbrev pub printed : KernelParts → Answer → KernelParts → List ℕ
printed old answer new = trace_text (written old new) ++ ended (answer_text answer)

-- the kernel obeyed a command of a script, one of words and of a call in normal form within the
-- limits, and this is printed for it
pub record Answers (old : KernelParts) (command : Command) (text : List ℕ) (new : KernelParts) : Type 0 where
  pub in_words : IsCommand command
  pub answer : Answer
  pub obeys : MayObey old command answer new
  pub text_is : text ≡ printed old answer new

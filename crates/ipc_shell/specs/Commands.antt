-- Our choice (docs/FORMATS.md): the commands of a script, each the fields of a line with one space
-- between each two, and the word that asks for a compaction.
use Rattle.std.specs.Prelude.{ℕ, ◌≤◌, ◌≢◌, List, [], ◌∷◌, ◌++◌, codes, length}
use Rattle.std.specs.Fmt.{decimal}
use Rattle.std.specs.List.{flat_map}
use Rattle.ipc_words.specs.Limits.{max_line_bytes}
use Rattle.ipc_words.specs.ThreadId.{number_of}
use Rattle.ipc_history.specs.declared.entry.Input.{Input}
use Rattle.ipc_history.specs.declared.entry.Input.TheVariants as input
use Rattle.ipc_core.specs.declared.command.Command.{Command}
use Rattle.ipc_core.specs.declared.command.Command.TheVariants.{Open, Enter, Exreg, Broke, At, Advance, Take}
use Rattle.ipc_lines.specs.Texts.{hex_text, id_text}
use Rattle.ipc_lines.specs.Lines.{spaced, call_fields}
use Rattle.ipc_lines.specs.Reading.{IsWord, IsCall}
use Rattle.ipc_shell.specs.declared.reading.CommandName.{CommandName}
use Rattle.ipc_shell.specs.declared.reading.CommandName.TheVariants as name
use Rattle.ipc_shell.specs.declared.script_command.ScriptCommand.{ScriptCommand}
use Rattle.ipc_shell.specs.declared.script_command.ScriptCommand.TheVariants.{Obey, Compact}

-- the name of a command
abbrev pub command_name : CommandName → List ℕ
command_name name.Open = codes "open"
command_name name.Call = codes "call"
command_name name.Exreg = codes "exreg"
command_name name.Broke = codes "broke"
command_name name.At = codes "at"
command_name name.Advance = codes "advance"
command_name name.Take = codes "take"

-- the fields of a command: its name, and what it holds, in order
abbrev pub command_fields : Command → List (List ℕ)
command_fields (Open number space) = command_name name.Open ∷ decimal number ∷ decimal space ∷ []
command_fields (Enter thread call) = command_name name.Call ∷ call_fields thread call
command_fields (Exreg thread target control) =
    command_name name.Exreg ∷ id_text thread ∷ id_text target ∷ hex_text control ∷ []
command_fields (Broke thread) = command_name name.Broke ∷ id_text thread ∷ []
command_fields (At moment) = command_name name.At ∷ decimal moment ∷ []
command_fields Advance = command_name name.Advance ∷ []
command_fields (Take thread) = command_name name.Take ∷ id_text thread ∷ []

-- a command of words, and of a call in normal form and within the limits
abbrev pub IsCommand : Command → Type 0
IsCommand (Open number space) = IsWord number × IsWord space
IsCommand (Enter thread call) = IsCall thread call
IsCommand (Exreg thread target control) = IsWord thread × IsWord target × IsWord control
IsCommand (Broke thread) = IsWord thread
IsCommand (At moment) = IsWord moment
IsCommand Advance = Unit {0}
IsCommand (Take thread) = IsWord thread

-- the line of a command, without its newline
abbrev pub command_text : Command → List ℕ
command_text command = spaced (command_fields command)

-- the text of many commands: a line for each, in order
abbrev pub command_line : Command → List ℕ
command_line command = command_text command ++ 10 ∷ []

abbrev pub script_text : List Command → List ℕ
script_text commands = flat_map command_line commands

-- the command that gives an input of a history
abbrev pub command_for : Input → Command
command_for (input.At moment) = At moment
command_for (input.Opened thread space) = Open (number_of thread) space
command_for (input.Called n caller call) = Enter caller call
command_for (input.Exreg thread target control) = Exreg thread target control
command_for (input.Broke thread) = Broke thread
command_for (input.Moved n count) = Advance

-- the line that asks for a compaction
abbrev pub compact_text : List ℕ
compact_text = codes "compact"

-- the line of a command of a script, without its newline
abbrev pub script_command_text : ScriptCommand → List ℕ
script_command_text (Obey command) = command_text command
script_command_text Compact = compact_text

-- its words, and its call, are within the limits
abbrev pub IsScriptCommand : ScriptCommand → Type 0
IsScriptCommand (Obey command) = IsCommand command
IsScriptCommand Compact = Unit {0}

-- no command has a line of more bytes than a line may have
abbrev pub CommandsAreWithinTheLimit : Type 0
CommandsAreWithinTheLimit =
    (command : Command) → IsCommand command → length (command_text command) ≤ max_line_bytes

-- no command asks for a compaction
abbrev pub NoCommandCompacts : Type 0
NoCommandCompacts = (command : Command) → IsCommand command → command_text command ≢ compact_text

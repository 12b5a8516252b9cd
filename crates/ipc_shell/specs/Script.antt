-- The script of a history: the commands whose history it is.
use Rattle.std.specs.Prelude.{ℕ, List, [], ◌∷◌, ◌++◌, Bool, true, false, not, ◌&&◌, ◌||◌, ◌==◌}
use Rattle.std.specs.Prelude.{find, reverse, if◌then◌else◌}
use Rattle.std.specs.List.{list_any}
use Rattle.std.specs.Option.{option_map_or}
use Rattle.ipc_words.specs.ThreadId.{nilthread}
use Rattle.ipc_history.specs.CallParts.{CallParts}
use Rattle.ipc_history.specs.Entries.{closes, ends_send}
use Rattle.ipc_history.specs.declared.entry.Entry.{Entry}
use Rattle.ipc_history.specs.declared.entry.Entry.TheVariants.{Given, Written}
use Rattle.ipc_history.specs.declared.entry.Input.{Input}
use Rattle.ipc_history.specs.declared.entry.Input.TheVariants as input
use Rattle.ipc_core.specs.declared.command.Command.{Command}
use Rattle.ipc_core.specs.declared.command.Command.TheVariants.{Take}
use Rattle.ipc_shell.specs.Commands.{command_for}

-- an entry of the thread's own: it is opened, makes a call or an ExchangeRegisters, or ends
abbrev pub is_act : ℕ → Entry → Bool
is_act thread (Given (input.Opened opened space)) = opened == thread
is_act thread (Given (input.Called n caller call)) = caller == thread
is_act thread (Given (input.Exreg caller target control)) = caller == thread
is_act thread (Given (input.Broke ended)) = ended == thread
is_act thread _ = false

abbrev pub is_call : Entry → Bool
is_call (Given (input.Called n caller call)) = true
is_call _ = false

-- the last of these is a call: its outcome is still to be taken, since the script takes it before
-- the next one
unfoldable pub is_untaken : List Entry → ℕ → Bool
is_untaken P thread = option_map_or is_call (find (is_act thread) (reverse P)) false

abbrev pub take_if : Bool → ℕ → List Command
take_if b thread = (if b then Take thread ∷ [] else [])

abbrev pub take_before : List Entry → ℕ → List Command
take_before P thread = take_if (is_untaken P thread) thread

-- what is taken before the command of an input that stands behind P
abbrev pub takes_for : List Entry → Input → List Command
takes_for P (input.Called n caller call) = take_before P caller
takes_for P (input.Exreg thread target control) = take_before P thread
takes_for P _ = []

-- the commands for an entry that stands behind P; an output comes by itself
abbrev pub commands_at : List Entry → Entry → List Command
commands_at P (Given given) = takes_for P given ++ command_for given ∷ []
commands_at P (Written output) = []

-- the commands for all entries behind P
unfoldable pub commands_from : List Entry → List Entry → List Command
commands_from P [] = []
commands_from P (e ∷ rest) = commands_at P e ++ commands_from (P ++ e ∷ []) rest

-- a call is over, while its caller lives: an entry closed it; its send phase ended and it has no
-- receive phase; it has neither phase
abbrev pub is_done : List Entry → ℕ → CallParts → Bool
is_done H n call =
    list_any (closes n) H
    || ((call.from == nilthread) && ((call.to == nilthread) || list_any (ends_send n) H))

-- at the end of the history H the outcome is taken of each call that is over and behind which its
-- caller did nothing more
abbrev pub is_left : List Entry → ℕ → ℕ → CallParts → List Entry → Bool
is_left H n caller call rest = not (list_any (is_act caller) rest) && is_done H n call

abbrev pub last_take : List Entry → Entry → List Entry → List Command
last_take H (Given (input.Called n caller call)) rest =
    take_if (is_left H n caller call rest) caller
last_take H _ rest = []

unfoldable pub last_takes : List Entry → List Entry → List Command
last_takes H [] = []
last_takes H (e ∷ rest) = last_take H e rest ++ last_takes H rest

-- the script of a history
unfoldable pub commands_of : List Entry → List Command
commands_of H = commands_from [] H ++ last_takes H H

-- What was asked for and accepted, as a history says it, and as events say it: threads that were
-- opened, calls that were entered, and ExchangeRegisters.
use Rattle.std.specs.Prelude.{ℕ, List, [], ◌∷◌, ◌++◌}
use Rattle.ipc_connection.specs.declared.asking.Request.{Request}
use Rattle.ipc_connection.specs.declared.asking.Request.TheVariants as request
use Rattle.ipc_connection.specs.declared.replying.Told.{Told}
use Rattle.ipc_connection.specs.declared.replying.Told.TheVariants as told
use Rattle.ipc_core.specs.declared.command.Answer.{Answer}
use Rattle.ipc_core.specs.declared.command.Answer.TheVariants as answer
use Rattle.ipc_core.specs.declared.command.Command.{Command}
use Rattle.ipc_core.specs.declared.command.Command.TheVariants as command
use Rattle.ipc_history.specs.CallParts.{CallParts}
use Rattle.ipc_history.specs.declared.entry.Entry.{Entry}
use Rattle.ipc_history.specs.declared.entry.Entry.TheVariants.{Given}
use Rattle.ipc_history.specs.declared.entry.Input.TheVariants as input
use Rattle.ipc_words.specs.Control.{masked_of}
use Rattle.ipc_seats.specs.declared.events.Event.{Event}
use Rattle.ipc_seats.specs.declared.events.Event.TheVariants as event

-- a thread of a space, a call of a thread, or the stop of phases of a target for a thread
pub data Accepted : Type 0 where
  ThreadOpened : (thread space : ℕ) → Accepted
  CallEntered : (thread : ℕ) (call : CallParts) → Accepted
  PhasesStopped : (thread target control : ℕ) → Accepted

-- what an entry says so
abbrev pub accepted_in : Entry → List Accepted
accepted_in (Given (input.Opened thread space)) = ThreadOpened thread space ∷ []
accepted_in (Given (input.Called number thread call)) = CallEntered thread call ∷ []
accepted_in (Given (input.Exreg thread target control)) = PhasesStopped thread target control ∷ []
accepted_in entry = []

-- the same of a history, in order
abbrev pub accepted_of : List Entry → List Accepted
accepted_of [] = []
accepted_of (entry ∷ entries) = accepted_in entry ++ accepted_of entries

-- what a command made, as its answer says
abbrev pub made_of : Command → Answer → List Accepted
made_of (command.Open number space) (answer.Opened thread) = ThreadOpened thread space ∷ []
made_of (command.Enter thread call) (answer.Entered number) = CallEntered thread call ∷ []
made_of (command.Exreg thread target control) (answer.Exchanged exchanged) = PhasesStopped thread target (masked_of control) ∷ []
made_of command answer = []

-- what a request from a space made, as the connection was told
abbrev pub asked_of : Request → ℕ → Told → List Accepted
asked_of (request.Open number version) space (told.Opened thread named) = ThreadOpened thread space ∷ []
asked_of (request.Enter thread call) space told.Entered = CallEntered thread call ∷ []
asked_of (request.Exreg thread target control) space (told.Exchanged result stopped code moment) = PhasesStopped thread target (masked_of control) ∷ []
asked_of request space said = []

-- the same of lists of one of each
abbrev pub made_for : List Command → List Answer → List Accepted
made_for (command ∷ []) (answer ∷ []) = made_of command answer
made_for commands answers = []

abbrev pub asked_for : List Request → ℕ → Told → List Accepted
asked_for (request ∷ []) space said = asked_of request space said
asked_for requests space said = []

-- what an event made: a step of a command, or of a connection's request
abbrev pub made_by : Event → List Accepted
made_by (event.Acted now commands answers gave) = made_for commands answers
made_by (event.Asked now place number requests space said gave) = asked_for requests space said
made_by (event.Ended now place number is_by_reader gave) = []
made_by (event.Looked place gave) = []
made_by (event.Laid gave) = []
made_by (event.Worked place number gave) = []
made_by (event.Connected place number) = []
made_by (event.Declined number) = []
made_by (event.Posted place number said) = []
made_by (event.Released place number) = []
made_by (event.Took thread taken outcomes) = []
made_by (event.Marked upto) = []
made_by event.Parted = []

abbrev pub made_in : List Event → List Accepted
made_in [] = []
made_in (next ∷ log) = made_by next ++ made_in log

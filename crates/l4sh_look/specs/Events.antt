-- What each entry of a history adds to the counts of a pair of threads.
use Rattle.std.specs.Prelude.{ℕ, ◌-◌, List, [], ◌∷◌, ◌++◌, Bool, true, false, Option, Some, None, IsFalse, ◌==◌, if◌then◌else◌}
use Rattle.ipc_words.specs.ThreadId.{nilthread}
use Rattle.ipc_words.specs.IpcError.{phase_of}
use Rattle.ipc_words.specs.declared.ipc_error.Phase.{Phase}
use Rattle.ipc_words.specs.declared.ipc_error.Phase.TheVariants.{Send, Receive}
use Rattle.ipc_history.specs.CallParts.{CallParts}
use Rattle.ipc_history.specs.Calls.{caller_of, to_of, message_size}
use Rattle.ipc_history.specs.Matching.{from_specifier}
use Rattle.ipc_history.specs.Phases.{is_over}
use Rattle.ipc_history.specs.Threads.{now}
use Rattle.ipc_history.specs.declared.entry.Entry.{Entry}
use Rattle.ipc_history.specs.declared.entry.Entry.TheVariants.{Given, Written}
use Rattle.ipc_history.specs.declared.entry.Input.{Input}
use Rattle.ipc_history.specs.declared.entry.Input.TheVariants.{At, Opened, Called, Exreg, Broke, Moved}
use Rattle.ipc_history.specs.declared.entry.Output.{Output}
use Rattle.ipc_history.specs.declared.entry.Output.TheVariants.{Began, Turned, Ended, Overflowed, Aborted, Failed}
use Rattle.ipc_threads.specs.Standings.{since_of}
use Rattle.l4sh_look.specs.declared.event.Event.{Event}
use Rattle.l4sh_look.specs.declared.event.Happening.{Happening}
use Rattle.l4sh_look.specs.declared.event.Happening.TheVariants.{Call, Message, Failure}

-- a call is of the pair of its send phase; one without a send phase of that of its receive phase
abbrev pub called : ℕ → CallParts → Event
called caller call =
    (if call.to == nilthread then record { from = call.from; to = caller; what = Call }
    else record { from = caller; to = call.to; what = Call })

-- the message of n that came whole to m: the bytes of its strings, and how long the send phase of n
-- and the receive phase of m took
abbrev pub message : List Entry → ℕ → ℕ → Happening
message P n m = Message (message_size P n) (now P - since_of P n) (now P - since_of P m)

-- two calls are open
abbrev pub AreOpen : List Entry → ℕ → ℕ → Type 0
AreOpen P n m = IsFalse (is_over P n) × IsFalse (is_over P m)

-- the transfer from n to m ends, well or not
abbrev pub met : List Entry → ℕ → ℕ → Bool → Event
met P n m is_whole =
    record { from = caller_of P n; to = caller_of P m; what = if is_whole then message P n m else Failure }

-- a phase of n fails: its send phase to the receiver, or its receive phase from the FromSpecifier
-- as it stands
abbrev pub failed_in : Phase → List Entry → ℕ → Event
failed_in Send P n = record { from = caller_of P n; to = to_of P n; what = Failure }
failed_in Receive P n = record { from = from_specifier P n; to = caller_of P n; what = Failure }

abbrev pub failed : List Entry → ℕ → ℕ → Event
failed P n code = failed_in (phase_of code) P n

-- what an input adds, and an output that follows these entries
abbrev pub given_in : Input → Option Event
given_in (Called n caller call) = Some (called caller call)
given_in (At moment) = None
given_in (Opened thread space) = None
given_in (Exreg thread target control) = None
given_in (Broke thread) = None
given_in (Moved n count) = None

abbrev pub written_in : List Entry → Output → Option Event
written_in P (Began n m) = None
written_in P (Turned n thread) = None
written_in P (Ended n m) = Some (met P n m true)
written_in P (Overflowed n m offset) = Some (met P n m false)
written_in P (Aborted n m count) = Some (met P n m false)
written_in P (Failed n code) = Some (failed P n code)

-- what an entry adds that follows these
unfoldable pub event_in : List Entry → Entry → Option Event
event_in P (Given input) = given_in input
event_in P (Written output) = written_in P output

abbrev pub one : Option Event → List Event
one None = []
one (Some event) = event ∷ []

-- what the entries behind P add, in their order
unfoldable pub events_after : List Entry → List Entry → List Event
events_after P [] = []
events_after P (e ∷ rest) = one (event_in P e) ++ events_after (P ++ e ∷ []) rest

-- what the entries of a history add
abbrev pub events_in : List Entry → List Event
events_in H = events_after [] H

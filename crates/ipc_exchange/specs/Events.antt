-- An exchange: connections over pieces of bytes, and one kernel.
use Rattle.std.specs.Prelude.{◌≡◌, ℕ, List, [], ◌∷◌, ◌++◌, slice_index_or, slice_set, Result}
use Rattle.ipc_frame.specs.Stream.{stream_of}
use Rattle.ipc_frame.specs.declared.fault.FrameFault.{FrameFault}
use Rattle.ipc_frame.specs.declared.kind.Side.TheVariants.{Server}
use Rattle.ipc_core.specs.declared.command.Answer.{Answer}
use Rattle.ipc_core.specs.declared.command.Command.{Command}
use Rattle.ipc_core.specs.declared.command.Command.TheVariants as command
use Rattle.ipc_connection.specs.Chain.{Chain}
use Rattle.ipc_connection.specs.Hearing.{heard_at_end, left_in}
use Rattle.ipc_connection.specs.declared.stage.Stage.{Stage}
use Rattle.ipc_connection.specs.declared.stage.Stage.TheVariants.{Greeting, Serving, Finished}
use Rattle.ipc_connection.specs.declared.heard.Heard.{Heard}
use Rattle.ipc_exchange.specs.Service.{ServiceParts, connection_at, with_connection}
use Rattle.ipc_exchange.specs.Serving.{Answers, Asked, Hears, Memory, Serves, ServesAll, first_kernel}

-- the service, and for each connection the bytes that came since its last whole frame
pub record ExchangeParts : Type 0 where
  pub service : ServiceParts
  pub held : List (List ℕ)

abbrev pub held_at : ExchangeParts → ℕ → List ℕ
held_at exchange place = slice_index_or exchange.held place []

-- what may happen: a connection comes from a space; a piece of bytes comes on one, or its end; a
-- clock reading; a copy
pub data Event : Type 0 where
  Connect : ℕ → Event
  Piece : ℕ → List ℕ → Event
  Finish : ℕ → Event
  Reading : ℕ → Event
  Copy : Event

-- of a connection that has ended no bytes are held
abbrev pub kept : Stage → List ℕ → List ℕ
kept Finished bytes = []
kept Greeting bytes = bytes
kept (Serving thread) bytes = bytes

abbrev pub holding : ExchangeParts → ServiceParts → ℕ → List ℕ → ExchangeParts
holding old service place bytes = record {
  service = service;
  held = slice_set old.held place (kept (connection_at service.connections place).stage bytes);
}

-- a piece: what the bytes held and the piece say is served, one after the other, and what is left
-- is held
pub record Feeds (memory : Memory) (old : ExchangeParts) (place : ℕ) (piece : List ℕ)
    (asked : List Asked) (new : ExchangeParts) : Type 0 where
  pub heard : List (Result Heard FrameFault)
  pub hears : Hears memory (stream_of Server (held_at old place ++ piece)) heard
  pub service : ServiceParts
  pub serves : ServesAll memory old.service place heard asked service
  pub new_is : new ≡ holding old service place (left_in (stream_of Server (held_at old place ++ piece)).end)

-- the end of the input
pub record Closes (memory : Memory) (old : ExchangeParts) (place : ℕ) (asked : List Asked) (new : ExchangeParts) : Type 0 where
  pub service : ServiceParts
  pub serves : Serves memory old.service place (heard_at_end (held_at old place)) asked service
  pub new_is : new ≡ holding old service place []

-- a command of nobody's
pub record Commands (memory : Memory) (old : ExchangeParts) (command : Command)
    (asked : List Asked) (new : ExchangeParts) : Type 0 where
  pub answer : Answer
  pub service : ServiceParts
  pub answers : Answers memory old.service command answer service
  pub asked_is : asked ≡ record { command = command; answer = answer } ∷ []
  pub new_is : new ≡ record { service = service; held = old.held }

-- one more connection
abbrev pub connected : ℕ → ExchangeParts → ExchangeParts
connected space old = record { service = with_connection space old.service; held = old.held ++ [] ∷ [] }

-- an exchange without connections, whose kernel has these limits
abbrev pub empty_exchange : ℕ → ℕ → ExchangeParts
empty_exchange entries_limit calls_limit = record {
  service = record { kernel = first_kernel entries_limit calls_limit; connections = [] };
  held = [];
}

-- an event, with the commands that the kernel was given for it
abbrev pub Happens : Memory → ExchangeParts → Event → List Asked → ExchangeParts → Type 0
Happens memory old (Connect space) asked new = (asked ≡ []) × (new ≡ connected space old)
Happens memory old (Piece place piece) asked new = Feeds memory old place piece asked new
Happens memory old (Finish place) asked new = Closes memory old place asked new
Happens memory old (Reading reading) asked new = Commands memory old (command.At reading) asked new
Happens memory old Copy asked new = Commands memory old command.Advance asked new

-- and a list of them
abbrev pub HappenAll : Memory → ExchangeParts → List Event → List Asked → ExchangeParts → Type 0
HappenAll memory old events asked new = Chain (Happens memory) old events asked new

-- Our choice (docs/FORMATS.md): the script of `l4sh wire`, and what is printed for it.
use Rattle.std.specs.Prelude.{◌≡◌, ℕ, ◌+◌, ◌<◌, ◌≤◌, min, List, [], ◌∷◌, ◌++◌, Bool, codes, length}
use Rattle.std.specs.Prelude.{map, if◌then◌else◌, slice_set, take, drop, ⊤, Option, IsNone}
use Rattle.std.specs.Fmt.{decimal}
use Rattle.hex.specs.Hex.{encode_lower}
use Rattle.ipc_words.specs.Limits.{max_entries, max_calls, max_connections}
use Rattle.ipc_core.specs.declared.kernel.Limits.{Limits}
use Rattle.ipc_exchange.specs.Service.{ConnectionParts, connection_at, without_bytes}
use Rattle.ipc_exchange.specs.Serving.{Asked, MayLack}
use Rattle.ipc_exchange.specs.Feeding.{has_finished}
use Rattle.ipc_exchange.specs.Events.{Event, Connect, Piece, Finish, Reading, Copy, ExchangeParts}
use Rattle.ipc_exchange.specs.Events.{Happens, empty_exchange}
use Rattle.ipc_exchange.specs.Exchange.{RoomyExchange, Shows}
use Rattle.ipc_exchange.specs.declared.progress.ConnectRefused.TheVariants.{TooMany, NoMemory}
use Rattle.ipc_exchange.specs.declared.progress.Progress.{Progress}
use Rattle.ipc_exchange.specs.declared.progress.Progress.TheVariants as progress
use Rattle.ipc_shell.specs.Printing.{ended}
use Rattle.ipc_shell.specs.Scripts.{EndsAtLine, RunsLines}
use Rattle.ipc_shell.specs.WireCommands.{IsSpelled}
use Rattle.ipc_shell.specs.declared.exit.Exit.{Exit}
use Rattle.ipc_shell.specs.declared.wire.Obeyed.{Obeyed}
use Rattle.ipc_shell.specs.declared.wire.Obeyed.TheVariants.{Connected, Refused, Done, Ended}

-- the exchange that a script begins with: more than the greatest limits counts as those
abbrev pub first_exchange : Limits → ExchangeParts
first_exchange limits =
    empty_exchange (min limits.entries max_entries) (min limits.calls max_calls)

-- the connection of an event was given
abbrev pub IsGiven : ExchangeParts → Event → Type 0
IsGiven old (Connect space) = ⊤
IsGiven old (Piece place bytes) = place < length old.service.connections
IsGiven old (Finish place) = place < length old.service.connections
IsGiven old (Reading moment) = ⊤
IsGiven old Copy = ⊤

-- an event happens
abbrev pub Occurs : ExchangeParts → Event → ExchangeParts → Type 0
Occurs old event new = (asked : List Asked) × Happens MayLack old event asked new

-- a connection is given the next number, or is refused, and then all is as it was
abbrev pub Connects : ExchangeParts → ℕ → Obeyed → ExchangeParts → Type 0
Connects old space (Connected number) new = (number ≡ length old.service.connections + 1)
    × (number ≤ max_connections) × Occurs old (Connect space) new
Connects old space (Refused TooMany) new =
    (max_connections ≤ length old.service.connections) × (new ≡ old)
Connects old space (Refused NoMemory) new =
    (length old.service.connections < max_connections) × (new ≡ old)
Connects old space Done new = ⊥
Connects old space (Ended number) new = ⊥

-- whether the connection in a place has ended
abbrev pub has_ended : ExchangeParts → ℕ → Bool
has_ended exchange place = has_finished (connection_at exchange.service.connections place).stage

-- how a connection goes on that has ended, or has not
abbrev pub progress_if : Bool → Progress
progress_if ended = (if ended then progress.Finished else progress.Running)

-- what becomes of the connection in a place: it ended here where it went on before
abbrev pub ends_here : Bool → Bool → ℕ → Obeyed
ends_here before after number = (if before then Done else if after then Ended number else Done)

abbrev pub ends_at : ExchangeParts → ExchangeParts → ℕ → Obeyed
ends_at old new place = ends_here (has_ended old place) (has_ended new place) (place + 1)

-- what a command makes of an exchange
abbrev pub Obeys : ExchangeParts → Event → Obeyed → ExchangeParts → Type 0
Obeys old (Connect space) said new = Connects old space said new
Obeys old (Piece place bytes) said new =
    Occurs old (Piece place bytes) new × (said ≡ ends_at old new place)
Obeys old (Finish place) said new =
    Occurs old (Finish place) new × (said ≡ ends_at old new place)
Obeys old (Reading moment) said new = Occurs old (Reading moment) new × (said ≡ Done)
Obeys old Copy said new = Occurs old Copy new × (said ≡ Done)

-- what a command makes of an exchange, whatever parts it stands for; the connection was given
abbrev pub ObeysIn : RoomyExchange → Event → Obeyed → RoomyExchange → Type 0
ObeysIn old event said new = (parts : ExchangeParts) → Shows old parts → IsGiven parts event
    × ((after : ExchangeParts) × Obeys parts event said after × Shows new after)

-- the connection of an event was never given
abbrev pub WasNeverGiven : RoomyExchange → Event → Type 0
WasNeverGiven old event = (parts : ExchangeParts) → Shows old parts → IsGiven parts event → ⊥

-- the line that answers `connect`
abbrev pub connect_text : Obeyed → List ℕ
connect_text (Connected number) = ended (codes "= " ++ decimal number)
connect_text (Refused TooMany) = ended (codes "! S4")
connect_text (Refused NoMemory) = ended (codes "! F14")
connect_text Done = []
connect_text (Ended number) = []

-- the line of a connection that has bytes to put out, with all of them
abbrev pub output_text : ℕ → List ℕ → List ℕ
output_text number [] = []
output_text number (byte ∷ bytes) =
    ended (codes "out " ++ decimal number ++ codes " " ++ encode_lower (byte ∷ bytes))

-- those of connections in order, of which the first has this number
abbrev pub outputs_text : ℕ → List ConnectionParts → List ℕ
outputs_text number [] = []
outputs_text number (connection ∷ connections) =
    output_text number connection.out ++ outputs_text (number + 1) connections

-- the line of a connection that ended
abbrev pub ended_text : Obeyed → List ℕ
ended_text (Ended number) = ended (codes "ended " ++ decimal number)
ended_text (Connected number) = []
ended_text (Refused refused) = []
ended_text Done = []

-- the lines of the connections that went on before and have ended now, in order, of which the first
-- has this number
abbrev pub ended_texts : ℕ → List ConnectionParts → List ConnectionParts → List ℕ
ended_texts number [] news = []
ended_texts number (old ∷ olds) news =
    ended_text (ends_here (has_finished old.stage) (has_finished (connection_at news 0).stage) number)
    ++ ended_texts (number + 1) olds (drop 1 news)

-- what is printed for a command, by which the one exchange became the other
abbrev pub wire_text : Obeyed → ExchangeParts → ExchangeParts → List ℕ
wire_text said old new = connect_text said ++ outputs_text 1 new.service.connections
    ++ ended_texts 1 old.service.connections new.service.connections

-- the same where no connection ended but the one that is told
abbrev pub said_text : Obeyed → ExchangeParts → List ℕ
said_text said new =
    connect_text said ++ outputs_text 1 new.service.connections ++ ended_text said

-- all bytes of a connection went out
abbrev pub emptied : ConnectionParts → ConnectionParts
emptied connection = record { space = connection.space; stage = connection.stage; version = connection.version; out = [] }

abbrev pub with_connections : ExchangeParts → List ConnectionParts → ExchangeParts
with_connections old connections = record {
  service = record { kernel = old.service.kernel; connections = connections };
  held = old.held;
}

abbrev pub emptied_at : ExchangeParts → ℕ → ExchangeParts
emptied_at old place = with_connections old
    (slice_set old.service.connections place (emptied (connection_at old.service.connections place)))

abbrev pub all_emptied : ExchangeParts → ExchangeParts
all_emptied old = with_connections old (map emptied old.service.connections)

-- up to so many bytes of the connection in a place go out: a piece begins with them
pub record PutsSome (parts : ExchangeParts) (place room count : ℕ)
    (piece : List ℕ) (new : RoomyExchange) : Type 0 where
  pub count_is : count ≡ min room (length (connection_at parts.service.connections place).out)
  pub begins : take count piece ≡ take count (connection_at parts.service.connections place).out
  pub shows : Shows new (record parts { service = without_bytes place count parts.service })

-- all bytes of the connection in a place go out
abbrev pub PutsAll : ExchangeParts → ℕ → List ℕ → RoomyExchange → Type 0
PutsAll parts place bytes new =
    (bytes ≡ (connection_at parts.service.connections place).out) × Shows new (emptied_at parts place)

-- and are written as a line
abbrev pub WritesOutput : ExchangeParts → ℕ → List ℕ → List ℕ → RoomyExchange → Type 0
WritesOutput parts place before after new =
    (after ≡ before ++ output_text (place + 1) (connection_at parts.service.connections place).out)
    × Shows new (emptied_at parts place)

-- all bytes of each connection go out, and are written as a line each
abbrev pub WritesOutputs : ExchangeParts → List ℕ → List ℕ → RoomyExchange → Type 0
WritesOutputs parts before after new =
    (after ≡ before ++ outputs_text 1 parts.service.connections) × Shows new (all_emptied parts)

-- a line that spells a command whose connection was given: what is printed for it; then all bytes
-- went out
pub record WiresLine (old : ExchangeParts) (line text : List ℕ) (new : ExchangeParts) : Type 0 where
  pub event : Event
  pub spells : IsSpelled event line
  pub given : IsGiven old event
  pub said : Obeyed
  pub between : ExchangeParts
  pub obeys : Obeys old event said between
  pub text_is : text ≡ wire_text said old between
  pub new_is : new ≡ all_emptied between

-- a line that spells no such command
abbrev pub IsNoWire : ExchangeParts → List ℕ → Type 0
IsNoWire old line = (event : Event) → IsSpelled event line → IsGiven old event → ⊥

-- what a run prints of a wire script
abbrev pub WiresScript : ExchangeParts → Option (List ℕ) → Option (List ℕ) → Option (List ℕ)
    → Exit → Type 0
WiresScript start bytes before after exit =
    RunsLines WiresLine IsNoWire start bytes before after exit

-- how a line ends, whatever parts the exchange stands for
abbrev pub EndsWireLine : RoomyExchange → RoomyExchange → Option (List ℕ) → Option (List ℕ)
    → List ℕ → ℕ → Option Exit → Type 0
EndsWireLine old new before after line number exit = (parts : ExchangeParts) → Shows old parts
    → (last : ExchangeParts)
    × EndsAtLine WiresLine IsNoWire parts last before after line number exit
    × (IsNone exit → Shows new last)

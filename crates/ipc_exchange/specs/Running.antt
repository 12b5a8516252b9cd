-- A list of events, one after the other, and how each is answered.
use Rattle.std.specs.Prelude.{◌≡◌, ℕ, zero, suc, ◌+◌, List, [], ◌∷◌, ◌++◌, map, filter_map, length, nat_le, take, if◌then◌else◌, ⊤}
use Rattle.std.specs.List.{flat_map}
use Rattle.ipc_connection.specs.Chain.{Chain}
use Rattle.ipc_exchange.specs.Service.{connection_at}
use Rattle.ipc_exchange.specs.Serving.{Asked, MayLack}
use Rattle.ipc_exchange.specs.Events.{ExchangeParts, HappenAll}
use Rattle.ipc_exchange.specs.Events as events
use Rattle.ipc_exchange.specs.Apart.{IsApart, bytes_at, put_out}
use Rattle.ipc_exchange.specs.Exchange.{RoomyExchange, Shows, progress_of}
use Rattle.ipc_words.specs.Limits.{max_connections}
use Rattle.ipc_exchange.specs.Laws.{accepted, calls_in}
use Rattle.ipc_exchange.specs.declared.event.Event.{Event}
use Rattle.ipc_exchange.specs.declared.event.Event.TheVariants.{Connect, Piece, Finish, Reading, Copy, Output}
use Rattle.ipc_exchange.specs.declared.event.Reply.{Reply}
use Rattle.ipc_exchange.specs.declared.event.Reply.TheVariants.{Connected, Refused, Fed, Put, Done}
use Rattle.ipc_exchange.specs.declared.progress.ConnectRefused.TheVariants.{TooMany, NoMemory}
use Rattle.ipc_exchange.specs.declared.progress.Progress.TheVariants as progress

-- an event, and how it was answered
pub record Turn : Type 0 where
  pub event : Event
  pub reply : Reply

-- what happens by an event with this answer: nothing where a connection is refused, where bytes go
-- out, or for the number 0, which no connection has
abbrev pub happening : Event → Reply → List events.Event
happening (Connect space) (Connected number) = events.Connect space ∷ []
happening (Connect space) (Refused why) = []
happening (Connect space) (Fed done) = []
happening (Connect space) (Put bytes) = []
happening (Connect space) Done = []
happening (Piece zero bytes) reply = []
happening (Piece (suc place) bytes) reply = events.Piece place bytes.items ∷ []
happening (Finish zero) reply = []
happening (Finish (suc place)) reply = events.Finish place ∷ []
happening (Reading reading) reply = events.Reading reading ∷ []
happening Copy reply = events.Copy ∷ []
happening (Output connection room) reply = []

-- what goes out by it on the connection in each place
abbrev pub puts : Event → Reply → ℕ → List ℕ
puts (Output (suc place) room) (Put bytes) other = bytes_at place bytes.items other
puts event reply other = []

-- that happens, with the commands that the kernel was given for it; or bytes go out, and nothing
-- else happens
abbrev pub Goes : ExchangeParts → Event → Reply → List Asked → ExchangeParts → Type 0
Goes old (Output (suc place) room) (Put bytes) asked new =
    (asked ≡ []) × (new ≡ put_out place (length bytes.items) old)
Goes old event reply asked new = HappenAll MayLack old (happening event reply) asked new

-- the answer: a new connection's number, or why it was refused; whether the connection of a piece
-- goes on; the bytes that went out, as many as there were and had room
abbrev pub RepliesTo : ExchangeParts → Event → Reply → ExchangeParts → Type 0
RepliesTo old (Connect space) (Connected number) new = number ≡ length old.service.connections + 1
RepliesTo old (Connect space) (Refused why) new =
    why ≡ (if nat_le max_connections (length old.service.connections) then TooMany else NoMemory)
RepliesTo old (Piece zero bytes) (Fed done) new = done ≡ progress.Finished
RepliesTo old (Piece (suc place) bytes) (Fed done) new =
    done ≡ progress_of (connection_at new.service.connections place).stage
RepliesTo old (Finish connection) Done new = ⊤
RepliesTo old (Reading reading) Done new = ⊤
RepliesTo old Copy Done new = ⊤
RepliesTo old (Output zero room) (Put bytes) new = bytes.items ≡ []
RepliesTo old (Output (suc place) room) (Put bytes) new =
    bytes.items ≡ take (length room.items) (connection_at old.service.connections place).out
RepliesTo old _ _ new = ⊥

-- an event happens, and is answered, with the commands that the kernel was given for it
abbrev pub Turns : ExchangeParts → Turn → List Asked → ExchangeParts → Type 0
Turns old turn asked new =
    Goes old turn.event turn.reply asked new × RepliesTo old turn.event turn.reply new

-- so of an exchange, whatever parts it stood for
abbrev pub Replied : RoomyExchange → Event → Reply → RoomyExchange → Type 0
Replied old event reply new = (parts : ExchangeParts) → Shows old parts
    → (asked : List Asked) × (after : ExchangeParts)
    × Turns parts (record { event = event; reply = reply }) asked after × Shows new after

-- what happened in all
abbrev pub happened : List Turn → List events.Event
happened turns = flat_map (λ (turn : Turn). happening turn.event turn.reply) turns

-- what went out on the connection in a place, in order
abbrev pub went_out : List Turn → ℕ → List ℕ
went_out turns place = flat_map (λ (turn : Turn). puts turn.event turn.reply place) turns

-- events happened from these parts on, one after the other, each with its answer, and the exchange
-- stands for what came of it. By the rules alone, with no output, those events give `all`: and so
-- what went out on a connection, followed by what waits, is its bytes by the rules (`apart`). What
-- was asked of the kernel, and answered, gave the calls of the history
pub record Ran (first : ExchangeParts) (events : List Event) (replies : List Reply)
    (exchange : RoomyExchange) : Type 0 where
  pub turns : List Turn
  pub events_are : map (λ (turn : Turn). turn.event) turns ≡ events
  pub replies_are : map (λ (turn : Turn). turn.reply) turns ≡ replies
  pub asked : List Asked
  pub parts : ExchangeParts
  pub chain : Chain Turns first turns asked parts
  pub shows : Shows exchange parts
  pub all : ExchangeParts
  pub happens : HappenAll MayLack first (happened turns) asked all
  pub apart : IsApart (went_out turns) parts all
  pub calls : calls_in parts.service.kernel.history
      ≡ calls_in first.service.kernel.history ++ filter_map accepted asked

-- An exchange as its methods see it, and what it stands for.
use Rattle.std.specs.Prelude.{◌≡◌, ℕ, List, [], length, slice_index_or, true, if◌then◌else◌}
use Rattle.ipc_connection.specs.Taking.{Decoding, Holds}
use Rattle.ipc_connection.specs.declared.stage.Stage.{Stage}
use Rattle.ipc_connection.specs.declared.stage.Stage.TheVariants.{Greeting, Serving, Finished}
use Rattle.ipc_exchange.specs.Service.{ServiceParts, connection_at}
use Rattle.ipc_exchange.specs.Serving.{Asked, MayLack, Serves}
use Rattle.ipc_exchange.specs.Rooms.{Ready, RoomyService, service_of, stage_at}
use Rattle.ipc_exchange.specs.Events.{Event, ExchangeParts, Happens, held_at}
use Rattle.ipc_exchange.specs.Feeding.{HoldsFor, has_finished}
use Rattle.ipc_exchange.specs.declared.progress.Progress.{Progress}
use Rattle.ipc_exchange.specs.declared.progress.Progress.TheVariants as progress
use Rattle.ipc_connection.specs.Hearing.{heard_at_end}

-- the service, and a decoder for each connection
pub record RoomyExchange : Type 0 where
  pub service : RoomyService
  pub decoders : List Decoding

abbrev pub no_decoder : Decoding
no_decoder = record { kept = []; lost = 0; spent = true }

abbrev pub decoder_at : List Decoding → ℕ → Decoding
decoder_at decoders place = slice_index_or decoders place no_decoder

-- the bytes that came on a connection since its last whole frame: its decoder holds them; of one
-- that has ended none are held
abbrev pub ShowsHeld : Stage → Decoding → List ℕ → Type 0
ShowsHeld Finished decoder bytes = bytes ≡ []
ShowsHeld Greeting decoder bytes = Holds decoder bytes
ShowsHeld (Serving thread) decoder bytes = Holds decoder bytes

-- an exchange stands for these parts. Where there was no memory for a payload, its bytes are
-- counted and not kept, so that there may be more than one
pub record Shows (exchange : RoomyExchange) (parts : ExchangeParts) : Type 0 where
  pub service : parts.service ≡ service_of exchange.service
  pub long : length parts.held ≡ length exchange.decoders
  pub held : (place : ℕ) → ShowsHeld (stage_at exchange.service.connections place)
      (decoder_at exchange.decoders place) (held_at parts place)

-- what is true of every exchange
pub record IsExchange (exchange : RoomyExchange) : Type 0 where
  pub ready : Ready exchange.service
  pub long : length exchange.decoders ≡ length exchange.service.connections
  pub parts : ExchangeParts
  pub shows : Shows exchange parts

-- an event happened: whatever parts the exchange stood for, it stands now for what they are after
-- it
abbrev pub Happened : RoomyExchange → Event → RoomyExchange → Type 0
Happened old event new = (parts : ExchangeParts) → Shows old parts
    → (asked : List Asked) × (after : ExchangeParts) × Happens MayLack parts event asked after × Shows new after

-- the end of the input of one connection
pub record ClosesConnection (old : ServiceParts) (place : ℕ) (bytes : List ℕ) (new : ServiceParts) (decoder : Decoding) : Type 0 where
  pub asked : List Asked
  pub serves : Serves MayLack old place (heard_at_end bytes) asked new
  pub holds : HoldsFor (connection_at new.connections place).stage decoder []

abbrev pub progress_of : Stage → Progress
progress_of stage = (if has_finished stage then progress.Finished else progress.Running)

-- The connections of a service with their room: how many more answers each can hold without memory.
use Rattle.std.specs.Prelude.{◌≡◌, ◌≢◌, ℕ, suc, ◌<◌, ◌≤◌, List, length, map}
use Rattle.std.specs.Prelude.{slice_index_or, slice_set, IsTrue, ⊤, Result, Ok, Err}
use Rattle.ipc_words.specs.Limits.{table_slots}
use Rattle.ipc_words.specs.ThreadId.{number_of}
use Rattle.ipc_frame.specs.declared.fault.FrameFault.{FrameFault}
use Rattle.ipc_connection.specs.declared.heard.Heard.{Heard}
use Rattle.ipc_connection.specs.declared.heard.Heard.TheVariants as heard
use Rattle.ipc_history.specs.Threads.{is_live}
use Rattle.ipc_core.specs.KernelParts.{KernelParts}
use Rattle.ipc_core.specs.Laws.{IsSound}
pub use Rattle.ipc_core.specs.Laws.{is_call_of}
use Rattle.ipc_core.specs.Outcomes.{is_busy}
use Rattle.ipc_core.specs.declared.command.Command.{Command}
use Rattle.ipc_core.specs.declared.command.Command.TheVariants.{Open, Enter, Exreg, Broke, At, Advance, Take}
use Rattle.ipc_connection.specs.declared.asking.Reaction.{Reaction}
use Rattle.ipc_connection.specs.declared.asking.Reaction.TheVariants as reaction
use Rattle.ipc_connection.specs.declared.asking.Request.TheVariants as request
use Rattle.ipc_connection.specs.declared.replying.Told.{Told}
use Rattle.ipc_connection.specs.declared.replying.Told.TheVariants.{Opened, Entered, Exchanged, Refused, Faulted, Left}
use Rattle.ipc_connection.specs.declared.stage.Stage.{Stage}
use Rattle.ipc_connection.specs.declared.stage.Stage.TheVariants.{Greeting, Serving}
use Rattle.ipc_exchange.specs.Service.{ConnectionParts, ServiceParts, at_rest, nobody}

-- a connection, and how many more answers it can hold without memory
pub record RoomyConnection : Type 0 where
  pub connection : ConnectionParts
  pub free : ℕ

-- the kernel, the connections, and for each thread number the connection that had it last, 0 where
-- none had it
pub record RoomyService : Type 0 where
  pub kernel : KernelParts
  pub connections : List RoomyConnection
  pub table : List ℕ

abbrev pub connections_of : List RoomyConnection → List ConnectionParts
connections_of connections = map (λ (s : RoomyConnection). s.connection) connections

abbrev pub service_of : RoomyService → ServiceParts
service_of service = record { kernel = at_rest service.kernel; connections = connections_of service.connections }

abbrev pub roomless : RoomyConnection
roomless = record { connection = nobody; free = 0 }

abbrev pub roomy_at : List RoomyConnection → ℕ → RoomyConnection
roomy_at connections place = slice_index_or connections place roomless

abbrev pub stage_at : List RoomyConnection → ℕ → Stage
stage_at connections place = (roomy_at connections place).connection.stage

-- a connection that goes on has room for a fault, and for the outcome of its thread's call
pub record HasRoom (kernel : KernelParts) (roomy : RoomyConnection) : Type 0 where
  pub greeting : roomy.connection.stage ≡ Greeting → 1 ≤ roomy.free
  pub serving : (thread : ℕ) → roomy.connection.stage ≡ Serving thread → 1 ≤ roomy.free
  pub busy : (thread : ℕ) → roomy.connection.stage ≡ Serving thread → IsTrue (is_busy kernel thread) → 2 ≤ roomy.free

-- the thread of the connection in a place is live, and the table names the connection
pub record IsPlaced (kernel : KernelParts) (table : List ℕ) (place thread : ℕ) : Type 0 where
  pub live : IsTrue (is_live kernel.history thread)
  pub within : number_of thread < table_slots
  pub found : slice_index_or table (number_of thread) 0 ≡ suc place

-- and so the thread of each connection
abbrev pub ArePlaced : KernelParts → List ℕ → List RoomyConnection → Type 0
ArePlaced kernel table connections =
    (place thread : ℕ) → stage_at connections place ≡ Serving thread → IsPlaced kernel table place thread

-- what is true of a service between commands, but for the room of the connection in a place
pub record ReadyBut (but : ℕ) (service : RoomyService) : Type 0 where
  pub sound : IsSound service.kernel
  pub placed : ArePlaced service.kernel service.table service.connections
  pub table : length service.table ≡ table_slots
  pub room : (place : ℕ) → place ≢ but → HasRoom service.kernel (roomy_at service.connections place)

-- what is true of a service between commands
pub record Ready (service : RoomyService) : Type 0 where
  pub sound : IsSound service.kernel
  pub placed : ArePlaced service.kernel service.table service.connections
  pub table : length service.table ≡ table_slots
  pub room : (place : ℕ) → HasRoom service.kernel (roomy_at service.connections place)

-- a thread that the connection in a place may get: it is live, and no other connection has its
-- number
pub record IsFresh (kernel : KernelParts) (connections : List RoomyConnection) (place thread : ℕ) : Type 0 where
  pub live : IsTrue (is_live kernel.history thread)
  pub within : number_of thread < table_slots
  pub alone : (other rival : ℕ) → other ≢ place → stage_at connections other ≡ Serving rival
      → number_of rival ≢ number_of thread

-- where a thread was opened, it is such a one
abbrev pub MayGet : KernelParts → List RoomyConnection → ℕ → Told → Type 0
MayGet kernel connections place (Opened thread version) = IsFresh kernel connections place thread
MayGet kernel connections place Entered = ⊤
MayGet kernel connections place (Exchanged result control code moment) = ⊤
MayGet kernel connections place (Refused refusal) = ⊤
MayGet kernel connections place (Faulted class number) = ⊤
MayGet kernel connections place Left = ⊤

-- the table after something is told to the connection in a place
abbrev pub table_told : Told → ℕ → List ℕ → List ℕ
table_told (Opened thread version) place table = slice_set table (number_of thread) (suc place)
table_told Entered place table = table
table_told (Exchanged result control code moment) place table = table
table_told (Refused refusal) place table = table
table_told (Faulted class number) place table = table
table_told Left place table = table

-- no connection serves the thread
abbrev pub NoneServes : List RoomyConnection → ℕ → Type 0
NoneServes connections thread = (place : ℕ) → stage_at connections place ≢ Serving thread

-- a command that a connection at a stage may ask for: a call is of its own thread
abbrev pub SuitsStage : Stage → Command → Type 0
SuitsStage stage (Enter thread call) = stage ≡ Serving thread
SuitsStage stage (Broke thread) = ⊥
SuitsStage stage (Open number space) = ⊤
SuitsStage stage (Exreg thread target control) = ⊤
SuitsStage stage (At reading) = ⊤
SuitsStage stage Advance = ⊤
SuitsStage stage (Take thread) = ⊤

-- what may be done for a connection at a stage, with room for so many answers
abbrev pub SuitsReaction : Stage → ℕ → Reaction → Type 0
SuitsReaction stage free (reaction.Ask (request.Open number version)) = 3 ≤ free
SuitsReaction stage free (reaction.Ask (request.Enter thread call)) = (3 ≤ free) × (stage ≡ Serving thread)
SuitsReaction stage free (reaction.Ask (request.Exreg thread target control)) = 3 ≤ free
SuitsReaction stage free reaction.Leave = 1 ≤ free
SuitsReaction stage free (reaction.Refuse class number) = 1 ≤ free
SuitsReaction stage free reaction.Nothing = ⊤

-- what is told with room for so many answers: what ends a connection needs no more than one
abbrev pub SuitsTold : ℕ → Told → Type 0
SuitsTold free (Opened thread version) = 3 ≤ free
SuitsTold free Entered = 3 ≤ free
SuitsTold free (Exchanged result control code moment) = 3 ≤ free
SuitsTold free (Refused refusal) = 3 ≤ free
SuitsTold free (Faulted class number) = 1 ≤ free
SuitsTold free Left = 1 ≤ free

-- room for an answer, a fault and an outcome is wanted for a frame that the kernel is asked about
abbrev pub WantsRoom : Result Heard FrameFault → Type 0
WantsRoom (Ok (heard.Hello number version)) = ⊤
WantsRoom (Ok (heard.Call call)) = ⊤
WantsRoom (Ok (heard.Exreg target control)) = ⊤
WantsRoom (Ok heard.Bye) = ⊥
WantsRoom (Err fault) = ⊥

-- the connection in a place can be served what was heard
pub record CanServe (service : RoomyService) (place : ℕ) (said : Result Heard FrameFault) : Type 0 where
  pub within : place < length service.connections
  pub ready : Ready service
  pub room : WantsRoom said → 3 ≤ (roomy_at service.connections place).free

-- this can be done for it
pub record CanReact (service : RoomyService) (place : ℕ) (reaction : Reaction) : Type 0 where
  pub within : place < length service.connections
  pub ready : Ready service
  pub suits : SuitsReaction (stage_at service.connections place) (roomy_at service.connections place).free reaction

-- can give the kernel a command
pub record CanDo (service : RoomyService) (place : ℕ) (command : Command) : Type 0 where
  pub within : place < length service.connections
  pub ready : Ready service
  pub room : 3 ≤ (roomy_at service.connections place).free
  pub suits : SuitsStage (stage_at service.connections place) command

-- and can be told something
pub record CanTell (service : RoomyService) (place : ℕ) (told : Told) : Type 0 where
  pub within : place < length service.connections
  pub ready : ReadyBut place service
  pub room : SuitsTold (roomy_at service.connections place).free told
  pub fresh : MayGet service.kernel service.connections place told

-- the service is ready again, and has the same connections
pub record StaysReady (old new : RoomyService) : Type 0 where
  pub ready : Ready new
  pub same : length new.connections ≡ length old.connections

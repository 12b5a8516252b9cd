-- How what is heard on a connection is served.
use Rattle.std.specs.Prelude.{◌≡◌, ℕ, ◌-◌, ◌^◌, List, [], ◌∷◌, Option, Some, None, Result, slice_set, ◌⊎◌}
use Rattle.ipc_frame.specs.declared.fault.FrameFault.{FrameFault}
use Rattle.ipc_frame.specs.declared.frame.Frame.{Frame}
use Rattle.ipc_frame.specs.declared.version.WireVersion.{WireVersion}
use Rattle.ipc_frame.specs.declared.version.WireVersion.TheVariants.{One}
use Rattle.ipc_frame.specs.Stream.{Stream}
use Rattle.ipc_history.specs.Holding.{marked_to}
use Rattle.ipc_core.specs.Again.{MakesRoom}
use Rattle.ipc_core.specs.KernelParts.{KernelParts, nothing_held}
use Rattle.ipc_core.specs.Obeying.{Obeys, MayObey, empty_kernel}
use Rattle.ipc_core.specs.declared.command.Answer.{Answer}
use Rattle.ipc_core.specs.declared.command.Command.{Command}
use Rattle.ipc_core.specs.declared.command.Command.TheVariants as command
use Rattle.ipc_connection.specs.Asking.{asks, command_of, version_asked}
use Rattle.ipc_connection.specs.Chain.{Chain}
use Rattle.ipc_connection.specs.Replying.{next_stage, thread_left, told_of}
use Rattle.ipc_connection.specs.declared.asking.Reaction.{Reaction}
use Rattle.ipc_connection.specs.declared.asking.Reaction.TheVariants.{Ask, Leave, Refuse, Nothing}
use Rattle.ipc_connection.specs.Hearing.{IsCut, heard_in, heard_of}
use Rattle.ipc_connection.specs.Taking as taking
use Rattle.ipc_connection.specs.declared.heard.Heard.{Heard}
use Rattle.ipc_connection.specs.declared.replying.Told.{Told}
use Rattle.ipc_connection.specs.declared.replying.Told.TheVariants.{Faulted, Left}
use Rattle.ipc_exchange.specs.Service.{ServiceParts, at_rest, connection_at, delivered, told_connection}
use Rattle.ipc_exchange.specs.Rooms.{WantsRoom}

-- whether there is memory for all that is wanted
pub data Memory : Type 0 where
  Ample : Memory
  MayLack : Memory

-- a command that the kernel was given, and its answer
pub record Asked : Type 0 where
  pub command : Command
  pub answer : Answer

abbrev pub AnswersIn : Memory → KernelParts → Command → Answer → KernelParts → Type 0
AnswersIn Ample old command answer new = Obeys old command answer new
AnswersIn MayLack old command answer new = MayObey old command answer new

-- the kernel at first: no trace reads its entries, so each counts as marked
abbrev pub every_entry : ℕ
every_entry = 2 ^ 64 - 1

abbrev pub first_kernel : ℕ → ℕ → KernelParts
first_kernel entries_limit calls_limit = record (empty_kernel entries_limit calls_limit) { held = marked_to every_entry nothing_held }

-- a command is obeyed. Where K5 is the first cause to refuse it, memory first lets go of what is
-- marked and need not be held; the history stays what it was. Between commands a kernel is seen at
-- rest
pub record ObeysIn (memory : Memory) (old : KernelParts) (command : Command) (answer : Answer) (new : KernelParts) : Type 0 where
  pub roomy : KernelParts
  pub makes_room : MakesRoom old.held.mark old command roomy
  pub after : KernelParts
  pub answers : AnswersIn memory roomy command answer after
  pub new_is : new ≡ at_rest after

-- a thread, if there is one, ends
abbrev pub Leaves : Memory → KernelParts → Option ℕ → List Asked → KernelParts → Type 0
Leaves memory old None asked new = (asked ≡ []) × (new ≡ old)
Leaves memory old (Some thread) asked new = (answer : Answer)
    × (asked ≡ record { command = command.Broke thread; answer = answer } ∷ [])
    × ObeysIn memory old (command.Broke thread) answer new

-- something is told to the connection in a place: its frame goes out; where the connection ends so,
-- its thread ends; then each thread is told its outcome
pub record Tells (memory : Memory) (old : ServiceParts) (place : ℕ) (told : Told)
    (asked : List Asked) (new : ServiceParts) : Type 0 where
  pub kernel : KernelParts
  pub leaves : Leaves memory old.kernel (thread_left (connection_at old.connections place).stage
      (next_stage (connection_at old.connections place).stage told)) asked kernel
  pub new_is : new ≡ delivered kernel (slice_set old.connections place (told_connection told (connection_at old.connections place)))

-- the kernel obeys a command for the connection in a place that named a version, and its answer is
-- told, at the moment after it
pub record Does (memory : Memory) (old : ServiceParts) (place : ℕ) (version : WireVersion) (command : Command)
    (asked : List Asked) (new : ServiceParts) : Type 0 where
  pub answer : Answer
  pub between : KernelParts
  pub obeys : ObeysIn memory old.kernel command answer between
  pub rest : List Asked
  pub asked_is : asked ≡ record { command = command; answer = answer } ∷ rest
  pub tells : Tells memory (record { kernel = between; connections = old.connections }) place
      (told_of version between.moment answer) rest new

-- a command of nobody's is obeyed, and each thread is told its outcome
abbrev pub Answers : Memory → ServiceParts → Command → Answer → ServiceParts → Type 0
Answers memory old command answer new =
    (between : KernelParts) × ObeysIn memory old.kernel command answer between × (new ≡ delivered between old.connections)

abbrev pub DoesAlone : Memory → ServiceParts → Command → ServiceParts → Type 0
DoesAlone memory old command new = (answer : Answer) × Answers memory old command answer new

-- what is done for the connection in a place
abbrev pub ServesBy : Memory → ServiceParts → ℕ → Reaction → List Asked → ServiceParts → Type 0
ServesBy memory old place Nothing asked new = (asked ≡ []) × (new ≡ old)
ServesBy memory old place (Ask request) asked new =
    Does memory old place (version_asked request One) (command_of request (connection_at old.connections place).space) asked new
ServesBy memory old place Leave asked new = Tells memory old place Left asked new
ServesBy memory old place (Refuse class number) asked new = Tells memory old place (Faulted class number) asked new

-- what was heard there is served as the stage of the connection asks
unfoldable pub Serves : Memory → ServiceParts → ℕ → Result Heard FrameFault → List Asked → ServiceParts → Type 0
Serves memory old place heard asked new = ServesBy memory old place (asks (connection_at old.connections place).stage heard) asked new

-- one after the other
abbrev pub ServesAll : Memory → ServiceParts → ℕ → List (Result Heard FrameFault) → List Asked → ServiceParts → Type 0
ServesAll memory old place heard asked new =
    Chain (λ before one told after. Serves memory before place one told after) old heard asked new

-- there may be no memory for what a frame says: for the room that serving it wants, which BYE does
-- not want, or for its call
abbrev pub MayWant : Frame → Type 0
MayWant frame = WantsRoom (heard_of frame) ⊎ taking.MayLack frame

-- what is heard of a stream: all that it says; where a growth was refused the first of it, and
-- then, in the place of what such a frame says, that there is no memory
abbrev pub Hears : Memory → Stream → List (Result Heard FrameFault) → Type 0
Hears Ample stream heard = heard ≡ heard_in stream
Hears MayLack stream heard = (heard ≡ heard_in stream) ⊎ IsCut MayWant stream heard

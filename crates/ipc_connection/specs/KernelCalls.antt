-- The calls of a kernel port that a connection makes.
use Rattle.std.specs.Prelude.{◌≡◌, List, [], ◌∷◌, ◌++◌, Option, Some, None, Result, ⊤}
use Rattle.ipc_frame.specs.declared.fault.FrameFault.{FrameFault}
use Rattle.ipc_frame.specs.declared.frame.Frame.{Frame}
use Rattle.ipc_frame.specs.declared.frame.Frame.TheVariants as frame
use Rattle.ipc_connection.specs.Asking.{asks}
use Rattle.ipc_connection.specs.Chain.{Chain}
use Rattle.ipc_connection.specs.Replying.{frame_of, next_stage}
use Rattle.ipc_connection.specs.declared.asking.Reaction.{Reaction}
use Rattle.ipc_connection.specs.declared.asking.Reaction.TheVariants.{Ask, Leave, Refuse, Nothing}
use Rattle.ipc_connection.specs.declared.asking.Request.{Request}
use Rattle.ipc_connection.specs.declared.stage.Stage.{Stage}
use Rattle.ipc_connection.specs.declared.stage.Stage.TheVariants.{Finished}
use Rattle.ipc_connection.specs.declared.heard.Heard.{Heard}
use Rattle.ipc_connection.specs.declared.replying.Told.{Told}
use Rattle.ipc_connection.specs.declared.replying.Told.TheVariants.{Opened, Entered, Exchanged, Refused, Faulted, Left}

-- a call of a kernel port: a request with its answer, a frame that is posted, or the end of the
-- thread
pub data KernelCall : Type 0 where
  Asks : Request → Told → KernelCall
  Posts : Frame → KernelCall
  Breaks : KernelCall

-- a kernel port that tells its calls at the end told them before, and had these more, and no others
abbrev pub TellsMore : Option (List KernelCall) → Option (List KernelCall) → List KernelCall → Type 0
TellsMore old None calls = ⊤
TellsMore None (Some ys) calls = ⊥
TellsMore (Some xs) (Some ys) calls = ys ≡ xs ++ calls

-- what a kernel port leaves to be posted: it posts itself what it accepted, so a refusal or a fault
abbrev pub post_of : Option Frame → List KernelCall
post_of None = []
post_of (Some frame) = Posts frame ∷ []

abbrev pub posted : Told → Option Frame
posted (Opened thread version) = None
posted Entered = None
posted (Exchanged result control code moment) = None
posted (Refused refusal) = frame_of refusal
posted (Faulted class number) = Some (frame.Fault class number)
posted Left = None

abbrev pub left_to_post : Told → List KernelCall
left_to_post told = post_of (posted told)

-- the kernel port is asked, and what it left is posted
abbrev pub AsksKernel : Stage → Request → List KernelCall → Stage → Type 0
AsksKernel stage request calls next =
    (told : Told) × (calls ≡ Asks request told ∷ left_to_post told)
    × (next ≡ next_stage stage told)

-- a connection ends so
abbrev pub EndsBy : Told → List KernelCall → Stage → Type 0
EndsBy told calls next = (calls ≡ left_to_post told) × (next ≡ Finished)

abbrev pub TurnsBy : Stage → Reaction → List KernelCall → Stage → Type 0
TurnsBy stage Nothing calls next = (calls ≡ []) × (next ≡ stage)
TurnsBy stage (Ask request) calls next = AsksKernel stage request calls next
TurnsBy stage Leave calls next = EndsBy Left calls next
TurnsBy stage (Refuse class number) calls next = EndsBy (Faulted class number) calls next

-- what is heard at a stage is served with these calls
unfoldable pub Turns : Stage → Result Heard FrameFault → List KernelCall → Stage → Type 0
Turns stage heard calls next = TurnsBy stage (asks stage heard) calls next

-- one after the other
abbrev pub Talks : Stage → List (Result Heard FrameFault) → List KernelCall → Stage → Type 0
Talks stage heard calls next = Chain Turns stage heard calls next

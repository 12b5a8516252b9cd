-- How what is heard is served, and how a connection ends by it.
use Rattle.std.specs.Prelude.{◌≡◌, List, [], ◌∷◌, Result, ⊤}
use Rattle.ipc_words.specs.ThreadId.{number_of}
use Rattle.ipc_frame.specs.declared.fault.FrameFault.{FrameFault}
use Rattle.ipc_connection.specs.declared.heard.Heard.{Heard}
use Rattle.ipc_connection.specs.Asking.{asks}
use Rattle.ipc_connection.specs.Chain.{Chain}
use Rattle.ipc_connection.specs.KernelCalls.{Asks, KernelCall, left_to_post}
use Rattle.ipc_connection.specs.Replying.{next_stage}
use Rattle.ipc_connection.specs.declared.asking.Request.{Request}
use Rattle.ipc_connection.specs.declared.asking.Request.TheVariants.{Open, Enter, Exreg}
use Rattle.ipc_connection.specs.declared.asking.Reaction.{Reaction}
use Rattle.ipc_connection.specs.declared.asking.Reaction.TheVariants.{Ask, Leave, Refuse, Nothing}
use Rattle.ipc_connection.specs.declared.replying.Told.{Told}
use Rattle.ipc_connection.specs.declared.replying.Told.TheVariants.{Opened, Entered, Exchanged, Refused, Faulted, Left}
use Rattle.ipc_core.specs.declared.refusal.Refusal.TheVariants.{NoThread}
use Rattle.ipc_connection.specs.declared.stage.Stage.{Stage}
use Rattle.ipc_connection.specs.declared.stage.Stage.TheVariants.{Finished}
use Rattle.ipc_session.specs.declared.ending.Ending.{Ending}
use Rattle.ipc_session.specs.declared.ending.Ending.TheVariants.{Protocol, Gone, Bye}
use Rattle.ipc_session.specs.declared.turned.Turned.{Turned}
use Rattle.ipc_session.specs.declared.turned.Turned.TheVariants.{On, Over}

-- why a connection ends that was told so: BYE, a thread that is gone, else a FAULT
abbrev pub ending_by : Told → Ending
ending_by Left = Bye
ending_by (Refused NoThread) = Gone
ending_by _ = Protocol

abbrev pub turned_at : Told → Stage → Turned
turned_at told Finished = Over (ending_by told)
turned_at told stage = On stage

-- what comes after what was told at a stage
abbrev pub ends_with : Told → Stage → Turned
ends_with told stage = turned_at told (next_stage stage told)

-- what a kernel port answers: the thread of that number that it opened, that it entered the call,
-- what ExchangeRegisters answers, or a refusal
abbrev pub IsAnswer : Request → Told → Type 0
IsAnswer (Open number version) (Opened thread named) = (number_of thread ≡ number) × (named ≡ version)
IsAnswer (Enter thread call) Entered = ⊤
IsAnswer (Exreg thread target control) (Exchanged result stopped code moment) = ⊤
IsAnswer request (Refused refusal) = ⊤
IsAnswer request told = ⊥

-- the kernel port is asked, and what it left is posted
abbrev pub AsksSo : Stage → Request → List KernelCall → Turned → Type 0
AsksSo stage request calls turned =
    (told : Told) × IsAnswer request told × (calls ≡ Asks request told ∷ left_to_post told) × (turned ≡ ends_with told stage)

abbrev pub ServesBy : Stage → Reaction → List KernelCall → Turned → Type 0
ServesBy stage Nothing calls turned = (calls ≡ []) × (turned ≡ On stage)
ServesBy stage (Ask request) calls turned = AsksSo stage request calls turned
ServesBy stage Leave calls turned = (calls ≡ []) × (turned ≡ Over Bye)
ServesBy stage (Refuse class number) calls turned =
    (calls ≡ left_to_post (Faulted class number)) × (turned ≡ ends_with (Faulted class number) stage)

-- what is heard at a stage is served with these calls
unfoldable pub Serves : Stage → Result Heard FrameFault → List KernelCall → Turned → Type 0
Serves stage heard calls turned = ServesBy stage (asks stage heard) calls turned

-- a connection that has ended serves nothing more
abbrev pub Steps : Turned → Result Heard FrameFault → List KernelCall → Turned → Type 0
Steps (On stage) heard calls next = Serves stage heard calls next
Steps (Over ending) heard calls next = ⊥

-- what was heard is served, one after the other, with these calls
abbrev pub ServesAll : Turned → List (Result Heard FrameFault) → List KernelCall → Turned → Type 0
ServesAll before heard calls after = Chain Steps before heard calls after

-- What a step does to the kernel, and how it is answered. A step is a command of the kernel, and a
-- seat where a thread calls.
use Rattle.std.specs.Prelude.{◌≡◌, ℕ, ◌+◌, ◌==◌, ◌&&◌, List, Option, Some, None, Bool, true, false, MatchBool, ⊤}
use Rattle.ipc_words.specs.ThreadId.{number_of}
use Rattle.ipc_core.specs.Effects.{Ticks}
use Rattle.ipc_core.specs.KernelParts.{KernelParts}
use Rattle.ipc_core.specs.Again.{MayObeyAgain}
use Rattle.ipc_core.specs.Outcomes.{made_by}
use Rattle.ipc_core.specs.declared.answers.Advance.TheVariants as advance
use Rattle.ipc_core.specs.declared.command.Answer.{Answer}
use Rattle.ipc_core.specs.declared.command.Answer.TheVariants.{Opened, Entered, Exchanged, Done, Advanced, Refused}
use Rattle.ipc_core.specs.declared.command.Command.{Command}
use Rattle.ipc_core.specs.declared.command.Command.TheVariants.{Open, Enter, Exreg, Broke, At, Advance, Take}
use Rattle.ipc_core.specs.declared.refusal.Refusal.TheVariants.{NoThread}
use Rattle.ipc_frame.specs.declared.version.WireVersion.{WireVersion}
use Rattle.ipc_connection.specs.Replying.{told_of}
use Rattle.ipc_connection.specs.declared.asking.Request.{Request}
use Rattle.ipc_connection.specs.declared.asking.Request.TheVariants as request
use Rattle.ipc_connection.specs.declared.replying.Told.{Told}
use Rattle.ipc_connection.specs.declared.replying.Told.TheVariants as told
use Rattle.ipc_history.specs.CallParts.{CallParts}
use Rattle.ipc_history.specs.declared.entry.Entry.{Entry}
use Rattle.ipc_seats.specs.declared.seated.seats.CallSeat.{CallSeat}
use Rattle.ipc_seats.specs.declared.seated.seats.TakeSeat.{TakeSeat}
use Rattle.ipc_seats.specs.declared.upkeep.Upkeep.{Upkeep}
use Rattle.ipc_seats.specs.Upkeeping.{LetsGo, noted}

-- the seat is as it was
pub record SameSeat {C : Type 0} (seat after : CallSeat C) : Type 0 where
  pub thread : after.thread ≡ seat.thread
  pub made : after.made ≡ seat.made

-- the seat rose by 1
pub record RisenSeat {C : Type 0} (seat after : CallSeat C) : Type 0 where
  pub thread : after.thread ≡ seat.thread
  pub made : after.made ≡ seat.made + 1

-- this is the seat of a thread that was opened, which made nothing
abbrev pub Sits : {C : Type 0} → Option (CallSeat C) → ℕ → Type 0
Sits None thread = ⊥
Sits (Some seat) thread = (seat.thread ≡ thread) × (seat.made ≡ 0)

-- a call of this thread was entered by its seat, which rose by 1
abbrev pub RisesFor : {C : Type 0} → ℕ → Option (CallSeat C) → Option (CallSeat C) → Type 0
RisesFor thread (Some seat) (Some after) = (seat.thread ≡ thread) × RisenSeat seat after
RisesFor thread _ _ = ⊥

-- the seat is there as before, or there is none as before
abbrev pub SitsStill : {C : Type 0} → Option (CallSeat C) → Option (CallSeat C) → Type 0
SitsStill None None = ⊤
SitsStill (Some seat) (Some after) = SameSeat seat after
SitsStill _ _ = ⊥

-- this is the seat of this thread
abbrev pub SitsFor : {C : Type 0} → Option (CallSeat C) → ℕ → Type 0
SitsFor None thread = ⊥
SitsFor (Some seat) thread = seat.thread ≡ thread

-- the seat of a thread, whose amount is the kernel's count
abbrev pub is_seat_of : {C : Type 0} → List Entry → Option (CallSeat C) → ℕ → Bool
is_seat_of history None thread = false
is_seat_of history (Some seat) thread = (seat.thread == thread) && (seat.made == made_by history thread)

-- a call and an ExchangeRegisters want their thread's seat, whose amount is the kernel's count; an
-- outcome is taken by a take seat alone
abbrev pub has_right : {C : Type 0} → List Entry → Option (CallSeat C) → Command → Bool
has_right history seat (Enter thread call) = is_seat_of history seat thread
has_right history seat (Exreg thread target control) = is_seat_of history seat thread
has_right history seat (Take thread) = false
has_right history seat (Open number space) = true
has_right history seat (Broke thread) = true
has_right history seat (At reading) = true
has_right history seat Advance = true

-- what a step does after its clock reading: what the kernel may do and answer to the command, which
-- is obeyed once more where K5 is the first cause to refuse it, behind a compaction up to the mark;
-- K6 where it has no right to it
unfoldable pub StepDoes : {C : Type 0} → KernelParts → Option (CallSeat C) → Command → Answer → KernelParts → Type 0
StepDoes old seat command answer new =
    MatchBool (has_right old.history seat command) (MayObeyAgain old.held.mark old command answer new)
    ((answer ≡ Refused NoThread) × (new ≡ old))

-- a step: the clock reading, and then its command
pub record Acts {C : Type 0} (old new : KernelParts) (now : ℕ) (seat : Option (CallSeat C)) (command : Command)
    (answer : Answer) : Type 0 where
  pub between : KernelParts
  pub ticks : Ticks old between now
  pub does : StepDoes between seat command answer new

-- a step, before which memory lets go of entries where that is due
pub record ActsOn {C : Type 0} (upkeep after : Upkeep) (old new : KernelParts) (now : ℕ) (seat : Option (CallSeat C))
    (command : Command) (answer : Answer) : Type 0 where
  pub before : KernelParts
  pub lets_go : LetsGo (noted command upkeep) after old before
  pub acts : Acts before new now seat command answer

-- a step of a connection's reader, told as its answer is, at the moment after it
pub record AsksOn {C : Type 0} (upkeep after : Upkeep) (old new : KernelParts) (now : ℕ) (seat : Option (CallSeat C))
    (version : WireVersion) (command : Command) (said : Told) : Type 0 where
  pub answer : Answer
  pub acts : ActsOn upkeep after old new now seat command answer
  pub told_is : said ≡ told_of version new.moment answer

-- an answer to a step: of its kind and of its thread. The seat rises by an accepted call and stays
-- else; an open makes one
unfoldable pub AnswersStep : {C : Type 0} → Option (CallSeat C) → Command → Answer → Option (CallSeat C) → Type 0
AnswersStep seat (Open number space) (Opened thread) after = Sits after thread × (number_of thread ≡ number)
AnswersStep seat (Enter thread call) (Entered number) after = RisesFor thread seat after
AnswersStep seat (Exreg thread target control) (Exchanged answer) after = SitsFor seat thread × SitsStill seat after
AnswersStep seat (Open number space) (Refused refusal) after = SitsStill seat after
AnswersStep seat (Enter thread call) (Refused refusal) after = SitsStill seat after
AnswersStep seat (Exreg thread target control) (Refused refusal) after = SitsStill seat after
AnswersStep seat (Broke thread) Done after = SitsStill seat after
AnswersStep seat (Broke thread) (Refused refusal) after = SitsStill seat after
AnswersStep seat (At reading) Done after = SitsStill seat after
AnswersStep seat Advance (Advanced advance) after = SitsStill seat after
AnswersStep seat (Take thread) (Refused refusal) after = SitsStill seat after
AnswersStep seat _ _ after = ⊥

-- the seat of the outcomes of a thread that was opened, which took nothing
abbrev pub GivesSeat : {T : Type 0} → Answer → Option (TakeSeat T) → Type 0
GivesSeat (Opened thread) (Some takes) = (takes.thread ≡ thread) × (takes.taken ≡ 0)
GivesSeat (Opened thread) None = ⊥
GivesSeat _ _ = ⊤

-- a call that was refused is handed back
abbrev pub HandsBack : Command → Answer → Option CallParts → Type 0
HandsBack (Enter thread call) (Refused refusal) back = back ≡ Some call
HandsBack command answer back = ⊤

-- a reader's request, what it was told, and the seat of its end: of the request's kind, and by the
-- seat of its own thread
unfoldable pub Asked : {C : Type 0} → Told → Request → Option (CallSeat C) → Option (CallSeat C) → Type 0
Asked (told.Refused refusal) asked seat after = SitsStill seat after
Asked (told.Opened thread named) (request.Open number version) seat after =
    Sits after thread × (number_of thread ≡ number) × (named ≡ version)
Asked told.Entered (request.Enter thread call) seat after = RisesFor thread seat after
Asked (told.Exchanged result stopped code moment) (request.Exreg thread target control) seat after =
    SitsFor seat thread × SitsStill seat after
Asked _ _ seat after = ⊥

-- no transfer goes on
abbrev pub is_idle : Answer → Bool
is_idle (Advanced advance.Idle) = true
is_idle _ = false

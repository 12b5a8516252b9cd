-- What is true of every list of events that led to what stands under the lock.
use Rattle.std.specs.Prelude.{◌≡◌, ◌==◌, ◌&&◌, ◌++◌, ◌∷◌, [], ℕ, List, Bool, All, Contains, Some, false, filter, map, slice_get, true, if◌then◌else◌, ⊤}
use Rattle.std.specs.List.{IsDistinct, list_any}
use Rattle.ipc_connection.specs.Replying.{reply}
use Rattle.ipc_connection.specs.declared.replying.Told.{Told}
use Rattle.ipc_connection.specs.declared.replying.Told.TheVariants as told
use Rattle.ipc_core.specs.Books.{TookOthers}
use Rattle.ipc_core.specs.Outcomes.{IsTaken, is_among}
use Rattle.ipc_frame.specs.declared.frame.Frame.{Frame}
use Rattle.ipc_frame.specs.declared.version.WireVersion.{WireVersion}
use Rattle.ipc_history.specs.Calls.{caller_of, is_called}
use Rattle.ipc_history.specs.Legal.{Legal, Quiet}
use Rattle.ipc_history.specs.Outcomes.{OutcomeParts, outcome_of}
use Rattle.ipc_history.specs.Paired.{Paired}
use Rattle.ipc_history.specs.declared.entry.Entry.{Entry}
use Rattle.ipc_waits.specs.Finding.{IsRising}
use Rattle.ipc_connection.specs.declared.given.Given.{Given}
use Rattle.ipc_connection.specs.declared.given.Given.TheVariants as given
pub use Rattle.ipc_seats.specs.Giving.{given_in}
use Rattle.ipc_seats.specs.Making.{accepted_of, made_in}
use Rattle.ipc_seats.specs.Owning.{done_by, numbers_by}
use Rattle.ipc_seats.specs.Places.{is_in}
use Rattle.ipc_seats.specs.declared.events.Event.{Event}
use Rattle.ipc_seats.specs.declared.events.Event.TheVariants as event
use Rattle.ipc_seats.specs.declared.events.Gift.{Gift}
use Rattle.ipc_lock.specs.InsideParts.{InsideParts}
use Rattle.ipc_lock.specs.Turns.{Runs}

-- what an event gave connections, in order
abbrev pub gifts_by : Event → List Gift
gifts_by (event.Acted now commands answers gave) = gave
gifts_by (event.Asked now place number requests space said gave) = gave
gifts_by (event.Ended now place number is_by_reader gave) = gave
gifts_by (event.Looked place gave) = gave
gifts_by (event.Laid gave) = gave
gifts_by (event.Worked place number gave) = gave
gifts_by (event.Connected place number) = []
gifts_by (event.Declined number) = []
gifts_by (event.Posted place number said) = []
gifts_by (event.Released place number) = []
gifts_by (event.Took thread taken outcomes) = []
gifts_by (event.Marked upto) = []
gifts_by event.Parted = []

-- the number of the call whose outcome this is
abbrev pub call_of : Given → List ℕ
call_of (given.Outcome version outcome) = outcome.call ∷ []
call_of (given.Frame frame) = []

-- the calls whose outcomes a connection was given, in order
abbrev pub calls_given : List Given → List ℕ
calls_given [] = []
calls_given (next ∷ more) = call_of next ++ calls_given more

-- the same of all connections
abbrev pub calls_of : List Gift → List ℕ
calls_of [] = []
calls_of (gift ∷ gifts) = call_of gift.given ++ calls_of gifts

-- the calls whose outcomes an event told, in order: those that it gave connections, or that a seat
-- took outside all boxes
abbrev pub calls_by : Event → List ℕ
calls_by (event.Took thread taken outcomes) = map (λ (o : OutcomeParts). o.call) outcomes
calls_by (event.Acted now commands answers gave) = calls_of gave
calls_by (event.Asked now place number requests space said gave) = calls_of gave
calls_by (event.Ended now place number is_by_reader gave) = calls_of gave
calls_by (event.Looked place gave) = calls_of gave
calls_by (event.Laid gave) = calls_of gave
calls_by (event.Worked place number gave) = calls_of gave
calls_by (event.Connected place number) = []
calls_by (event.Declined number) = []
calls_by (event.Posted place number said) = []
calls_by (event.Released place number) = []
calls_by (event.Marked upto) = []
calls_by event.Parted = []

-- the same of a log
abbrev pub calls_told : List Event → List ℕ
calls_told [] = []
calls_told (next ∷ log) = calls_by next ++ calls_told log

-- what a log leads to is a kernel with a legal, quiet and paired history, whatever was done
pub record LeadsWell (inside : InsideParts) : Type 0 where
  pub legal : Legal inside.kernel.history
  pub quiet : Quiet inside.kernel.history
  pub paired : Paired inside.kernel.history

abbrev pub LogsLeadWell : (C P : Type 0) → Type 0
LogsLeadWell C P = (log : List Event) (inside : InsideParts) → Runs C P log inside → LeadsWell inside

-- the numbers that the events of a log gave
abbrev pub numbers_in : List Event → List ℕ
numbers_in [] = []
numbers_in (next ∷ log) = numbers_by next ++ numbers_in log

-- no two connections have one number
pub record NumbersOnce (log : List Event) (inside : InsideParts) : Type 0 where
  pub numbers : inside.numbers ≡ numbers_in log
  pub once : IsDistinct (λ (a b : ℕ). a == b) (numbers_in log)

abbrev pub LogsNumberOnce : (C P : Type 0) → Type 0
LogsNumberOnce C P = (log : List Event) (inside : InsideParts) → Runs C P log inside → NumbersOnce log inside

-- the threads that its history says were opened, the calls, and the ExchangeRegisters are those
-- that the events of the log made, in that order, and no others
abbrev pub LogsMakeHistory : (C P : Type 0) → Type 0
LogsMakeHistory C P = (log : List Event) (inside : InsideParts) → Runs C P log inside → accepted_of inside.kernel.history ≡ made_in log

-- the outcomes that were told, to connections and outside all boxes, are those that the kernel says
-- were taken, in that order, each of a call that was made and is over, and each once. Of each
-- thread that of every call but the last is among them
pub record TellsOnce (log : List Event) (inside : InsideParts) : Type 0 where
  pub taken : inside.kernel.taken ≡ calls_told log
  pub over : All (IsTaken inside.kernel.history) (calls_told log)
  pub once : IsDistinct (λ (a b : ℕ). a == b) (calls_told log)
  pub others : TookOthers inside.kernel.history (calls_told log)

abbrev pub LogsTellOnce : (C P : Type 0) → Type 0
LogsTellOnce C P = (log : List Event) (inside : InsideParts) → Runs C P log inside → TellsOnce log inside

-- what a log gave the connection of a number, in order
abbrev pub given_to : ℕ → List Event → List Given
given_to number [] = []
given_to number (next ∷ log) = given_in number (gifts_by next) ++ given_to number log

-- the first list has items of the second one, in their order
pub data IsPart : List ℕ → List ℕ → Type 0 where
  Ends : IsPart [] []
  Skips : (n : ℕ) (part whole : List ℕ) → IsPart part whole → IsPart part (n ∷ whole)
  Keeps : (n : ℕ) (part whole : List ℕ) → IsPart part whole → IsPart (n ∷ part) (n ∷ whole)

-- the outcomes that the connection of a number was given are some of those that the kernel says
-- were taken, in that order, and no two are of one call. Those of one thread come in the order of
-- its calls
pub record GivesOnce (log : List Event) (inside : InsideParts) (number : ℕ) : Type 0 where
  pub part : IsPart (calls_given (given_to number log)) inside.kernel.taken
  pub once : IsDistinct (λ (a b : ℕ). a == b) (calls_given (given_to number log))
  pub order : (thread : ℕ) → IsRising (filter (λ n. caller_of inside.kernel.history n == thread) (calls_given (given_to number log)))

abbrev pub LogsGiveOnce : (C P : Type 0) → Type 0
LogsGiveOnce C P = (log : List Event) (inside : InsideParts) → Runs C P log inside → (number : ℕ) → GivesOnce log inside number

-- the threads that requests of the connection of a number opened
abbrev pub opened_in : ℕ → List ℕ → Told → List ℕ
opened_in number (own ∷ []) (told.Opened thread version) = if own == number then thread ∷ [] else []
opened_in number owns said = []

abbrev pub opened_by : ℕ → Event → List ℕ
opened_by number (event.Asked now place owns requests space said gave) = opened_in number owns said
opened_by number next = []

abbrev pub opened_for : ℕ → List Event → List ℕ
opened_for number [] = []
opened_for number (next ∷ log) = opened_by number next ++ opened_for number log

-- what the connection of a number was told: what became of its requests, and what was posted for it
abbrev pub said_in : ℕ → List ℕ → Told → List Told
said_in number (own ∷ []) said = if own == number then said ∷ [] else []
said_in number owns said = []

abbrev pub said_by : ℕ → Event → List Told
said_by number (event.Asked now place owns requests space said gave) = said_in number owns said
said_by number (event.Posted place owns said) = said_in number owns said
said_by number next = []

abbrev pub said_for : ℕ → List Event → List Told
said_for number [] = []
said_for number (next ∷ log) = said_by number next ++ said_for number log

-- an outcome is that of a call of one of these threads, as the history told it once
pub record WasOutcome (H : List Entry) (threads : List ℕ) (outcome : OutcomeParts) : Type 0 where
  pub called : is_called H outcome.call ≡ true
  pub own : is_among (caller_of H outcome.call) threads ≡ true
  pub before : List Entry
  pub rest : List Entry
  pub whole : H ≡ before ++ rest
  pub was : outcome_of before outcome.call ≡ Some outcome

-- a frame is that of one of these things that were told, in some version
pub record IsReply (said : List Told) (frame : Frame) : Type 0 where
  pub version : WireVersion
  pub told : Told
  pub there : Contains said told
  pub frame_is : reply version told ≡ Some frame

-- what is given is either, of these threads and of what was told
abbrev pub IsOwn : List Entry → List ℕ → List Told → Given → Type 0
IsOwn H threads said (given.Outcome version outcome) = WasOutcome H threads outcome
IsOwn H threads said (given.Frame frame) = IsReply said frame

abbrev pub AreOwn : List Entry → List ℕ → List Told → List Given → Type 0
AreOwn H threads said [] = ⊤
AreOwn H threads said (next ∷ more) = IsOwn H threads said next × AreOwn H threads said more

-- each outcome that a connection was given is that of a call of a thread that its own requests
-- opened, as the history told it when it was given; each frame is that of what its own requests
-- were told, or of what was posted for it
abbrev pub LogsTellOwners : (C P : Type 0) → Type 0
LogsTellOwners C P =
    (log : List Event) (inside : InsideParts) → Runs C P log inside
    → (number : ℕ) → AreOwn inside.kernel.history (opened_for number log) (said_for number log) (given_to number log)

-- whether an event gave the connection of a number the box of a place
abbrev pub is_box_of : ℕ → ℕ → Event → Bool
is_box_of number place (event.Connected at own) = (at == place) && (own == number)
is_box_of number place next = false

-- whether by an event that was given back
abbrev pub is_release : ℕ → Event → Bool
is_release number (event.Released place own) = own == number
is_release number next = false

-- a connection has its box until that is given back
abbrev pub LogsKeepBoxes : (C P : Type 0) → Type 0
LogsKeepBoxes C P =
    (log : List Event) (inside : InsideParts) → Runs C P log inside
    → (number place : ℕ) → list_any (is_box_of number place) log ≡ true → list_any (is_release number) log ≡ false
    → is_in number (slice_get inside.boxes place) ≡ true

-- what a log says that a connection was told, and which threads its requests opened, is what the
-- events say that its reader's end made
abbrev pub EndsKnowAll : Type 0
EndsKnowAll = (number : ℕ) (log : List Event)
    → (said_for number (done_by number log) ≡ said_for number log) × (opened_for number (done_by number log) ≡ opened_for number log)

-- What a box gives its pen next, what becomes of its seat, and what a reader's end is told.
use Rattle.std.specs.Prelude.{◌≡◌, ◌==◌, ◌+◌, ◌++◌, ◌||◌, ◌&&◌, ℕ, List, Option, Some, None, Bool, MatchBool, true, false, if◌then◌else◌, is_some, slice_get, slice_set}
use Rattle.ipc_core.specs.KernelParts.{KernelParts}
use Rattle.ipc_core.specs.Effects.{Gives}
use Rattle.ipc_frame.specs.declared.frame.Frame.{Frame}
use Rattle.ipc_frame.specs.declared.version.WireVersion.{WireVersion}
use Rattle.ipc_frame.specs.declared.version.WireVersion.TheVariants.{One}
use Rattle.ipc_connection.specs.Replying.{reply}
use Rattle.ipc_connection.specs.declared.replying.Told.{Told}
use Rattle.ipc_connection.specs.declared.replying.Told.TheVariants as told
use Rattle.ipc_connection.specs.declared.given.Given.{Given}
use Rattle.ipc_connection.specs.declared.given.Given.TheVariants as given
use Rattle.ipc_connection.specs.Pens.{Page, given_next, is_ready}
use Rattle.ipc_seats.specs.Seats.{TakesNothing}
use Rattle.ipc_seats.specs.declared.post_box.Work.{Work}
use Rattle.ipc_seats.specs.declared.post_box.Work.TheVariants as work
use Rattle.ipc_seats.specs.declared.seated.seats.TakeSeat.{TakeSeat}

-- what contracts see of the seat of a thread's outcomes: the thread, and how many it took
pub record TakeParts : Type 0 where
  pub thread : ℕ
  pub taken : ℕ

abbrev pub take_parts : {T : Type 0} → TakeSeat T → TakeParts
take_parts seat = record { thread = seat.thread; taken = seat.taken }

-- the seat of a box, if it has one
abbrev pub seat_parts : {T : Type 0} → Option (TakeSeat T) → Option TakeParts
seat_parts None = None
seat_parts (Some seat) = Some (take_parts seat)

-- what contracts see of a box: its place, the number of its connection if it has one, the version
-- in which its client is answered, what was posted, whether it is shut, the seat of its thread's
-- outcomes, and its pen where that lies there
pub record BoxParts : Type 0 where
  pub place : ℕ
  pub number : Option ℕ
  pub version : WireVersion
  pub posted : Option Told
  pub shut : Bool
  pub seat : Option TakeParts
  pub pen : Option Page

-- the thread whose outcomes are told in a box
abbrev pub thread_at_seat : Option TakeParts → Option ℕ
thread_at_seat None = None
thread_at_seat (Some seat) = Some seat.thread

abbrev pub thread_of : BoxParts → Option ℕ
thread_of box = thread_at_seat box.seat

-- the box of a new connection
abbrev pub new_box : ℕ → ℕ → Page → BoxParts
new_box place number pen = record { place = place; number = Some number; version = One; posted = None; shut = false; seat = None; pen = Some pen }

-- the connection of a box, if it has one, has this number
abbrev pub is_of : ℕ → Option ℕ → Bool
is_of number None = false
is_of number (Some own) = own == number

-- a connection has the box
abbrev pub has_connection : BoxParts → Bool
has_connection box = is_some box.number

-- nothing of the connection is left
abbrev pub cleared : BoxParts → BoxParts
cleared box = record box { number = None; posted = None; shut = true; seat = None; pen = None }

-- no more is posted
abbrev pub is_full : BoxParts → Bool
is_full box = box.shut || is_some box.posted

-- this is posted; a full or shut box stays as it is
abbrev pub posted_to : Told → BoxParts → BoxParts
posted_to said box = if is_full box then box else record box { posted = Some said }

-- it has the seat of a thread that was opened, and says so first
abbrev pub welcomed : TakeParts → WireVersion → BoxParts → BoxParts
welcomed seat version box = record box { version = version; posted = Some (told.Opened seat.thread version); seat = Some seat }

-- the seat took one more
abbrev pub risen : Option TakeParts → Option TakeParts
risen None = None
risen (Some seat) = Some (record seat { taken = seat.taken + 1 })

-- a box that told this: an outcome raises its seat, and anything else was posted, which is gone
-- then
abbrev pub told_box : BoxParts → Option Given → BoxParts
told_box box (Some (given.Outcome version outcome)) = record box { seat = risen box.seat }
told_box box next = record box { posted = None }

-- an outcome goes first: it is that of the last call of the seat's thread, and where anything else
-- comes there was none to take
abbrev pub LooksFirst : KernelParts → KernelParts → Option TakeParts → Option Given → Type 0
LooksFirst old new None (Some (given.Outcome version outcome)) = ⊥
LooksFirst old new None next = new ≡ old
LooksFirst old new (Some seat) (Some (given.Outcome version outcome)) = Gives old new seat.thread (Some outcome)
LooksFirst old new (Some seat) next = TakesNothing old new seat.thread seat.taken

-- the frame of what was posted, in the version of the box
abbrev pub frame_posted : WireVersion → Option Told → Option Frame
frame_posted version None = None
frame_posted version (Some said) = reply version said

-- a frame that is given is that of what was posted, in the version of the box, and so is an outcome
abbrev pub ComesOut : WireVersion → Option Told → Option Given → Type 0
ComesOut version posted (Some (given.Frame frame)) = frame_posted version posted ≡ Some frame
ComesOut version posted (Some (given.Outcome told outcome)) = told ≡ version
ComesOut version posted None = frame_posted version posted ≡ None

-- outcomes may have been taken, these, and nothing else was done: no step was made
pub record OnlyTakes (old new : KernelParts) : Type 0 where
  pub history : new.history ≡ old.history
  pub moment : new.moment ≡ old.moment
  pub held : new.held ≡ old.held
  pub entries_limit : new.entries_limit ≡ old.entries_limit
  pub calls_limit : new.calls_limit ≡ old.calls_limit
  pub room : new.room ≡ old.room
  pub taken : (more : List ℕ) × (new.taken ≡ old.taken ++ more)

-- a pen that can be given more was given this
abbrev pub GoesOn : Option Page → Given → Page → Type 0
GoesOn None next pen = ⊥
GoesOn (Some before) next pen = (is_ready before ≡ true) × (pen ≡ given_next before next)

-- the pen of a box was taken out with what is told next, and nothing else of the box changed
pub record Loads (old new : KernelParts) (box after : BoxParts) (pen : Page) : Type 0 where
  pub next : Given
  pub first : LooksFirst old new box.seat (Some next)
  pub out : ComesOut box.version box.posted (Some next)
  pub goes_on : GoesOn box.pen next pen
  pub left : after ≡ record (told_box box (Some next)) { pen = None }

-- the pen lies in its box and is at its end
abbrev pub is_idle : Option Page → Bool
is_idle None = false
is_idle (Some pen) = is_ready pen

-- the pen lies in its box and its device has failed
abbrev pub has_failed : Option Page → Bool
has_failed None = false
has_failed (Some pen) = pen.failed

-- there is no outcome to take, and what was posted has no frame
pub record HasNothing (old new : KernelParts) (box : BoxParts) : Type 0 where
  pub first : LooksFirst old new box.seat None
  pub out : frame_posted box.version box.posted ≡ None

-- no pen comes out: it is out or not at its end, and nothing changed; or there is nothing to tell,
-- and nothing is left in the box
abbrev pub TellsNothing : KernelParts → KernelParts → BoxParts → BoxParts → Type 0
TellsNothing old new box after =
    MatchBool (is_idle box.pen) (HasNothing old new box × (after ≡ record box { posted = None })) ((new ≡ old) × (after ≡ box))

-- a pen comes out with what is told next, or none does
abbrev pub LooksInto : KernelParts → KernelParts → BoxParts → BoxParts → Option Page → Type 0
LooksInto old new box after None = TellsNothing old new box after
LooksInto old new box after (Some pen) = Loads old new box after pen

-- a writer whose pen is at its end takes it out with what is told next; where nothing is, it ends
-- if the box is shut
abbrev pub Begins : {C P : Type 0} → KernelParts → KernelParts → BoxParts → BoxParts → Option (Work C P) → Type 0
Begins old new box after None = (box.shut ≡ false) × TellsNothing old new box after
Begins old new box after (Some (work.Write pen)) = Loads old new box after pen
Begins old new box after (Some work.Over) = (box.shut ≡ true) × TellsNothing old new box after

-- a writer whose pen is not at its end takes it out as it is; where another has the pen nothing
-- changes
abbrev pub WritesOn : {C P : Type 0} → BoxParts → BoxParts → Option (Work C P) → Type 0
WritesOn box after None = (box.pen ≡ None) × (after ≡ box)
WritesOn box after (Some (work.Write pen)) = (box.pen ≡ Some pen) × (after ≡ record box { pen = None })
WritesOn box after (Some work.Over) = ⊥

-- a writer ends, and the box is as it was
abbrev pub EndsWork : {C P : Type 0} → BoxParts → BoxParts → Option (Work C P) → Type 0
EndsWork box after next = (next ≡ Some work.Over) × (after ≡ box)

-- what a box's writer does: it ends where the device has failed, goes on with a frame that is not
-- at its end, and else begins with what is next
abbrev pub Works : {C P : Type 0} → KernelParts → KernelParts → BoxParts → BoxParts → Option (Work C P) → Type 0
Works old new box after next =
    MatchBool (has_failed box.pen) ((new ≡ old) × EndsWork box after next)
    (MatchBool (is_idle box.pen) (Begins old new box after next) ((new ≡ old) × WritesOn box after next))

-- a pen that lies in the box of a place, of the connection of a number, is its own
abbrev pub is_own : Option Page → ℕ → Option ℕ → Bool
is_own None place number = true
is_own (Some pen) place number = (pen.place == place) && is_of pen.number number

-- it is a pen of the connection of this box
unfoldable pub is_pen_of : Page → BoxParts → Bool
is_pen_of pen box = is_own (Some pen) box.place box.number

-- the boxes, once that of a place is this one
abbrev pub put_at : List BoxParts → ℕ → Option BoxParts → List BoxParts
put_at boxes place None = boxes
put_at boxes place (Some box) = slice_set boxes place box

abbrev pub changed : (BoxParts → BoxParts) → Option BoxParts → Option BoxParts
changed change None = None
changed change (Some box) = Some (change box)

-- the box of a place changed so, and all others are as they were; where there is none all are
abbrev pub changed_at : (BoxParts → BoxParts) → List BoxParts → ℕ → List BoxParts
changed_at change boxes place = put_at boxes place (changed change (slice_get boxes place))

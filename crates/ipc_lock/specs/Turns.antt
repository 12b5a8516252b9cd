-- What is done under the lock at one time: each event is what the contract of a function says that
-- was done.
use Rattle.std.specs.Prelude.{◌≡◌, ◌⊎◌, ◌≤◌, ◌++◌, ◌∷◌, [], ℕ, List, map, replicate, slice_get, Option, Some, None, false, if◌then◌else◌}
use Rattle.ipc_connection.specs.declared.asking.Request.{Request}
use Rattle.ipc_connection.specs.declared.replying.Told.{Told}
use Rattle.ipc_core.specs.Effects.{Gives}
use Rattle.ipc_core.specs.KernelParts.{KernelParts}
use Rattle.ipc_core.specs.Obeying.{empty_kernel}
use Rattle.ipc_core.specs.declared.command.Answer.{Answer}
use Rattle.ipc_core.specs.declared.command.Command.{Command}
use Rattle.ipc_history.specs.Holding.{marked_to}
use Rattle.ipc_history.specs.Outcomes.{OutcomeParts}
use Rattle.ipc_connection.specs.Pens.{new_page}
use Rattle.ipc_words.specs.Limits.{max_calls, max_entries, table_slots}
use Rattle.ipc_seats.specs.Boxes.{changed_at, new_box, posted_to}
use Rattle.ipc_seats.specs.Gifts.{gifts, no_errands, number_in, work_gifts}
use Rattle.ipc_seats.specs.Numbering.{is_taken}
use Rattle.ipc_seats.specs.Parting.{LetGoOfAll}
use Rattle.ipc_seats.specs.Places.{ConnectsAt, LoadsAt, TakesBack, WorksFor, disowned, gives_back, is_in, new_seat, owned_by, shut_for, thread_for}
use Rattle.ipc_seats.specs.Seats.{TakesNothing}
use Rattle.ipc_seats.specs.Upkeeping.{first_upkeep}
use Rattle.ipc_seats.specs.declared.errands.Errands.{Errands}
use Rattle.ipc_seats.specs.declared.events.Event.{Event}
use Rattle.ipc_seats.specs.declared.events.Event.TheVariants as event
use Rattle.ipc_seats.specs.declared.events.Gift.{Gift}
use Rattle.ipc_seats.specs.declared.post_box.Work.{Work}
use Rattle.ipc_seats.specs.declared.seated.seats.CallSeat.{CallSeat}
use Rattle.ipc_lock.specs.InsideParts.{InsideParts, LoggedParts}
use Rattle.ipc_lock.specs.Telling.{ActsAndTells, AsksAndTells, BreaksFor}

-- a connection got this number, which none had, and the box of this place, which is as new
pub record Connected (before after : InsideParts) (place number : ℕ) : Type 0 where
  pub free : List ℕ
  pub free_now : List ℕ
  pub out : Option (List ℕ)
  pub failures : ℕ
  pub connects : ConnectsAt free free_now before.boxes after.boxes place (new_box place number (new_page place number out failures))
  pub is_new : is_taken number before.numbers ≡ false
  pub numbers : after.numbers ≡ before.numbers ++ number ∷ []
  pub owners : after.owners ≡ before.owners
  pub kernel : after.kernel ≡ before.kernel
  pub upkeep : after.upkeep ≡ before.upkeep

-- there was no memory for the box of the connection of this number, which none has
pub record Declined (before after : InsideParts) (number : ℕ) : Type 0 where
  pub is_new : is_taken number before.numbers ≡ false
  pub numbers : after.numbers ≡ before.numbers ++ number ∷ []
  pub boxes : after.boxes ≡ before.boxes
  pub owners : after.owners ≡ before.owners
  pub kernel : after.kernel ≡ before.kernel
  pub upkeep : after.upkeep ≡ before.upkeep

-- a step was made, and the connections of the threads whose calls it finished were given this
pub record Acted (C P : Type 0) (before after : InsideParts) (now : ℕ) (commands : List Command) (answers : List Answer) (gave : List Gift) : Type 0 where
  pub command : Command
  pub answer : Answer
  pub is_it : commands ≡ command ∷ []
  pub is_answered : answers ≡ answer ∷ []
  pub seat : Option (CallSeat C)
  pub errands : Errands C P
  pub gifts_are : gave ≡ gifts errands
  pub acts : ActsAndTells before.upkeep after.upkeep before.kernel after.kernel now seat command answer before.owners before.boxes after.boxes
      no_errands errands
  pub owners : after.owners ≡ before.owners
  pub numbers : after.numbers ≡ before.numbers

-- the step of a request was made, told in the box of this place, which is the box of the connection
-- of this number, if of any; and this was given
pub record AskedFor (C P : Type 0) (before after : InsideParts) (now place : ℕ) (number : List ℕ) (requests : List Request) (space : ℕ) (said : Told)
    (gave : List Gift) : Type 0 where
  pub is_its : number ≡ number_in (slice_get before.boxes place)
  pub request : Request
  pub is_it : requests ≡ request ∷ []
  pub seat : Option (CallSeat C)
  pub errands : Errands C P
  pub gifts_are : gave ≡ gifts errands
  pub asks : AsksAndTells before.upkeep after.upkeep before.kernel after.kernel now seat request space said before.owners place before.boxes after.boxes
      no_errands errands
  pub owners : after.owners ≡ owned_by said (new_seat said) before.owners place
  pub numbers : after.numbers ≡ before.numbers

-- the connection of this number, whose box is that of this place, ended: its box was shut, and its
-- thread was broken
pub record Ended (C P : Type 0) (before after : InsideParts) (now place number : ℕ) (gave : List Gift) : Type 0 where
  pub errands : Errands C P
  pub gifts_are : gave ≡ gifts errands
  pub breaks : BreaksFor C before.upkeep after.upkeep before.kernel after.kernel now (thread_for number (slice_get before.boxes place)) before.owners
      (changed_at (shut_for number) before.boxes place) after.boxes no_errands errands
  pub owners : after.owners ≡ before.owners
  pub numbers : after.numbers ≡ before.numbers

-- this was posted in the box of this place, which is that of the connection of this number, if of
-- any
pub record Posted (before after : InsideParts) (place : ℕ) (number : List ℕ) (said : Told) : Type 0 where
  pub is_its : number ≡ number_in (slice_get before.boxes place)
  pub boxes : after.boxes ≡ changed_at (posted_to said) before.boxes place
  pub owners : after.owners ≡ before.owners
  pub numbers : after.numbers ≡ before.numbers
  pub kernel : after.kernel ≡ before.kernel
  pub upkeep : after.upkeep ≡ before.upkeep

-- the box of this place was looked into, and this was given
pub record Looked (C P : Type 0) (before after : InsideParts) (place : ℕ) (gave : List Gift) : Type 0 where
  pub errands : Errands C P
  pub gifts_are : gave ≡ gifts errands
  pub loads : LoadsAt before.kernel after.kernel before.boxes after.boxes place (slice_get before.boxes place) no_errands errands
  pub owners : after.owners ≡ before.owners
  pub numbers : after.numbers ≡ before.numbers
  pub upkeep : after.upkeep ≡ before.upkeep

-- pens were laid down in their boxes, and those that came out again were given this
pub record Laid (C P : Type 0) (before after : InsideParts) (gave : List Gift) : Type 0 where
  pub errands : Errands C P
  pub errands_now : Errands C P
  pub gifts_are : gave ≡ gifts errands_now
  pub takes : TakesBack before.kernel after.kernel before.boxes after.boxes errands errands_now
  pub owners : after.owners ≡ before.owners
  pub numbers : after.numbers ≡ before.numbers
  pub upkeep : after.upkeep ≡ before.upkeep

-- the writer of the connection of this number, whose box is that of this place, took its pen out,
-- ended, or found nothing to do; this was given
pub record Worked (C P : Type 0) (before after : InsideParts) (place number : ℕ) (gave : List Gift) : Type 0 where
  pub next : Option (Work C P)
  pub gifts_are : gave ≡ work_gifts (slice_get before.boxes place) next
  pub works : WorksFor before.kernel after.kernel before.boxes after.boxes place number (slice_get before.boxes place) next
  pub owners : after.owners ≡ before.owners
  pub numbers : after.numbers ≡ before.numbers
  pub upkeep : after.upkeep ≡ before.upkeep

-- the box of this place was given back, where it is that of the connection of this number
pub record Released (before after : InsideParts) (place number : ℕ) : Type 0 where
  pub boxes : after.boxes ≡ changed_at (gives_back number) before.boxes place
  pub owners : after.owners ≡ (if is_in number (slice_get before.boxes place) then map (disowned place) before.owners else before.owners)
  pub numbers : after.numbers ≡ before.numbers
  pub kernel : after.kernel ≡ before.kernel
  pub upkeep : after.upkeep ≡ before.upkeep

-- an outcome was taken outside all boxes, or none was, by a seat of this thread that took so many
abbrev pub TakesFor : KernelParts → KernelParts → ℕ → ℕ → List OutcomeParts → Type 0
TakesFor old new thread taken [] = TakesNothing old new thread taken
TakesFor old new thread taken (outcome ∷ []) = Gives old new thread (Some outcome)
TakesFor old new thread taken more = ⊥

pub record Took (before after : InsideParts) (thread taken : ℕ) (outcomes : List OutcomeParts) : Type 0 where
  pub takes : TakesFor before.kernel after.kernel thread taken outcomes
  pub boxes : after.boxes ≡ before.boxes
  pub owners : after.owners ≡ before.owners
  pub numbers : after.numbers ≡ before.numbers
  pub upkeep : after.upkeep ≡ before.upkeep

-- the entries before a place are not read any more
pub record Marked (before after : InsideParts) (upto : ℕ) : Type 0 where
  pub marks : after.kernel ≡ record before.kernel { held = marked_to upto before.kernel.held }
  pub boxes : after.boxes ≡ before.boxes
  pub owners : after.owners ≡ before.owners
  pub numbers : after.numbers ≡ before.numbers
  pub upkeep : after.upkeep ≡ before.upkeep

-- all entries were marked, and memory let go of those that need not be kept
pub record Parted (before after : InsideParts) : Type 0 where
  pub lets_go : LetGoOfAll before.upkeep after.upkeep before.kernel after.kernel
  pub boxes : after.boxes ≡ before.boxes
  pub owners : after.owners ≡ before.owners
  pub numbers : after.numbers ≡ before.numbers

-- an event, and what stood under the lock before it and behind it. Where a part of a trace was
-- asked for memory let go, or nothing changed
abbrev pub Turn : (C P : Type 0) → InsideParts → Event → InsideParts → Type 0
Turn C P before (event.Connected place number) after = Connected before after place number
Turn C P before (event.Declined number) after = Declined before after number
Turn C P before (event.Acted now commands answers gave) after = Acted C P before after now commands answers gave
Turn C P before (event.Asked now place number requests space said gave) after = AskedFor C P before after now place number requests space said gave
Turn C P before (event.Ended now place number is_by_reader gave) after = Ended C P before after now place number gave
Turn C P before (event.Posted place number said) after = Posted before after place number said
Turn C P before (event.Looked place gave) after = Looked C P before after place gave
Turn C P before (event.Laid gave) after = Laid C P before after gave
Turn C P before (event.Worked place number gave) after = Worked C P before after place number gave
Turn C P before (event.Released place number) after = Released before after place number
Turn C P before (event.Took thread taken outcomes) after = Took before after thread taken outcomes
Turn C P before (event.Marked upto) after = Marked before after upto
Turn C P before event.Parted after = Parted before after ⊎ (after ≡ before)

-- an empty kernel, and no box
abbrev pub first_inside : ℕ → ℕ → InsideParts
first_inside entries calls = record {
  kernel = empty_kernel entries calls;
  upkeep = first_upkeep entries;
  boxes = [];
  owners = replicate table_slots None;
  numbers = [];
}

-- what stands under the lock was reached by these events, one after the other, from an empty kernel
-- without boxes
pub data Runs (C P : Type 0) : List Event → InsideParts → Type 0 where
  Starts : (entries calls : ℕ) → entries ≤ max_entries → calls ≤ max_calls → Runs C P [] (first_inside entries calls)
  Goes : (log : List Event) (next : Event) (before after : InsideParts)
      → Runs C P log before → Turn C P before next after → Runs C P (log ++ next ∷ []) after

-- what stood there was reached by its log; then this event came, and is logged
pub record Turned (C P : Type 0) (before after : LoggedParts) (next : Event) : Type 0 where
  pub runs : Runs C P before.log before.inside
  pub turn : Turn C P before.inside next after.inside
  pub log : after.log ≡ before.log ++ next ∷ []

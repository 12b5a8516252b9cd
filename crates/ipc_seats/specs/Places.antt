-- What becomes of the boxes under the lock: in which box something is told, and that all others are
-- as they were.
use Rattle.std.specs.Prelude.{◌≡◌, ◌==◌, ◌&&◌, ◌++◌, ◌⊎◌, ℕ, List, [], ◌∷◌, length, Option, Some, None, Bool, MatchBool, true, false, is_some, map, ◌≤◌, not, if◌then◌else◌, slice_get, slice_set, ⊤}
use Rattle.ipc_words.specs.ThreadId.{number_of}
use Rattle.ipc_core.specs.KernelParts.{KernelParts}
use Rattle.ipc_core.specs.Again.{MayObeyAgain}
use Rattle.ipc_core.specs.Effects.{Ticks}
use Rattle.ipc_core.specs.declared.command.Answer.{Answer}
use Rattle.ipc_core.specs.declared.command.Command.TheVariants.{Broke}
use Rattle.ipc_connection.specs.declared.replying.Told.{Told}
use Rattle.ipc_connection.specs.declared.replying.Told.TheVariants as told
use Rattle.ipc_connection.specs.Pens.{Page, Passes, rest_of}
use Rattle.ipc_seats.specs.Boxes.{BoxParts, LooksInto, OnlyTakes, TakeParts, Works, changed_at, cleared, is_of, is_pen_of, posted_to, thread_of, welcomed}
use Rattle.ipc_seats.specs.Upkeeping.{LetsGo}
use Rattle.ipc_seats.specs.declared.entered.Entered.{Entered}
use Rattle.ipc_seats.specs.declared.entered.Entered.TheVariants.{Open, Over}
use Rattle.ipc_seats.specs.declared.errands.Errands.{Errands}
use Rattle.ipc_seats.specs.declared.post_box.Work.{Work}
use Rattle.ipc_seats.specs.declared.post_box.Work.TheVariants as work
use Rattle.ipc_seats.specs.declared.upkeep.Upkeep.{Upkeep}

-- the boxes, once what the kernel accepted was told in that of a place: that a thread was opened,
-- with the seat of its outcomes, or what ExchangeRegisters answers. All others are as they were
abbrev pub told_in : Told → Option TakeParts → List BoxParts → ℕ → List BoxParts
told_in (told.Opened thread version) (Some seat) boxes place = changed_at (welcomed seat version) boxes place
told_in (told.Exchanged result stopped code moment) seat boxes place = changed_at (posted_to (told.Exchanged result stopped code moment)) boxes place
told_in said seat boxes place = boxes

-- the box of each number, once a thread's outcomes are told in that of a place
abbrev pub owned_by : Told → Option TakeParts → List (Option ℕ) → ℕ → List (Option ℕ)
owned_by (told.Opened thread version) (Some seat) owners place = slice_set owners (number_of seat.thread) (Some place)
owned_by said seat owners place = owners

-- the seat of the outcomes of a thread that was opened, which took nothing
abbrev pub new_seat : Told → Option TakeParts
new_seat (told.Opened thread version) = Some (record { thread = thread; taken = 0 })
new_seat said = None

-- nothing more is posted in it, where it is the box of the connection of this number
abbrev pub shut_for : ℕ → BoxParts → BoxParts
shut_for number box = if is_of number box.number then record box { shut = true } else box

-- nothing is left in it, and it has no connection any more, where it was that of this number
abbrev pub gives_back : ℕ → BoxParts → BoxParts
gives_back number box = if is_of number box.number then cleared box else box

-- the pen of the connection of this number, where it lies in its box
abbrev pub pen_for : ℕ → BoxParts → Option Page
pen_for number box = if is_of number box.number then box.pen else None

abbrev pub pen_in : ℕ → Option BoxParts → Option Page
pen_in number None = None
pen_in number (Some box) = pen_for number box

-- a box is that of the connection of this number, and its pen is out
abbrev pub is_out : ℕ → Option BoxParts → Bool
is_out number None = false
is_out number (Some box) = is_of number box.number && not (is_some box.pen)

-- a box is there, and is that of the connection of this number
abbrev pub is_in : ℕ → Option BoxParts → Bool
is_in number None = false
is_in number (Some box) = is_of number box.number

-- a box is there, and is no connection's
abbrev pub is_free_in : Option BoxParts → Bool
is_free_in None = false
is_free_in (Some box) = not (is_some box.number)

-- nothing is posted in a box; one that is not there counts as empty
abbrev pub is_empty_in : Option BoxParts → Bool
is_empty_in None = true
is_empty_in (Some box) = not (is_some box.posted)

-- a box was shut; one that is not there counts as shut
abbrev pub is_shut_in : Option BoxParts → Bool
is_shut_in None = true
is_shut_in (Some box) = box.shut

-- the box where the thread of a number is told
abbrev pub owner_in : Option (Option ℕ) → Option ℕ
owner_in None = None
owner_in (Some owner) = owner

-- the thread whose outcomes are told in a box, where that is the box of the connection of this
-- number
abbrev pub thread_for : ℕ → Option BoxParts → Option ℕ
thread_for number None = None
thread_for number (Some box) = if is_of number box.number then thread_of box else None

-- the box of a place was looked into: its pen came out with what is told next, or none did, and all
-- other boxes are as they were
pub record LooksAt (old new : KernelParts) (boxes after : List BoxParts) (place : ℕ) (box : BoxParts) (out : Option Page) : Type 0 where
  pub left : BoxParts
  pub looks : LooksInto old new box left out
  pub others : after ≡ slice_set boxes place left

-- nothing was taken, and all boxes and pens are as they were
pub record StaysAll (old new : KernelParts) (boxes after : List BoxParts) : Type 0 where
  pub no_step : new ≡ old
  pub no_change : after ≡ boxes

-- nothing changed of a box that is not told of: its place, its number, its version, whether it is
-- shut, and whose outcomes are told there
pub record SameBox (box after : BoxParts) : Type 0 where
  pub place : after.place ≡ box.place
  pub number : after.number ≡ box.number
  pub version : after.version ≡ box.version
  pub shut : after.shut ≡ box.shut
  pub thread : thread_of after ≡ thread_of box

-- outcomes, and what was posted, went out of boxes, and nothing else of any box changed
abbrev pub OnlyLoads : List BoxParts → List BoxParts → Type 0
OnlyLoads [] [] = ⊤
OnlyLoads (box ∷ boxes) (left ∷ after) = SameBox box left × OnlyLoads boxes after
OnlyLoads boxes after = ⊥

-- a further pen stands behind those that were there, where there are fewer than three
abbrev pub added : {C P : Type 0} → Option Page → Errands C P → Errands C P
added None errands = errands
added (Some pen) errands = if is_some errands.first then (if is_some errands.second then
    (if is_some errands.third then errands else record errands { third = Some pen })
    else record errands { second = Some pen }) else record errands { first = Some pen }

-- it was written with a pen, and nothing was given to it
abbrev pub OnlyWrites : Option Page → Option Page → Type 0
OnlyWrites None None = ⊤
OnlyWrites (Some pen) (Some after) =
    (after.place ≡ pen.place) × (after.number ≡ pen.number) × (after.given ≡ pen.given) × Passes pen.out after.out (rest_of pen.rest) (rest_of after.rest)
OnlyWrites _ _ = ⊥

-- a call is over where the first pen that came out is that of the box of who entered it
abbrev pub entered_of : Option Page → ℕ → Entered
entered_of None own = Open
entered_of (Some pen) own = if pen.place == own then Over else Open

-- a pen of the box of a place came out, as a further errand, or none did; where errands are full,
-- and where there is no box, all stays
abbrev pub LoadsAt : {C P : Type 0} → KernelParts → KernelParts → List BoxParts → List BoxParts → ℕ → Option BoxParts → Errands C P → Errands C P → Type 0
LoadsAt old new boxes after place None errands errands_now = StaysAll old new boxes after × (errands_now ≡ errands)
LoadsAt old new boxes after place (Some box) errands errands_now =
    MatchBool (is_some errands.third) (StaysAll old new boxes after × (errands_now ≡ errands))
    ((out : Option Page) × LooksAt old new boxes after place box out × (errands_now ≡ added out errands))

-- the place of the box where a thread is told
abbrev pub place_of : List (Option ℕ) → ℕ → Option ℕ
place_of owners thread = owner_in (slice_get owners (number_of thread))

abbrev pub place_at : List (Option ℕ) → Option ℕ → Option ℕ
place_at owners None = None
place_at owners (Some thread) = place_of owners thread

-- the boxes that are looked into behind a step, in this order: that of who made it, and those of
-- the threads whose calls it finished
abbrev pub places_told : Option ℕ → List (Option ℕ) → List ℕ → List (Option ℕ)
places_told own owners finished = own ∷ map (place_of owners) finished

-- the box of a place was looked into, if there is a place
abbrev pub LoadsOne : {C P : Type 0} → Option ℕ → KernelParts → KernelParts → List BoxParts → List BoxParts → Errands C P → Errands C P → Type 0
LoadsOne None old new boxes after errands errands_now = StaysAll old new boxes after × (errands_now ≡ errands)
LoadsOne (Some place) old new boxes after errands errands_now = LoadsAt old new boxes after place (slice_get boxes place) errands errands_now

-- the boxes of these places were looked into, one after the other
abbrev pub LoadsRow : {C P : Type 0} → List (Option ℕ) → KernelParts → KernelParts → List BoxParts → List BoxParts → Errands C P → Errands C P → Type 0
LoadsRow [] old new boxes after errands errands_now = StaysAll old new boxes after × (errands_now ≡ errands)
LoadsRow {C} {P} (place ∷ places) old new boxes after errands errands_now =
    (kernel : KernelParts) × (between : List BoxParts) × (next : Errands C P)
    × LoadsOne place old kernel boxes between errands next × LoadsRow places kernel new between after next errands_now

-- a pen was laid down in the box of its connection, and came out again with what is told next;
-- where that has no box any more it is gone, and all stays
abbrev pub LaysAt : KernelParts → KernelParts → List BoxParts → List BoxParts → Page → Option BoxParts → Option Page → Type 0
LaysAt old new boxes after pen None again = StaysAll old new boxes after × (again ≡ None)
LaysAt old new boxes after pen (Some box) again =
    (is_pen_of pen box ≡ true → LooksAt old new boxes after pen.place (record box { pen = Some pen }) again)
    × (is_pen_of pen box ≡ false → StaysAll old new boxes after × (again ≡ None))

-- the same of a pen that is on an errand, if there is one
abbrev pub LooksAgain : KernelParts → KernelParts → List BoxParts → List BoxParts → Option Page → Option Page → Type 0
LooksAgain old new boxes after None again = StaysAll old new boxes after × (again ≡ None)
LooksAgain old new boxes after (Some pen) again = LaysAt old new boxes after pen (slice_get boxes pen.place) again

-- the pens of errands were laid down, one after the other
pub record TakesBack {C P : Type 0} (old new : KernelParts) (boxes after : List BoxParts) (errands errands_now : Errands C P) : Type 0 where
  pub kernel_first : KernelParts
  pub kernel_second : KernelParts
  pub boxes_first : List BoxParts
  pub boxes_second : List BoxParts
  pub first : LooksAgain old kernel_first boxes boxes_first errands.first errands_now.first
  pub second : LooksAgain kernel_first kernel_second boxes_first boxes_second errands.second errands_now.second
  pub third : LooksAgain kernel_second new boxes_second after errands.third errands_now.third

-- what the writer of the connection of a number does, whose box is that of a place, while all other
-- boxes are as they were; where that has no such box any more it ends
abbrev pub WorksFor : {C P : Type 0} → KernelParts → KernelParts → List BoxParts → List BoxParts → ℕ → ℕ → Option BoxParts → Option (Work C P) → Type 0
WorksFor old new boxes after place number None next = StaysAll old new boxes after × (next ≡ Some work.Over)
WorksFor old new boxes after place number (Some box) next =
    MatchBool (is_of number box.number)
    ((left : BoxParts) × Works old new box left next × (after ≡ slice_set boxes place left))
    (StaysAll old new boxes after × (next ≡ Some work.Over))

-- a connection's end: memory lets go of entries where that is due, the clock is read, and the
-- thread is broken; behind that outcomes are taken for those whom it concerns
pub record Ends (upkeep after : Upkeep) (old new : KernelParts) (now thread : ℕ) : Type 0 where
  pub before : KernelParts
  pub ticked : KernelParts
  pub broken : KernelParts
  pub answer : Answer
  pub lets_go : LetsGo upkeep after old before
  pub ticks : Ticks before ticked now
  pub breaks : MayObeyAgain ticked.held.mark ticked (Broke thread) answer broken
  pub only : OnlyTakes broken new

-- the same of the thread that is told in a box, if there is one; else no step is made
abbrev pub EndsAt : Upkeep → Upkeep → KernelParts → KernelParts → ℕ → Option ℕ → Type 0
EndsAt upkeep after old new now None = (new ≡ old) × (after ≡ upkeep)
EndsAt upkeep after old new now (Some thread) = Ends upkeep after old new now thread

-- a connection's box: one that was given back last and is no connection's, and that is free no
-- more, or a further one
abbrev pub ConnectsAt : List ℕ → List ℕ → List BoxParts → List BoxParts → ℕ → BoxParts → Type 0
ConnectsAt free free_now boxes after place box =
    ((free ≡ free_now ++ place ∷ []) × (is_free_in (slice_get boxes place) ≡ true) × (after ≡ slice_set boxes place box))
    ⊎ ((place ≡ length boxes) × (after ≡ boxes ++ box ∷ []))

-- a place is free once more, if a list of so many, and with so much room, has memory to note it
pub record Frees (free free_now : List ℕ) (place count room : ℕ) : Type 0 where
  pub noted : Bool
  pub left : free_now ≡ (if noted then free ++ place ∷ [] else free)
  pub full : noted ≡ false → room ≤ count

-- a place is free so, where its box is that of the connection of this number; else none is
pub record FreesSome (boxes : List BoxParts) (place number : ℕ) : Type 0 where
  pub free : List ℕ
  pub free_now : List ℕ
  pub count : ℕ
  pub room : ℕ
  pub frees : MatchBool (is_in number (slice_get boxes place)) (Frees free free_now place count room) (free_now ≡ free)

-- the box of a number, once no thread is told in that of a place any more
abbrev pub disowned : ℕ → Option ℕ → Option ℕ
disowned place None = None
disowned place (Some owner) = if owner == place then None else Some owner

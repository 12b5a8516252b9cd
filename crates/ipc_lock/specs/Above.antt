-- What a caller above the lock is told: no contract there names the kernel that stands under the
-- lock, so each says it of one that is of a legal history, or that its log leads to.
use Rattle.std.specs.Prelude.{◌≡◌, ◌⊎◌, ◌+◌, ◌-◌, ◌/◌, ◌∷◌, ◌&&◌, ◌||◌, [], ℕ, zero, suc, Contains, List, is_some, length, not, slice_get, Bool, Option, Some, None, false, true, ⊤}
use Rattle.std.specs.List.{list_any}
use mathlib.Core.List.{IsPrefix}
use Rattle.ipc_connection.specs.declared.asking.Request.{Request}
use Rattle.ipc_connection.specs.declared.replying.Told.{Told}
use Rattle.ipc_connection.specs.declared.replying.Told.TheVariants as told
use Rattle.ipc_core.specs.declared.answers.Advance.TheVariants as advance
use Rattle.ipc_core.specs.declared.command.Answer.{Answer}
use Rattle.ipc_core.specs.declared.command.Answer.TheVariants.{Advanced}
use Rattle.ipc_core.specs.declared.command.Command.{Command}
use Rattle.ipc_core.specs.declared.command.Command.TheVariants.{Advance}
use Rattle.ipc_core.specs.declared.refusal.Refusal.TheVariants.{NoThread}
use Rattle.ipc_history.specs.Legal.{Legal, next_moving}
use Rattle.ipc_history.specs.Outcomes.{OutcomeParts}
use Rattle.ipc_history.specs.Threads.{is_live}
use Rattle.ipc_history.specs.declared.entry.Entry.{Entry}
use Rattle.ipc_seats.specs.Alarms.{Rests}
use Rattle.ipc_seats.specs.Boxes.{BoxParts, Loads, changed_at, is_of, posted_to}
use Rattle.ipc_seats.specs.Gifts.{gifts, no_errands, number_in, work_gifts}
use Rattle.ipc_seats.specs.Giving.{Wrote}
use Rattle.ipc_seats.specs.Groups.{IsGroupAt}
use Rattle.ipc_lock.specs.InsideParts.{InsideParts, LoggedParts}
use Rattle.ipc_lock.specs.Logs.{given_to, is_box_of}
use Rattle.ipc_base.specs.LogRules.{EndsOnce, numbers_of}
use Rattle.ipc_base.specs.LogViews.{Known}
use Rattle.ipc_seats.specs.Owning.{Begins, Knows, Makes, Rolls, Sees, ended_by, is_by}
use Rattle.ipc_seats.specs.Parting.{IsBehind, IsPartOf}
use Rattle.ipc_seats.specs.Places.{EndsAt, FreesSome, LoadsOne, OnlyLoads, TakesBack, WorksFor, is_empty_in, is_in, is_shut_in, shut_for, thread_for}
use Rattle.ipc_seats.specs.declared.errands.Errands.{Errands}
use Rattle.ipc_seats.specs.declared.events.Event.{Event}
use Rattle.ipc_seats.specs.declared.events.Event.TheVariants as event
use Rattle.ipc_seats.specs.declared.part.Behind.{Behind}
use Rattle.ipc_seats.specs.declared.part.HeldPart.{HeldPart}
use Rattle.ipc_seats.specs.declared.post_box.Work.TheVariants as work
use Rattle.ipc_seats.specs.declared.rest.Rest.{Rest}
use Rattle.ipc_seats.specs.declared.seated.seats.CallSeat.{CallSeat}
use Rattle.ipc_lock.specs.Rounds.{Carries}
use Rattle.ipc_lock.specs.Telling.{ActsAndTells, AsksAndTells}
use Rattle.ipc_lock.specs.Turns.{Runs, Turned}
use Rattle.ipc_connection.specs.Pens.{Page}
use Rattle.ipc_words.specs.Limits.{block_bytes, max_string_bytes}

-- a step was made and logged: at this moment, by this seat, this command, which was answered so;
-- the pens of those whom it told something came out, and went round until all were laid down
pub record ActsSome {C : Type 0} (P : Type 0) (now : ℕ) (seat : Option (CallSeat C)) (command : Command) (answer : Answer) : Type 0 where
  pub before : LoggedParts
  pub after : LoggedParts
  pub pens : Errands C P
  pub left : Errands C P
  pub turned : Turned C P before after (event.Acted now (command ∷ []) (answer ∷ []) (gifts pens))
  pub acts : ActsAndTells before.inside.upkeep after.inside.upkeep before.inside.kernel after.inside.kernel now seat command answer before.inside.owners
      before.inside.boxes after.inside.boxes no_errands pens
  pub carries : Carries pens left

-- a box is that of the connection of this number, is open, and nothing is posted in it
pub record IsReady (number : ℕ) (box : Option BoxParts) : Type 0 where
  pub own : is_in number box ≡ true
  pub is_open : is_shut_in box ≡ false
  pub is_empty : is_empty_in box ≡ true

-- a box was shut, or is not that of the connection of this number any more
abbrev pub is_gone : ℕ → Option BoxParts → Bool
is_gone number box = not (is_in number box) || is_shut_in box

-- the box of this place was so, and its end, which knew the log up to there, saw that
pub record GoneSome (C P : Type 0) (place : ℕ) (own own_now : Known Event) : Type 0 where
  pub logged : LoggedParts
  pub runs : Runs C P logged.log logged.inside
  pub sees : Sees own own_now logged.log
  pub gone : is_gone own.number (slice_get logged.inside.boxes place) ≡ true

-- a reader's step was made and logged: at this moment, by this seat, what this request asks for
-- from this space, and it was told so, in the box of this place, which was that of its
-- connection, open and empty; the pens that came out behind it went round until all were laid
-- down. Of all that the log says of this end it is the one event more
pub record AsksSome {C : Type 0} (P : Type 0) (now place : ℕ) (seat : Option (CallSeat C)) (asked : Request) (space : ℕ) (said : Told)
    (own own_now : Known Event) : Type 0 where
  pub before : LoggedParts
  pub after : LoggedParts
  pub pens : Errands C P
  pub left : Errands C P
  pub ready : IsReady own.number (slice_get before.inside.boxes place)
  pub turned : Turned C P before after (event.Asked now place (number_in (slice_get before.inside.boxes place)) (asked ∷ []) space said (gifts pens))
  pub makes : Makes own own_now before.log after.log
      (event.Asked now place (number_in (slice_get before.inside.boxes place)) (asked ∷ []) space said (gifts pens))
  pub asks : AsksAndTells before.inside.upkeep after.inside.upkeep before.inside.kernel after.inside.kernel now seat asked space said before.inside.owners
      place before.inside.boxes after.inside.boxes no_errands pens
  pub carries : Carries pens left

-- the same; or no step was made, and it was refused, as its box was shut
abbrev pub AsksOrRefuses : {C : Type 0} (P : Type 0) → ℕ → ℕ → Option (CallSeat C) → Request → ℕ → Told → Known Event → Known Event → Type 0
AsksOrRefuses {C} P now place seat asked space said own own_now =
    AsksSome P now place seat asked space said own own_now ⊎ ((said ≡ told.Refused NoThread) × GoneSome C P place own own_now)

-- this was left in the box of this place, which was that of the end's connection, open and
-- empty, and no other box changed; where its pen came out then it went round until it was laid
-- down. Of all that the log says of this end it is the one event more
pub record PostsSome (C P : Type 0) (place : ℕ) (said : Told) (own own_now : Known Event) : Type 0 where
  pub before : LoggedParts
  pub between : LoggedParts
  pub after : LoggedParts
  pub pens : Errands C P
  pub left : Errands C P
  pub ready : IsReady own.number (slice_get before.inside.boxes place)
  pub posted : Turned C P before between (event.Posted place (number_in (slice_get before.inside.boxes place)) said)
  pub makes : Makes own own_now before.log between.log (event.Posted place (number_in (slice_get before.inside.boxes place)) said)
  pub looked : Turned C P between after (event.Looked place (gifts pens))
  pub posts : LoadsOne (Some place) between.inside.kernel after.inside.kernel (changed_at (posted_to said) before.inside.boxes place) after.inside.boxes
      no_errands pens
  pub carries : Carries pens left

-- the same, or the box was shut
abbrev pub PostsOrDrops : (C P : Type 0) → ℕ → Told → Known Event → Known Event → Type 0
PostsOrDrops C P place said own own_now = PostsSome C P place said own own_now ⊎ GoneSome C P place own own_now

-- these are the entries from a place on, as many as a group has
pub record GroupOfSome (C P : Type 0) (index : ℕ) (group : List Entry) : Type 0 where
  pub logged : LoggedParts
  pub runs : Runs C P logged.log logged.inside
  pub legal : Legal logged.inside.kernel.history
  pub group_is : IsGroupAt logged.inside.kernel.history index group

-- this is the entry of a place, if there is one
pub record EntryOfSome (C P : Type 0) (index : ℕ) (entry : Option Entry) : Type 0 where
  pub logged : LoggedParts
  pub runs : Runs C P logged.log logged.inside
  pub legal : Legal logged.inside.kernel.history
  pub entry_is : entry ≡ slice_get logged.inside.kernel.history index

-- so many entries stand at a place and behind it
pub record LeftOfSome (C P : Type 0) (upto left : ℕ) : Type 0 where
  pub before : LoggedParts
  pub after : LoggedParts
  pub turned : Turned C P before after (event.Marked upto)
  pub legal : Legal before.inside.kernel.history
  pub left_is : left ≡ length before.inside.kernel.history - upto

-- the entries before a place are marked
pub record MarksSome (C P : Type 0) (upto : ℕ) : Type 0 where
  pub before : LoggedParts
  pub after : LoggedParts
  pub turned : Turned C P before after (event.Marked upto)

-- the base and the kept entries of the history, when a part was asked for
pub record PartOfSome (C P : Type 0) (part : HeldPart) : Type 0 where
  pub before : LoggedParts
  pub after : LoggedParts
  pub turned : Turned C P before after event.Parted
  pub legal : Legal before.inside.kernel.history
  pub is_of : IsPartOf before.inside.kernel.history before.inside.kernel.taken part

-- the entries that end the history, and the part that begins behind them
pub record EndsAPart (C P : Type 0) (place : ℕ) (behind : Behind) : Type 0 where
  pub before : LoggedParts
  pub after : LoggedParts
  pub turned : Turned C P before after event.Parted
  pub legal : Legal before.inside.kernel.history
  pub is_behind : IsBehind before.inside.kernel.history before.inside.kernel.taken place behind

-- a connection got this number, which was never taken, and the box of this place, which was no
-- connection's or is a further one, and is as new. Its end knows that this is all it did
pub record ConnectsSome (C P : Type 0) (place : ℕ) (own : Known Event) : Type 0 where
  pub before : LoggedParts
  pub after : LoggedParts
  pub turned : Turned C P before after (event.Connected place own.number)
  pub begins : Begins own after.log (event.Connected place own.number)

-- the box of this place was given back, where it is that of the connection of this number: nothing
-- is left in it, it is free, and no thread is told there any more. Its end knew all that it did
pub record ReleasesSome (C P : Type 0) (place : ℕ) (own : Known Event) : Type 0 where
  pub before : LoggedParts
  pub after : LoggedParts
  pub knew : Knows own before.log
  pub turned : Turned C P before after (event.Released place own.number)
  pub frees : FreesSome before.inside.boxes place own.number

-- the same, and the pen of the connection was handed out of its box, over a port that tells this:
-- what went out begins the text of all that the log says that the connection was given. Who has the
-- roll was told of it
pub record HandsOut (C P : Type 0) (place : ℕ) (own : Known Event) (roll roll_now : List Event) (out : Option (List ℕ)) : Type 0 where
  pub releases : ReleasesSome C P place own
  pub rolls : Rolls roll roll_now releases.before.log releases.after.log
  pub wrote : Wrote out (given_to own.number releases.before.log)

-- the same, where the box of this place was not that of the connection
pub record FindsNone (C P : Type 0) (place : ℕ) (own : Known Event) : Type 0 where
  pub releases : ReleasesSome C P place own
  pub gone : is_in own.number (slice_get releases.before.inside.boxes place) ≡ false

-- no connection had a box any more, and this was the log. Of each connection that got a box it says
-- that this was given back, once, and that its end did nothing behind that; who has the roll was
-- told of all of them
pub record EndsAll (C P : Type 0) (roll roll_now : List Event) : Type 0 where
  pub inside : InsideParts
  pub runs : Runs C P roll_now inside
  pub began : IsPrefix roll roll_now
  pub ended : numbers_of ended_by roll ≡ numbers_of ended_by roll_now
  pub once : EndsOnce is_by ended_by roll_now
  pub all : (number place : ℕ) → list_any (is_box_of number place) roll_now ≡ true → Contains (numbers_of ended_by roll_now) number

-- the box of this place, where it is that of the connection of this number, was shut by its reader
-- or its writer, and the thread that was told there, if any, was broken at this moment by one step;
-- the pens that came out behind it went round until all were laid down
pub record EndsSome (C P : Type 0) (now place number : ℕ) (is_by_reader : Bool) : Type 0 where
  pub before : LoggedParts
  pub after : LoggedParts
  pub pens : Errands C P
  pub left : Errands C P
  pub turned : Turned C P before after (event.Ended now place number is_by_reader (gifts pens))
  pub ends : EndsAt before.inside.upkeep after.inside.upkeep before.inside.kernel after.inside.kernel now (thread_for number (slice_get before.inside.boxes place))
  pub shut : OnlyLoads (changed_at (shut_for number) before.inside.boxes place) after.inside.boxes
  pub carries : Carries pens left

-- the same by its reader, whose end made no event but this one
pub record HangsUpSome (C P : Type 0) (now place : ℕ) (own own_now : Known Event) : Type 0 where
  pub ends : EndsSome C P now place own.number true
  pub makes : Makes own own_now ends.before.log ends.after.log (event.Ended now place own.number true (gifts ends.pens))

-- the pen of the connection of this number came out of the box of this place, with what is told
-- next, or as it is, within a frame
pub record TakesOutSome (C P : Type 0) (place number : ℕ) (pen : Page) : Type 0 where
  pub before : LoggedParts
  pub after : LoggedParts
  pub box : BoxParts
  pub left : BoxParts
  pub turned : Turned C P before after (event.Worked place number (work_gifts {C = C} {P = P} (slice_get before.inside.boxes place) (Some (work.Write pen))))
  pub there : slice_get before.inside.boxes place ≡ Some box
  pub is_its : is_of number box.number ≡ true
  pub comes : Loads before.inside.kernel after.inside.kernel box left pen ⊎ ((box.pen ≡ Some pen) × (left ≡ record box { pen = None }))

-- nothing more is written for the connection of this number: its box, that of this place, is shut
-- and empty, its device failed, or it has none
pub record EndsWorkSome (C T P : Type 0) (place number : ℕ) : Type 0 where
  pub before : LoggedParts
  pub after : LoggedParts
  pub turned : Turned C P before after (event.Worked place number [])
  pub over : WorksFor {C = C} {P = P} before.inside.kernel after.inside.kernel before.inside.boxes after.inside.boxes place number
      (slice_get before.inside.boxes place) (Some work.Over)

-- a pen was laid down in the box of its connection, if there is one; where it came out again with
-- what is told next it went round until it was laid down
pub record LaysSome (C P : Type 0) (pen : Page) : Type 0 where
  pub before : LoggedParts
  pub after : LoggedParts
  pub errands : Errands C P
  pub again : Errands C P
  pub left : Errands C P
  pub first : errands.first ≡ Some pen
  pub second : errands.second ≡ None
  pub third : errands.third ≡ None
  pub turned : Turned C P before after (event.Laid (gifts again))
  pub lays : TakesBack before.inside.kernel after.inside.kernel before.inside.boxes after.inside.boxes errands again
  pub carries : Carries again left

-- this is the outcome of the thread's last call
pub record GivesSome (C P : Type 0) (thread : ℕ) (outcome : OutcomeParts) : Type 0 where
  pub before : LoggedParts
  pub after : LoggedParts
  pub taken : ℕ
  pub turned : Turned C P before after (event.Took thread taken (outcome ∷ []))

-- a thread was not live
pub record NotLiveSome (C P : Type 0) (thread : ℕ) : Type 0 where
  pub logged : LoggedParts
  pub runs : Runs C P logged.log logged.inside
  pub legal : Legal logged.inside.kernel.history
  pub is_gone : is_live logged.inside.kernel.history thread ≡ false

-- a step copied a block
abbrev pub is_moved : Answer → Bool
is_moved (Advanced advance.Moved) = true
is_moved answer = false

-- a step was made at this moment that copies a block of what is in transfer, if there is one
pub record AdvancesSome (C P : Type 0) (now : ℕ) (moved : Bool) : Type 0 where
  pub answer : Answer
  pub acts : ActsSome {C = C} P now None Advance answer
  pub is : moved ≡ is_moved answer

-- a step was made at this moment that copies a block of what is in transfer, if there is one; it
-- goes on where it copied one and more is left
pub record MovesSome (C P : Type 0) (now : ℕ) (goes_on : Bool) : Type 0 where
  pub answer : Answer
  pub acts : ActsSome {C = C} P now None Advance answer
  pub goes_on_is : goes_on ≡ (is_moved answer && is_some (next_moving acts.after.inside.kernel.history))

-- the same so often, and each step copied one
abbrev pub MovesEach : (C P : Type 0) → ℕ → ℕ → Type 0
MovesEach C P now zero = ⊤
MovesEach C P now (suc count) = MovesEach C P now count × MovesSome C P now true

-- the blocks of the longest message, and one
abbrev pub most_blocks : ℕ
most_blocks = max_string_bytes / block_bytes + 1

-- blocks were copied at this moment, until none was left or that many were copied
pub record MovesAll (C P : Type 0) (now : ℕ) : Type 0 where
  pub count : ℕ
  pub moves : MovesEach C P now count
  pub ends : MovesSome C P now false ⊎ (count ≡ most_blocks)

-- the work under the lock was over
pub record OverSome (C T P : Type 0) : Type 0 where
  pub logged : LoggedParts
  pub runs : Runs C P logged.log logged.inside
  pub over : logged.is_work_over || logged.closed ≡ true

-- the ticker rested until the first moment at which a phase is due
pub record RestsSome (C T P : Type 0) (now : ℕ) : Type 0 where
  pub logged : LoggedParts
  pub rest : Rest
  pub runs : Runs C P logged.log logged.inside
  pub rests : Rests logged.inside.kernel.history now rest

-- the same, or the work was over
abbrev pub RestsOrEnds : (C T P : Type 0) → ℕ → Type 0
RestsOrEnds C T P now = RestsSome C T P now ⊎ OverSome C T P

-- a transfer had begun, or the work was over
pub record WorksSome (C T P : Type 0) (goes_on : Bool) : Type 0 where
  pub logged : LoggedParts
  pub runs : Runs C P logged.log logged.inside
  pub begun : goes_on ≡ true → logged.begun ≡ true
  pub over : goes_on ≡ not (logged.is_work_over || logged.closed)

-- What a caller above the lock is told, of the kernel that stands under it.
use Rattle.std.proofs.Common.{◌≡◌, ℕ, suc, ◌+◌, ◌-◌, ◌∷◌, List, [], Bool, true, false, Option, Some, None, if◌then◌else◌, inl, inr, length, refl, subst, sym, ap, ◌∙◌, arith}
use Rattle.std.proofs.lemmas.Option.{none-some}
use Rattle.std.specs.Prelude.{◌&&◌, ◌||◌, IfNone, IfSome, is_some, not, slice_get}
use Rattle.ipc_connection.specs.declared.asking.Request.{Request}
use Rattle.ipc_connection.specs.declared.replying.Told.{Told}
use Rattle.ipc_connection.specs.declared.replying.Told.TheVariants as told
use Rattle.ipc_core.specs.KernelParts.{KernelParts}
use Rattle.ipc_core.specs.declared.command.Answer.{Answer}
use Rattle.ipc_core.specs.declared.command.Command.{Command}
use Rattle.ipc_core.specs.declared.command.Command.TheVariants.{Advance}
use Rattle.ipc_core.specs.declared.refusal.Refusal.TheVariants.{NoThread}
use Rattle.ipc_history.specs.Legal.{Legal, next_moving}
use Rattle.ipc_history.specs.Outcomes.{OutcomeParts}
use Rattle.ipc_history.specs.Threads.{is_live}
use Rattle.ipc_history.specs.declared.entry.Entry.{Entry}
use Rattle.ipc_seats.specs.Alarms.{Rests}
use Rattle.ipc_lock.specs.Above.{ActsSome, AdvancesSome, AsksOrRefuses, ConnectsSome, EndsSome, EntryOfSome, FindsNone, GivesSome, GoneSome, GroupOfSome, HandsOut, HangsUpSome, IsReady, LeftOfSome, MarksSome, MovesEach, MovesSome, NotLiveSome, OverSome, PostsOrDrops, ReleasesSome, RestsOrEnds, WorksSome, is_moved}
use Rattle.ipc_connection.specs.Pens.{Page}
use Rattle.ipc_seats.specs.Boxes.{BoxParts, changed_at, is_of}
use Rattle.ipc_seats.specs.Gifts.{gifts, no_errands, number_in}
use Rattle.ipc_seats.specs.Giving.{Wrote}
use Rattle.ipc_seats.specs.Groups.{IsGroupAt}
use Rattle.ipc_lock.specs.InsideParts.{LoggedParts}
use Rattle.ipc_lock.specs.Logs.{given_to}
use Rattle.ipc_base.specs.LogViews.{Known}
use Rattle.ipc_seats.specs.Owning.{Begins, Knows, Makes, Rolls, Sees}
use Rattle.ipc_seats.specs.Noting.{NotesOn, NotesStep}
use Rattle.ipc_seats.specs.Places.{EndsAt, FreesSome, LoadsAt, LoadsOne, OnlyLoads, is_empty_in, is_in, is_out, is_shut_in, pen_in, shut_for, thread_for}
use Rattle.ipc_seats.specs.Upkeeping.{LetsGo, noted}
use Rattle.ipc_seats.specs.declared.errands.Errands.{Errands}
use Rattle.ipc_seats.specs.declared.events.Event.{Event}
use Rattle.ipc_seats.specs.declared.events.Event.TheVariants as event
use Rattle.ipc_seats.specs.declared.rest.Rest.{Rest}
use Rattle.ipc_seats.specs.declared.seated.seats.CallSeat.{CallSeat}
use Rattle.ipc_seats.specs.declared.upkeep.Upkeep.{Upkeep}
use Rattle.ipc_lock.specs.Rounds.{Carries}
use Rattle.ipc_lock.specs.Telling.{ActsAndTells, AsksAndTells}
use Rattle.ipc_lock.specs.Turns.{Runs, Turned}

pub acts_some : {C P : Type 0} (before after : LoggedParts) (now : ℕ) (seat : Option (CallSeat C)) (command : Command) (answer : Answer) (pens left : Errands C P)
    → Turned C P before after (event.Acted now (command ∷ []) (answer ∷ []) (gifts pens))
    → ActsAndTells before.inside.upkeep after.inside.upkeep before.inside.kernel after.inside.kernel now seat command answer before.inside.owners
    before.inside.boxes after.inside.boxes no_errands pens
    → Carries pens left → ActsSome P now seat command answer
acts_some before after now seat command answer pens left turned acts carries = record {
  before = before;
  after = after;
  pens = pens;
  left = left;
  turned = turned;
  acts = acts;
  carries = carries;
}

pub asks_some : {C P : Type 0} (before there after : LoggedParts) (now : ℕ) (seat own_seat : Option (CallSeat C)) (asked : Request) (space : ℕ) (said : Told)
    (place : ℕ) (pens left : Errands C P) (own own_then own_now : Known Event) → own_seat ≡ seat → own_then ≡ own → before ≡ there
    → is_in own.number (slice_get there.inside.boxes place) ≡ true → is_shut_in (slice_get there.inside.boxes place) ≡ false
    → is_empty_in (slice_get there.inside.boxes place) ≡ true
    → Turned C P before after (event.Asked now place (number_in (slice_get before.inside.boxes place)) (asked ∷ []) space said (gifts pens))
    → AsksAndTells before.inside.upkeep after.inside.upkeep before.inside.kernel after.inside.kernel now own_seat asked space said before.inside.owners place
    before.inside.boxes after.inside.boxes no_errands pens
    → Makes own_then own_now before.log after.log (event.Asked now place (number_in (slice_get before.inside.boxes place)) (asked ∷ []) space said (gifts pens))
    → Carries pens left → AsksOrRefuses P now place seat asked space said own own_now
asks_some {C} {P} before there after now seat own_seat asked space said place pens left own own_then own_now by same at its is_open is_empty turned asks makes carries = inl (record {
  before = before;
  after = after;
  pens = pens;
  left = left;
  ready = subst (λ (l : LoggedParts). IsReady own.number (slice_get l.inside.boxes place)) (sym at) (record { own = its; is_open = is_open; is_empty = is_empty });
  turned = turned;
  makes = subst (λ (o : Known Event). Makes o own_now before.log after.log
      (event.Asked now place (number_in (slice_get before.inside.boxes place)) (asked ∷ []) space said (gifts pens))) same makes;
  asks = subst (λ (s : Option (CallSeat C)). AsksAndTells before.inside.upkeep after.inside.upkeep before.inside.kernel after.inside.kernel now s asked space said
      before.inside.owners place before.inside.boxes after.inside.boxes no_errands pens) by asks;
  carries = carries;
})

pub asks_none : {C : Type 0} (P : Type 0) (now place : ℕ) (seat : Option (CallSeat C)) (asked : Request) (space : ℕ) (said : Told)
    (own own_now : Known Event) → said ≡ told.Refused NoThread → GoneSome C P place own own_now
    → AsksOrRefuses P now place seat asked space said own own_now
asks_none P now place seat asked space said own own_now is gone = inr (is, gone)

-- a box is shut, or is another one's
pub gone_shut : (C P : Type 0) (logged shown there : LoggedParts) (place : ℕ) (own own_then own_now : Known Event) → logged ≡ there → shown ≡ there
    → own_then ≡ own → Runs C P logged.log logged.inside → Sees own_then own_now shown.log
    → is_shut_in (slice_get logged.inside.boxes place) ≡ true → GoneSome C P place own own_now
gone_shut C P logged shown there place own own_then own_now at shown_at same runs sees shut = record {
  logged = logged;
  runs = runs;
  sees = subst (λ (o : Known Event). Sees o own_now logged.log) same (subst (λ (l : LoggedParts). Sees own_then own_now l.log) (shown_at ∙ sym at) sees);
  gone = either (not (is_in own.number (slice_get logged.inside.boxes place))) shut;
}
  where
    either : {b : Bool} (a : Bool) → b ≡ true → a || b ≡ true
    either true h = refl
    either false h = h

pub gone_other : (C P : Type 0) (logged shown there : LoggedParts) (place number : ℕ) (own own_then own_now : Known Event) → logged ≡ there → shown ≡ there
    → own_then ≡ own → number ≡ own.number → Runs C P logged.log logged.inside → Sees own_then own_now shown.log
    → is_in number (slice_get logged.inside.boxes place) ≡ false → GoneSome C P place own own_now
gone_other C P logged shown there place number own own_then own_now at shown_at same is runs sees other = record {
  logged = logged;
  runs = runs;
  sees = subst (λ (o : Known Event). Sees o own_now logged.log) same (subst (λ (l : LoggedParts). Sees own_then own_now l.log) (shown_at ∙ sym at) sees);
  gone = subst (λ (b : Bool). not b || is_shut_in (slice_get logged.inside.boxes place) ≡ true)
      (sym (ap (λ (n : ℕ). is_in n (slice_get logged.inside.boxes place)) (sym is) ∙ other)) refl;
}

pub posts_some : (C P : Type 0) (before between after : LoggedParts) (place : ℕ) (said : Told) (pens left : Errands C P) (own own_then own_now : Known Event)
    → own_then ≡ own → is_in own.number (slice_get before.inside.boxes place) ≡ true → is_shut_in (slice_get before.inside.boxes place) ≡ false
    → is_empty_in (slice_get before.inside.boxes place) ≡ true
    → Turned C P before between (event.Posted place (number_in (slice_get before.inside.boxes place)) said) → Turned C P between after (event.Looked place (gifts pens))
    → LoadsAt between.inside.kernel after.inside.kernel between.inside.boxes after.inside.boxes place (slice_get between.inside.boxes place) no_errands pens
    → Makes own_then own_now before.log between.log (event.Posted place (number_in (slice_get before.inside.boxes place)) said)
    → Carries pens left → PostsOrDrops C P place said own own_now
posts_some C P before between after place said pens left own own_then own_now same its is_open is_empty posted looked loads makes carries = inl (record {
  before = before;
  between = between;
  after = after;
  pens = pens;
  left = left;
  ready = record { own = its; is_open = is_open; is_empty = is_empty };
  posted = posted;
  makes = subst (λ (o : Known Event). Makes o own_now before.log between.log (event.Posted place (number_in (slice_get before.inside.boxes place)) said)) same makes;
  looked = looked;
  posts = subst (λ (b : List BoxParts). LoadsOne (Some place) between.inside.kernel after.inside.kernel b after.inside.boxes no_errands pens) posted.turn.boxes loads;
  carries = carries;
})

pub posts_none : (C P : Type 0) (place : ℕ) (said : Told) (own own_now : Known Event) → GoneSome C P place own own_now
    → PostsOrDrops C P place said own own_now
posts_none C P place said own own_now gone = inr gone

pub advances_some : {C P : Type 0} (before after : LoggedParts) (now : ℕ) (answer : Answer) (pens left : Errands C P) (moved : Bool)
    → Turned C P before after (event.Acted now (Advance ∷ []) (answer ∷ []) (gifts pens))
    → ActsAndTells {C = C} before.inside.upkeep after.inside.upkeep before.inside.kernel after.inside.kernel now None Advance answer before.inside.owners
    before.inside.boxes after.inside.boxes no_errands pens
    → Carries pens left → moved ≡ is_moved answer → AdvancesSome C P now moved
advances_some before after now answer pens left moved turned acts carries is = record {
  answer = answer;
  acts = record { before = before; after = after; pens = pens; left = left; turned = turned; acts = acts; carries = carries };
  is = is;
}

pub moves_some : {C P : Type 0} (before after : LoggedParts) (now : ℕ) (answer : Answer) (pens left : Errands C P) (goes_on : Bool)
    → Turned C P before after (event.Acted now (Advance ∷ []) (answer ∷ []) (gifts pens))
    → ActsAndTells {C = C} before.inside.upkeep after.inside.upkeep before.inside.kernel after.inside.kernel now None Advance answer before.inside.owners
    before.inside.boxes after.inside.boxes no_errands pens
    → Carries pens left → goes_on ≡ (is_moved answer && is_some (next_moving after.inside.kernel.history)) → MovesSome C P now goes_on
moves_some before after now answer pens left goes_on turned acts carries is = record {
  answer = answer;
  acts = record { before = before; after = after; pens = pens; left = left; turned = turned; acts = acts; carries = carries };
  goes_on_is = is;
}

-- one block more was copied
pub moves_more : (C P : Type 0) (now count : ℕ) (moved : Bool) → MovesEach C P now count → MovesSome C P now moved → moved ≡ true → MovesEach C P now (count + 1)
moves_more C P now count moved each one is =
    let on : suc count ≡ count + 1 = omega arith in
    subst (λ (n : ℕ). MovesEach C P now n) on (each, subst (λ (b : Bool). MovesSome C P now b) is one)

pub not_live : (C P : Type 0) (logged : LoggedParts) (thread : ℕ) → Runs C P logged.log logged.inside → Legal logged.inside.kernel.history
    → is_live logged.inside.kernel.history thread ≡ false → NotLiveSome C P thread
not_live C P logged thread runs legal is = record { logged = logged; runs = runs; legal = legal; is_gone = is }

pub over_some : (C T P : Type 0) (logged : LoggedParts) (said : Bool) → Runs C P logged.log logged.inside
    → said ≡ (logged.is_work_over || logged.closed) → said ≡ true → OverSome C T P
over_some C T P logged said runs is over = record { logged = logged; runs = runs; over = sym is ∙ over }

pub rests_some : (C T P : Type 0) (logged : LoggedParts) (now : ℕ) (rest : Rest) → Runs C P logged.log logged.inside
    → Rests logged.inside.kernel.history now rest → RestsOrEnds C T P now
rests_some C T P logged now rest runs rests = inl (record { logged = logged; rest = rest; runs = runs; rests = rests })

pub rests_none : (C T P : Type 0) (now : ℕ) → OverSome C T P → RestsOrEnds C T P now
rests_none C T P now over = inr over

pub works_over : (C T P : Type 0) (logged : LoggedParts) (said : Bool) → Runs C P logged.log logged.inside
    → said ≡ (logged.is_work_over || logged.closed) → said ≡ true → WorksSome C T P false
works_over C T P logged said runs is over = record { logged = logged; runs = runs; begun = λ h. absurd (cc h); over = ap not (sym over ∙ is) }

pub works_begun : (C T P : Type 0) (logged first second : LoggedParts) (said begun : Bool) → first ≡ logged → second ≡ logged
    → Runs C P first.log first.inside → said ≡ (first.is_work_over || first.closed) → said ≡ false → begun ≡ second.begun → begun ≡ true → WorksSome C T P true
works_begun C T P logged first second said begun f s runs is goes has_begun holds = record {
  logged = first;
  runs = runs;
  begun = λ h. ap (λ (l : LoggedParts). l.begun) f ∙ (sym (ap (λ (l : LoggedParts). l.begun) s) ∙ (sym has_begun ∙ holds));
  over = ap not (sym goes ∙ is);
}

pub marks_some : (C P : Type 0) (before after : LoggedParts) (upto : ℕ) → Turned C P before after (event.Marked upto) → MarksSome C P upto
marks_some C P before after upto turned = record { before = before; after = after; turned = turned }

pub connects_some : (C P : Type 0) (before after : LoggedParts) (place number : ℕ) (own : Known Event) → own.number ≡ number
    → Turned C P before after (event.Connected place number) → Begins own after.log (event.Connected place own.number) → ConnectsSome C P place own
connects_some C P before after place number own is turned begins = record {
  before = before;
  after = after;
  turned = subst (λ (n : ℕ). Turned C P before after (event.Connected place n)) (sym is) turned;
  begins = begins;
}

pub releases_some : (C P : Type 0) (before after : LoggedParts) (place : ℕ) (own : Known Event) → Turned C P before after (event.Released place own.number)
    → Knows own before.log → FreesSome before.inside.boxes place own.number → ReleasesSome C P place own
releases_some C P before after place own turned knew frees = record { before = before; after = after; knew = knew; turned = turned; frees = frees }

-- its pen was handed out
pub hands_out : (C P : Type 0) (before after : LoggedParts) (place : ℕ) (own : Known Event) (roll roll_now : List Event) (out : Option (List ℕ))
    → Turned C P before after (event.Released place own.number) → Knows own before.log → FreesSome before.inside.boxes place own.number
    → Rolls roll roll_now before.log after.log → Wrote out (given_to own.number before.log) → HandsOut C P place own roll roll_now out
unfolding releases_some
hands_out C P before after place own roll roll_now out turned knew frees rolls wrote =
    record { releases = releases_some C P before after place own turned knew frees; rolls = rolls; wrote = wrote }

-- no pen lay in a box that is there, though none is out: it is not that of the connection
not_there : (number : ℕ) (box : Option BoxParts) → is_out number box ≡ false → pen_in number box ≡ None → is_in number box ≡ false
not_there number None out pen = refl
not_there number (Some box) out pen = go (is_of number box.number) box.pen out pen
  where
    go : (b : Bool) (page : Option Page) → b && not (is_some page) ≡ false → (if b then page else None) ≡ None → b ≡ false
    go true None out pen = out
    go true (Some page) out pen = absurd (none-some page (sym pen))
    go false page out pen = refl

pub finds_none : (C P : Type 0) (before after there : LoggedParts) (place : ℕ) (own : Known Event) → before ≡ there
    → Turned C P before after (event.Released place own.number) → Knows own before.log → FreesSome before.inside.boxes place own.number
    → is_out own.number (slice_get there.inside.boxes place) ≡ false
    → pen_in own.number (slice_get before.inside.boxes place) ≡ None → FindsNone C P place own
unfolding releases_some
finds_none C P before after there place own is turned knew frees out pen = record {
  releases = releases_some C P before after place own turned knew frees;
  gone = not_there own.number (slice_get before.inside.boxes place)
      (subst (λ (l : LoggedParts). is_out own.number (slice_get l.inside.boxes place) ≡ false) (sym is) out) pen;
}

-- the same, as the port comes or does not
pub hands_if : (C P : Type 0) {Q : Type 0} (result : Option Q) (written : Q → Option (List ℕ)) (before after : LoggedParts) (place : ℕ) (own : Known Event)
    (roll roll_now : List Event)
    → Turned C P before after (event.Released place own.number) → Knows own before.log → FreesSome before.inside.boxes place own.number
    → Rolls roll roll_now before.log after.log
    → IfSome result (λ port. Wrote (written port) (given_to own.number before.log)) → IfSome result (λ port. HandsOut C P place own roll roll_now (written port))
hands_if C P None written before after place own roll roll_now turned knew frees rolls wrote = tt
hands_if C P (Some port) written before after place own roll roll_now turned knew frees rolls wrote =
    hands_out C P before after place own roll roll_now (written port) turned knew frees rolls wrote

pub none_if : (C P : Type 0) {Q : Type 0} (result : Option Q) (before after there : LoggedParts) (place : ℕ) (own : Known Event) → before ≡ there
    → Turned C P before after (event.Released place own.number) → Knows own before.log → FreesSome before.inside.boxes place own.number
    → is_out own.number (slice_get there.inside.boxes place) ≡ false
    → IfNone result (pen_in own.number (slice_get before.inside.boxes place) ≡ None) → IfNone result (FindsNone C P place own)
none_if C P None before after there place own is turned knew frees out pen = finds_none C P before after there place own is turned knew frees out pen
none_if C P (Some port) before after there place own is turned knew frees out pen = tt

pub ends_some : (C P : Type 0) (before after : LoggedParts) (pens left : Errands C P) (now place number : ℕ) (is_by_reader : Bool)
    → Turned C P before after (event.Ended now place number is_by_reader (gifts pens))
    → EndsAt before.inside.upkeep after.inside.upkeep before.inside.kernel after.inside.kernel now (thread_for number (slice_get before.inside.boxes place))
    → OnlyLoads (changed_at (shut_for number) before.inside.boxes place) after.inside.boxes → Carries pens left → EndsSome C P now place number is_by_reader
ends_some C P before after pens left now place number is_by_reader turned ends shut carries =
    record { before = before; after = after; pens = pens; left = left; turned = turned; ends = ends; shut = shut; carries = carries }

pub hangs_up : (C P : Type 0) (before after : LoggedParts) (pens left : Errands C P) (now place : ℕ) (own own_now : Known Event)
    → Turned C P before after (event.Ended now place own.number true (gifts pens))
    → EndsAt before.inside.upkeep after.inside.upkeep before.inside.kernel after.inside.kernel now (thread_for own.number (slice_get before.inside.boxes place))
    → OnlyLoads (changed_at (shut_for own.number) before.inside.boxes place) after.inside.boxes
    → Makes own own_now before.log after.log (event.Ended now place own.number true (gifts pens)) → Carries pens left → HangsUpSome C P now place own own_now
unfolding ends_some
hangs_up C P before after pens left now place own own_now turned ends shut makes carries =
    record { ends = ends_some C P before after pens left now place own.number true turned ends shut carries; makes = makes }

pub group_some : (C P : Type 0) (logged : LoggedParts) (index : ℕ) (group : List Entry) → Runs C P logged.log logged.inside
    → Legal logged.inside.kernel.history → IsGroupAt logged.inside.kernel.history index group → GroupOfSome C P index group
group_some C P logged index group runs legal is = record { logged = logged; runs = runs; legal = legal; group_is = is }

pub entry_some : (C P : Type 0) (logged : LoggedParts) (index : ℕ) (entry : Option Entry) → Runs C P logged.log logged.inside
    → Legal logged.inside.kernel.history → entry ≡ slice_get logged.inside.kernel.history index → EntryOfSome C P index entry
entry_some C P logged index entry runs legal is = record { logged = logged; runs = runs; legal = legal; entry_is = is }

pub left_some : (C P : Type 0) (before after : LoggedParts) (upto left : ℕ) → Turned C P before after (event.Marked upto)
    → Legal before.inside.kernel.history → left ≡ length before.inside.kernel.history - upto → LeftOfSome C P upto left
left_some C P before after upto left turned legal is = record { before = before; after = after; turned = turned; legal = legal; left_is = is }

pub gives_some : (C P : Type 0) (before after : LoggedParts) (thread amount : ℕ) (outcome : OutcomeParts)
    → Turned C P before after (event.Took thread amount (outcome ∷ [])) → GivesSome C P thread outcome
gives_some C P before after thread amount outcome turned = record { before = before; after = after; taken = amount; turned = turned }

pub notes_on : (upkeep noted_upkeep after : Upkeep) (old before new : KernelParts) (now : ℕ) (command : Command) (empty finished : List ℕ) (room room_now : ℕ)
    → noted_upkeep ≡ noted command upkeep → LetsGo noted_upkeep after old before → empty ≡ [] → room_now ≡ room
    → NotesStep before new now empty finished room_now → NotesOn upkeep after old new now command finished room
notes_on upkeep noted_upkeep after old before new now command empty finished room room_now h lets_go none same notes = record {
  before = before;
  lets_go = subst (λ (u : Upkeep). LetsGo u after old before) h lets_go;
  notes = subst (λ (l : List ℕ). NotesStep before new now l finished room) none (subst (λ (r : ℕ). NotesStep before new now empty finished r) same notes);
}

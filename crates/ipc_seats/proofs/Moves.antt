-- What becomes of boxes and of the outcomes that are taken, step after step.
use Rattle.std.proofs.Common.{◌≡◌, ℕ, zero, suc, ◌<◌, ◌≤◌, List, [], ◌∷◌, ◌++◌, Option, Some, None, Bool, true, false, MatchBool, length, refl, sym, ap, ◌∙◌, subst, append_assoc}
use Rattle.std.proofs.lemmas.List.{append-nil, set_past, set-get_or}
use Rattle.std.proofs.lemmas.Option.{slice_get_read, slice_get_past}
use Rattle.std.specs.Prelude.{◌==◌, is_some, slice_get, slice_set, slice_index_or}
use Rattle.ipc_core.specs.KernelParts.{KernelParts}
use Rattle.ipc_core.specs.Effects.{Gives}
use Rattle.ipc_core.specs.Outcomes.{taken_by}
use Rattle.ipc_core.specs.Steps.{taken_after}
use Rattle.ipc_core.specs.declared.command.Answer.{Answer}
use Rattle.ipc_core.specs.declared.command.Answer.TheVariants as answer
use Rattle.ipc_core.specs.declared.command.Command.TheVariants.{Broke}
use Rattle.ipc_connection.specs.Replying.{told_of}
use Rattle.ipc_frame.specs.declared.version.WireVersion.{WireVersion}
use Rattle.ipc_history.specs.Outcomes.{OutcomeParts}
use Rattle.ipc_seats.specs.Acting.{ActsOn, GivesSeat, StepDoes}
use Rattle.ipc_connection.specs.Pens.{Page}
use Rattle.ipc_connection.specs.declared.given.Given.{Given}
use Rattle.ipc_connection.specs.declared.given.Given.TheVariants as given
use Rattle.ipc_seats.specs.Boxes.{BoxParts, HasNothing, LooksInto, OnlyTakes, TakeParts, TellsNothing, changed, changed_at, is_idle, put_at, risen, seat_parts, thread_at_seat, told_box}
use Rattle.ipc_seats.specs.Places.{Ends, LoadsAt, LooksAt, OnlyLoads, SameBox, StaysAll, added, new_seat, owned_by, told_in}
use Rattle.ipc_seats.specs.Seats.{TakesNothing}
use Rattle.ipc_seats.specs.declared.errands.Errands.{Errands}
use Rattle.ipc_seats.specs.declared.seated.seats.CallSeat.{CallSeat}
use Rattle.ipc_seats.specs.declared.seated.seats.TakeSeat.{TakeSeat}
use Rattle.ipc_seats.specs.declared.upkeep.Upkeep.{Upkeep}

-- nothing was taken
pub only_none : (kernel : KernelParts) → OnlyTakes kernel kernel
only_none kernel = record {
  history = refl;
  moment = refl;
  held = refl;
  entries_limit = refl;
  calls_limit = refl;
  room = refl;
  taken = ([], sym (append-nil kernel.taken));
}

-- first these outcomes were taken, and then those
pub only_both : (old between new : KernelParts) → OnlyTakes old between → OnlyTakes between new → OnlyTakes old new
only_both old between new h k = record {
  history = k.history ∙ h.history;
  moment = k.moment ∙ h.moment;
  held = k.held ∙ h.held;
  entries_limit = k.entries_limit ∙ h.entries_limit;
  calls_limit = k.calls_limit ∙ h.calls_limit;
  room = k.room ∙ h.room;
  taken = (h.taken.0 ++ k.taken.0, k.taken.1 ∙ (ap (λ (l : List ℕ). l ++ k.taken.0) h.taken.1 ∙ append_assoc old.taken h.taken.0 k.taken.0));
}

more_taken : (outcome : Option OutcomeParts) (taken : List ℕ) → (more : List ℕ) × (taken_after outcome taken ≡ taken ++ more)
more_taken None taken = ([], sym (append-nil taken))
more_taken (Some outcome) taken = (outcome.call ∷ [], refl)

-- an outcome was given, or there was none
pub only_gives : (old new : KernelParts) (thread : ℕ) (outcome : Option OutcomeParts) → Gives old new thread outcome → OnlyTakes old new
only_gives old new thread outcome h =
    let more = more_taken outcome old.taken in
    record {
      history = ap (λ (k : KernelParts). k.history) h.taken;
      moment = ap (λ (k : KernelParts). k.moment) h.taken;
      held = ap (λ (k : KernelParts). k.held) h.taken;
      entries_limit = ap (λ (k : KernelParts). k.entries_limit) h.taken;
      calls_limit = ap (λ (k : KernelParts). k.calls_limit) h.taken;
      room = ap (λ (k : KernelParts). k.room) h.taken;
      taken = (more.0, ap (λ (k : KernelParts). k.taken) h.taken ∙ more.1);
    }

-- nothing was there to take
pub only_nothing : (old new : KernelParts) (thread amount : ℕ) → TakesNothing old new thread amount → OnlyTakes old new
only_nothing old new thread amount h = go (amount == taken_by old thread) h
  where
    go : (b : Bool) → MatchBool b (Gives old new thread None) (new ≡ old) → OnlyTakes old new
    go true gives = only_gives old new thread None gives
    go false same = subst (λ (k : KernelParts). OnlyTakes old k) (sym same) (only_none old)

pub same_box : (box : BoxParts) → SameBox box box
same_box box = record { place = refl; number = refl; version = refl; shut = refl; thread = refl }

pub same_both : (box between after : BoxParts) → SameBox box between → SameBox between after → SameBox box after
same_both box between after h k = record { place = k.place ∙ h.place; number = k.number ∙ h.number; version = k.version ∙ h.version; shut = k.shut ∙ h.shut; thread = k.thread ∙ h.thread }

abbrev pub box_or : BoxParts → Option BoxParts → BoxParts
box_or box None = box
box_or box (Some other) = other

-- nothing went out
pub loads_none : (boxes : List BoxParts) → OnlyLoads boxes boxes
loads_none [] = tt
loads_none (box ∷ boxes) = (same_box box, loads_none boxes)

-- first this went out, and then that
pub loads_both : (boxes between after : List BoxParts) → OnlyLoads boxes between → OnlyLoads between after → OnlyLoads boxes after
loads_both [] [] after h k = k
loads_both [] (b ∷ between) after h k = absurd h
loads_both (box ∷ boxes) [] after h k = absurd h
loads_both (box ∷ boxes) (b ∷ between) [] h k = absurd k
loads_both (box ∷ boxes) (b ∷ between) (left ∷ after) h k = (same_both box b left h.0 k.0, loads_both boxes between after h.1 k.1)

-- something went out of the box of a place
pub loads_one : (boxes : List BoxParts) (place : ℕ) (box left : BoxParts) → slice_get boxes place ≡ Some box → SameBox box left → OnlyLoads boxes (slice_set boxes place left)
loads_one [] place box left there same = tt
loads_one (b ∷ boxes) zero box left there same = (subst (λ (x : BoxParts). SameBox x left) (sym (ap (λ (o : Option BoxParts). box_or b o) there)) same, loads_none boxes)
loads_one (b ∷ boxes) (suc place) box left there same = (same_box b, loads_one boxes place box left there same)

-- the box of a place that is there changed
pub changed_there : (change : BoxParts → BoxParts) (boxes : List BoxParts) (place : ℕ) (box after : BoxParts) → place < length boxes → box ≡ slice_index_or boxes place box → after ≡ change box
    → slice_set boxes place after ≡ changed_at change boxes place
changed_there change boxes place box after within is be =
    ap (λ (b : BoxParts). slice_set boxes place b) be
    ∙ sym (ap (λ (o : Option BoxParts). put_at boxes place (changed change o)) (slice_get_read boxes (length boxes) place box refl within is))

-- and one that is not there does not
pub changed_none : (change : BoxParts → BoxParts) (boxes : List BoxParts) (place : ℕ) → length boxes ≤ place → boxes ≡ changed_at change boxes place
changed_none change boxes place past = sym (ap (λ (o : Option BoxParts). put_at boxes place (changed change o)) (slice_get_past boxes place past))

-- the seat of a thread that was opened is that of what is told
pub told_so : {T : Type 0} (version : WireVersion) (moment : ℕ) (said : Answer) (takes : Option (TakeSeat T)) (boxes : List BoxParts) (place : ℕ)
    → GivesSeat said takes → told_in (told_of version moment said) (seat_parts takes) boxes place ≡ told_in (told_of version moment said) (new_seat (told_of version moment said)) boxes place
told_so version moment (answer.Opened thread) None boxes place h = absurd h
told_so version moment (answer.Opened thread) (Some seat) boxes place h = cc
told_so version moment (answer.Entered entered) takes boxes place h = refl
told_so version moment (answer.Exchanged exchanged) takes boxes place h = refl
told_so version moment answer.Done takes boxes place h = refl
told_so version moment (answer.Advanced advance) takes boxes place h = refl
told_so version moment (answer.Taken outcome) takes boxes place h = refl
told_so version moment (answer.Refused refusal) takes boxes place h = refl

pub owned_so : {T : Type 0} (version : WireVersion) (moment : ℕ) (said : Answer) (takes : Option (TakeSeat T)) (owners : List (Option ℕ)) (place : ℕ)
    → GivesSeat said takes → owned_by (told_of version moment said) (seat_parts takes) owners place ≡ owned_by (told_of version moment said) (new_seat (told_of version moment said)) owners place
owned_so version moment (answer.Opened thread) None owners place h = absurd h
owned_so version moment (answer.Opened thread) (Some seat) owners place h = cc
owned_so version moment (answer.Entered entered) takes owners place h = refl
owned_so version moment (answer.Exchanged exchanged) takes owners place h = refl
owned_so version moment answer.Done takes owners place h = refl
owned_so version moment (answer.Advanced advance) takes owners place h = refl
owned_so version moment (answer.Taken outcome) takes owners place h = refl
owned_so version moment (answer.Refused refusal) takes owners place h = refl

-- a break needs no seat
pub ends_so : {C : Type 0} (seat : Option (CallSeat C)) (upkeep after : Upkeep) (old between new : KernelParts) (now thread : ℕ) (said : Answer)
    → ActsOn upkeep after old between now seat (Broke thread) said → OnlyTakes between new → Ends upkeep after old new now thread
unfolding StepDoes
ends_so seat upkeep after old between new now thread said h only = record {
  before = h.before;
  ticked = h.acts.between;
  broken = between;
  answer = said;
  lets_go = h.lets_go;
  ticks = h.acts.ticks;
  breaks = h.acts.does;
  only = only;
}

-- the box of a place that is there, and one that is not
pub there : (boxes : List BoxParts) (place : ℕ) (box : BoxParts) → place < length boxes → box ≡ slice_index_or boxes place box → slice_get boxes place ≡ Some box
there boxes place box within is = slice_get_read boxes (length boxes) place box refl within is

pub none_there : (boxes : List BoxParts) (place : ℕ) → length boxes ≤ place → slice_get boxes place ≡ None
none_there boxes place past = slice_get_past boxes place past

-- a box that did not change
pub set_same : (boxes : List BoxParts) (place : ℕ) (box : BoxParts) → box ≡ slice_index_or boxes place box → slice_set boxes place box ≡ boxes
set_same boxes place box is = ap (λ (b : BoxParts). slice_set boxes place b) is ∙ set-get_or boxes place box

-- no owner of such a number
pub set_none : (owners : List (Option ℕ)) (place : ℕ) (owner : Option ℕ) → length owners ≤ place → slice_set owners place owner ≡ owners
set_none owners place owner past = set_past owners place owner past

pub same_told : (old new : KernelParts) (box left : BoxParts) → TellsNothing old new box left → SameBox box left
same_told old new box left h = go (is_idle box.pen) h
  where
    go : (b : Bool) → MatchBool b (HasNothing old new box × (left ≡ record box { posted = None })) ((new ≡ old) × (left ≡ box)) → SameBox box left
    go true h = subst (λ (x : BoxParts). SameBox box x) (sym h.1) (record { place = refl; number = refl; version = refl; shut = refl; thread = refl })
    go false h = subst (λ (x : BoxParts). SameBox box x) (sym h.1) (same_box box)

pub risen_thread : (seat : Option TakeParts) → thread_at_seat (risen seat) ≡ thread_at_seat seat
risen_thread None = refl
risen_thread (Some seat) = refl

pub same_next : (box left : BoxParts) (next : Given) → left ≡ record (told_box box (Some next)) { pen = None } → SameBox box left
same_next box left (given.Frame frame) h = subst (λ (x : BoxParts). SameBox box x) (sym h) (record { place = refl; number = refl; version = refl; shut = refl; thread = refl })
same_next box left (given.Outcome version outcome) h =
    subst (λ (x : BoxParts). SameBox box x) (sym h) (record { place = refl; number = refl; version = refl; shut = refl; thread = risen_thread box.seat })

pub same_looked : (old new : KernelParts) (box left : BoxParts) (out : Option Page) → LooksInto old new box left out → SameBox box left
same_looked old new box left None h = same_told old new box left h
same_looked old new box left (Some pen) h = same_next box left h.next h.left

-- a pen came out of the box of a place, or none did
pub loads_stay : {C P : Type 0} (old new : KernelParts) (boxes after : List BoxParts) (place : ℕ) (errands errands_now : Errands C P)
    → LoadsAt old new boxes after place (slice_get boxes place) errands errands_now → OnlyLoads boxes after
loads_stay {C} {P} old new boxes after place errands errands_now h = go (slice_get boxes place) refl h
  where
    stays : StaysAll old new boxes after → OnlyLoads boxes after
    stays h = subst (λ (bs : List BoxParts). OnlyLoads boxes bs) (sym h.no_change) (loads_none boxes)

    of_box : (b : Bool) (box : BoxParts) → slice_get boxes place ≡ Some box
        → MatchBool b (StaysAll old new boxes after × (errands_now ≡ errands)) ((out : Option Page) × LooksAt old new boxes after place box out × (errands_now ≡ added out errands))
        → OnlyLoads boxes after
    of_box true box is h = stays h.0
    of_box false box is h =
        subst (λ (bs : List BoxParts). OnlyLoads boxes bs) (sym h.1.others) (loads_one boxes place box h.1.left is (same_looked old new box h.1.left h.0 h.1.looks))

    go : (o : Option BoxParts) → slice_get boxes place ≡ o → LoadsAt old new boxes after place o errands errands_now → OnlyLoads boxes after
    go None is h = stays h.0
    go (Some box) is h = of_box (is_some errands.third) box is h

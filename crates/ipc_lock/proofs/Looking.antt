-- What a look into boxes gives their connections: outcomes of calls of threads that they opened,
-- and frames of what they were told.
use Rattle.std.proofs.Common.{◌≡◌, ℕ, List, [], ◌∷◌, ◌++◌, append_assoc, append-nil, Bool, true, false, MatchBool, Option, Some, None, ◌==◌, ◌&&◌, if◌then◌else◌, refl, sym, ap, ◌∙◌, subst, eqb-true}
use Rattle.std.proofs.lemmas.Bool.{false≢true}
use Rattle.std.proofs.lemmas.List.Elements.{All-append, All-cons, All-nil, All-set, All-weaker}
use Rattle.std.proofs.lemmas.Option.{get_or_from_slice_get, none-some, slice_get_within}
use Rattle.std.specs.Prelude.{All, Contains, slice_get, slice_set}
use Rattle.ipc_connection.specs.declared.replying.Told.{Told}
use Rattle.ipc_core.specs.KernelParts.{KernelParts}
use Rattle.ipc_core.specs.Laws.{IsSound}
use Rattle.ipc_core.specs.Outcomes.{is_among}
use Rattle.ipc_desks.proofs.LastCalls.{last_is}
use Rattle.ipc_frame.specs.declared.frame.Frame.{Frame}
use Rattle.ipc_frame.specs.declared.version.WireVersion.{WireVersion}
use Rattle.ipc_history.specs.declared.entry.Entry.{Entry}
use Rattle.ipc_laws.proofs.Growth.{caller_of_kept, is_called_kept}
use Rattle.ipc_connection.specs.Pens.{Page, given_next}
use Rattle.ipc_connection.specs.declared.given.Given.{Given}
use Rattle.ipc_connection.specs.declared.given.Given.TheVariants as given
use Rattle.ipc_seats.specs.Boxes.{Begins, BoxParts, ComesOut, EndsWork, GoesOn, HasNothing, Loads, LooksFirst, LooksInto, TakeParts, TellsNothing, Works, WritesOn, frame_posted, has_failed, is_idle, is_of, is_own, is_pen_of, thread_at_seat, thread_of, told_box}
use Rattle.ipc_seats.specs.Gifts.{gift_in, gift_of, gift_to, gifts, last_of, work_gifts}
use Rattle.ipc_seats.specs.Places.{LaysAt, LooksAgain, LooksAt, StaysAll, TakesBack, WorksFor}
use Rattle.ipc_seats.specs.declared.errands.Errands.{Errands}
use Rattle.ipc_seats.specs.declared.events.Gift.{Gift}
use Rattle.ipc_seats.specs.declared.post_box.Work.{Work}
use Rattle.ipc_seats.specs.declared.post_box.Work.TheVariants as work
use Rattle.ipc_seats.proofs.Continuing.{Continues, continues_both, continues_gives, continues_nothing, continues_same}
use Rattle.ipc_seats.proofs.Ordering.{last_of_taken}
use Rattle.ipc_seats.proofs.Moves.{risen_thread}
use Rattle.ipc_lock.specs.Logs.{IsOwn, IsReply, WasOutcome, call_of, calls_of}

-- what events say of one connection: the threads that its requests opened, and what it was told
pub record Known : Type 0 where
  pub opened : List ℕ
  pub said : List Told

-- the pen of a box is its own, the thread that is told there is one that its connection opened, and
-- what is posted there is what its connection was told
pub record IsKept (known : ℕ → Known) (box : BoxParts) : Type 0 where
  pub own : is_own box.pen box.place box.number ≡ true
  pub seated : (number thread : ℕ) → box.number ≡ Some number → thread_of box ≡ Some thread → is_among thread (known number).opened ≡ true
  pub posted : (number : ℕ) (said : Told) → box.number ≡ Some number → box.posted ≡ Some said → Contains (known number).said said

abbrev pub AreKept : (ℕ → Known) → List BoxParts → Type 0
AreKept known boxes = All (IsKept known) boxes

-- a gift to a connection is of a call of a thread that it opened, or of what it was told
abbrev pub IsGiftFor : List Entry → (ℕ → Known) → Gift → Type 0
IsGiftFor H known gift = IsOwn H (known gift.number).opened (known gift.number).said gift.given

-- one box was looked into, and this was given
record Shows (known : ℕ → Known) (old new : KernelParts) (box left : BoxParts) (gave : List Gift) : Type 0 where
  continues : Continues old new (calls_of gave) []
  kept : IsKept known box → IsKept known left
  owned : IsSound old → IsKept known box → All (IsGiftFor new.history known) gave

-- boxes were looked into, and this was given
pub record Tells (known : ℕ → Known) (old new : KernelParts) (boxes after : List BoxParts) (gave : List Gift) : Type 0 where
  pub continues : Continues old new (calls_of gave) []
  pub kept : AreKept known boxes → AreKept known after
  pub owned : IsSound old → AreKept known boxes → All (IsGiftFor new.history known) gave

calls_append : (first second : List Gift) → calls_of (first ++ second) ≡ calls_of first ++ calls_of second
calls_append [] second = refl
calls_append (gift ∷ first) second =
    ap (λ (l : List ℕ). call_of gift.given ++ l) (calls_append first second) ∙ sym (append_assoc (call_of gift.given) (calls_of first) (calls_of second))

-- what was true of an outcome stays true as the history goes on
pub own_grown : (H K more : List Entry) (threads : List ℕ) (said : List Told) (next : Given) → K ≡ H ++ more → IsOwn H threads said next → IsOwn K threads said next
own_grown H K more threads said (given.Outcome version outcome) grows h =
    subst (λ (l : List Entry). WasOutcome l threads outcome) (sym grows) (record {
      called = is_called_kept H more outcome.call h.called;
      own = subst (λ (t : ℕ). is_among t threads ≡ true) (sym (caller_of_kept H more outcome.call h.called)) h.own;
      before = h.before;
      rest = h.rest ++ more;
      whole = ap (λ (l : List Entry). l ++ more) h.whole ∙ append_assoc h.before h.rest more;
      was = h.was;
    })
own_grown H K more threads said (given.Frame frame) grows h = h

pub tells_none : (known : ℕ → Known) (old new : KernelParts) (boxes after : List BoxParts) → StaysAll old new boxes after → Tells known old new boxes after []
tells_none known old new boxes after h = record {
  continues = continues_same old new h.no_step;
  kept = λ kept. subst (λ (b : List BoxParts). AreKept known b) (sym h.no_change) kept;
  owned = λ sound kept. All-nil (IsGiftFor new.history known);
}

pub tells_both : (known : ℕ → Known) (old between new : KernelParts) (boxes middle after : List BoxParts) (first second : List Gift)
    → Tells known old between boxes middle first → Tells known between new middle after second → Tells known old new boxes after (first ++ second)
tells_both known old between new boxes middle after first second h k = record {
  continues = subst (λ (l : List ℕ). Continues old new l []) (sym (calls_append first second)) (continues_both old between new (calls_of first) (calls_of second) [] [] h.continues k.continues);
  kept = λ kept. k.kept (h.kept kept);
  owned = λ sound kept. All-append (IsGiftFor new.history known) first second
      (All-weaker (IsGiftFor between.history known) (IsGiftFor new.history known)
      (λ (gift : Gift). own_grown between.history new.history k.continues.more (known gift.number).opened (known gift.number).said gift.given k.continues.grows) first (h.owned sound kept))
      (k.owned (h.continues.sound sound) (h.kept kept));
}

-- nothing was told first
nothing_first : (old new : KernelParts) (seat : Option TakeParts) → LooksFirst old new seat None → Continues old new [] []
nothing_first old new None h = continues_same old new h
nothing_first old new (Some seat) h = continues_nothing old new seat.thread seat.taken h

next_first : (old new : KernelParts) (seat : Option TakeParts) (next : Given) → LooksFirst old new seat (Some next) → Continues old new (call_of next ++ []) []
next_first old new None (given.Outcome version outcome) h = absurd h
next_first old new None (given.Frame frame) h = continues_same old new h
next_first old new (Some seat) (given.Outcome version outcome) h = continues_gives old new seat.thread (Some outcome) h
next_first old new (Some seat) (given.Frame frame) h = continues_nothing old new seat.thread seat.taken h

-- a frame is that of what was posted
posted_own : (version : WireVersion) (posted : Option Told) (said : List Told) (frame : Frame) → frame_posted version posted ≡ Some frame
    → ((told : Told) → posted ≡ Some told → Contains said told) → IsReply said frame
posted_own version None said frame is there = absurd (none-some frame is)
posted_own version (Some told) said frame is there = record { version = version; told = told; there = there told refl; frame_is = is }

-- and an outcome that of the last call of the thread of the seat
first_owned : (old new : KernelParts) (seat : Option TakeParts) (next : Given) (version : WireVersion) (posted : Option Told) (threads : List ℕ) (said : List Told) → IsSound old
    → ((thread : ℕ) → thread_at_seat seat ≡ Some thread → is_among thread threads ≡ true) → ((told : Told) → posted ≡ Some told → Contains said told)
    → LooksFirst old new seat (Some next) → ComesOut version posted (Some next) → IsOwn new.history threads said next
first_owned old new None (given.Outcome other outcome) version posted threads said sound among there h out = absurd h
first_owned old new None (given.Frame frame) version posted threads said sound among there h out = posted_own version posted said frame out there
first_owned old new (Some seat) (given.Frame frame) version posted threads said sound among there h out = posted_own version posted said frame out there
first_owned old new (Some seat) (given.Outcome other outcome) version posted threads said sound among there h out =
    let told = last_of_taken old seat.thread outcome (sym h.outcome_is) in
    let last = last_is old.history sound.legal seat.thread outcome.call told.0 in
    subst (λ (l : List Entry). WasOutcome l threads outcome) (sym (ap (λ (k : KernelParts). k.history) h.taken)) (record {
      called = last.1;
      own = subst (λ (t : ℕ). is_among t threads ≡ true) (sym last.0) (among seat.thread refl);
      before = old.history;
      rest = [];
      whole = sym (append-nil old.history);
      was = told.1;
    })

shows_nothing : (known : ℕ → Known) (old new : KernelParts) (box left : BoxParts) → TellsNothing old new box left → Shows known old new box left []
shows_nothing known old new box left h = go (is_idle box.pen) h
  where
    go : (b : Bool) → MatchBool b (HasNothing old new box × (left ≡ record box { posted = None })) ((new ≡ old) × (left ≡ box)) → Shows known old new box left []
    go true h = record {
      continues = nothing_first old new box.seat h.0.first;
      kept = λ kept. subst (λ (b : BoxParts). IsKept known b) (sym h.1) (record { own = kept.own; seated = kept.seated; posted = λ number said of is. absurd (none-some said is) });
      owned = λ sound kept. All-nil (IsGiftFor new.history known);
    }
    go false h = record {
      continues = continues_same old new h.0;
      kept = λ kept. subst (λ (b : BoxParts). IsKept known b) (sym h.1) kept;
      owned = λ sound kept. All-nil (IsGiftFor new.history known);
    }

-- the last one of what a pen was given
last_push : (last : Option Given) (before : List Given) (next : Given) → last_of last (before ++ next ∷ []) ≡ Some next
last_push last [] next = refl
last_push last (other ∷ before) next = last_push (Some other) before next

gift_loaded : (before pen : Page) (next : Given) → pen ≡ given_next before next → gift_of pen ≡ record { number = before.number; given = next } ∷ []
gift_loaded before pen next is = ap gift_of is ∙ ap (λ (o : Option Given). gift_to before.number o) (last_push None before.given next)

of_number : (number : ℕ) (own : Option ℕ) → is_of number own ≡ true → own ≡ Some number
of_number number None h = absurd (false≢true h)
of_number number (Some own) h = ap (λ (n : ℕ). Some n) (eqb-true own number h)

second_holds : (a b : Bool) → a && b ≡ true → b ≡ true
second_holds true b h = h
second_holds false b h = absurd (false≢true h)

kept_told : (known : ℕ → Known) (box : BoxParts) (next : Given) → IsKept known box → IsKept known (record (told_box box (Some next)) { pen = None })
kept_told known box (given.Frame frame) kept = record { own = refl; seated = kept.seated; posted = λ number said of is. absurd (none-some said is) }
kept_told known box (given.Outcome version outcome) kept = record {
  own = refl;
  seated = λ number thread of is. kept.seated number thread of (sym (risen_thread box.seat) ∙ is);
  posted = kept.posted;
}

shows_pen : (known : ℕ → Known) (old new : KernelParts) (box left : BoxParts) (pen : Page) → Loads old new box left pen → Shows known old new box left (gift_of pen)
shows_pen known old new box left pen h = go box.pen refl h.goes_on
  where
    go : (o : Option Page) → box.pen ≡ o → GoesOn o h.next pen → Shows known old new box left (gift_of pen)
    go None is goes = absurd goes
    go (Some before) is goes = subst (λ (l : List Gift). Shows known old new box left l) (sym (gift_loaded before pen h.next goes.1)) (record {
      continues = next_first old new box.seat h.next h.first;
      kept = λ kept. subst (λ (b : BoxParts). IsKept known b) (sym h.left) (kept_told known box h.next kept);
      owned = λ sound kept.
          let own : is_own (Some before) box.place box.number ≡ true = subst (λ (o : Option Page). is_own o box.place box.number ≡ true) is kept.own in
          let number : box.number ≡ Some before.number = of_number before.number box.number (second_holds (before.place == box.place) (is_of before.number box.number) own) in
          All-cons (IsGiftFor new.history known) (record { number = before.number; given = h.next }) []
          (first_owned old new box.seat h.next box.version box.posted (known before.number).opened (known before.number).said sound
          (λ thread there. kept.seated before.number thread number there) (λ said there. kept.posted before.number said number there) h.first h.out)
          (All-nil (IsGiftFor new.history known));
    })

shows_looked : (known : ℕ → Known) (old new : KernelParts) (box left : BoxParts) (out : Option Page) → LooksInto old new box left out
    → Shows known old new box left (gift_in out)
shows_looked known old new box left None h = shows_nothing known old new box left h
shows_looked known old new box left (Some pen) h = shows_pen known old new box left pen h

-- one of the boxes
shows_one : (known : ℕ → Known) (old new : KernelParts) (boxes after : List BoxParts) (place : ℕ) (box left : BoxParts) (gave : List Gift)
    → (AreKept known boxes → IsKept known box) → Shows known old new box left gave → after ≡ slice_set boxes place left
    → Tells known old new boxes after gave
shows_one known old new boxes after place box left gave from h others = record {
  continues = h.continues;
  kept = λ kept. subst (λ (b : List BoxParts). AreKept known b) (sym others) (All-set (IsKept known) boxes place left (h.kept (from kept)) kept);
  owned = λ sound kept. h.owned sound (from kept);
}

-- a box that is there is kept as all are
pub kept_there : (known : ℕ → Known) (boxes : List BoxParts) (place : ℕ) (box : BoxParts) → slice_get boxes place ≡ Some box → AreKept known boxes → IsKept known box
kept_there known boxes place box is kept =
    subst (λ (b : BoxParts). IsKept known b) (get_or_from_slice_get boxes place box box is) (kept place box (slice_get_within boxes place box is))

pub tells_at : (known : ℕ → Known) (old new : KernelParts) (boxes after : List BoxParts) (place : ℕ) (box : BoxParts) (out : Option Page)
    → (AreKept known boxes → IsKept known box) → LooksAt old new boxes after place box out → Tells known old new boxes after (gift_in out)
tells_at known old new boxes after place box out from h =
    shows_one known old new boxes after place box h.left (gift_in out) from (shows_looked known old new box h.left out h.looks) h.others

tells_no_pen : (known : ℕ → Known) (old new : KernelParts) (boxes after : List BoxParts) (again : Option Page) → StaysAll old new boxes after → again ≡ None
    → Tells known old new boxes after (gift_in again)
tells_no_pen known old new boxes after again stays none =
    subst (λ (o : Option Page). Tells known old new boxes after (gift_in o)) (sym none) (tells_none known old new boxes after stays)

-- a pen was laid down in its box
lays_at : (known : ℕ → Known) (old new : KernelParts) (boxes after : List BoxParts) (pen : Page) (again : Option Page)
    → LaysAt old new boxes after pen (slice_get boxes pen.place) again → Tells known old new boxes after (gift_in again)
unfolding is_pen_of
lays_at known old new boxes after pen again h = go (slice_get boxes pen.place) refl h
  where
    laid : (box : BoxParts) → is_pen_of pen box ≡ true → IsKept known box → IsKept known (record box { pen = Some pen })
    laid box own kept = record { own = own; seated = kept.seated; posted = kept.posted }

    by_own : (b : Bool) (box : BoxParts) → slice_get boxes pen.place ≡ Some box → is_pen_of pen box ≡ b → LaysAt old new boxes after pen (Some box) again
        → Tells known old new boxes after (gift_in again)
    by_own true box is own h =
        tells_at known old new boxes after pen.place (record box { pen = Some pen }) again (λ kept. laid box own (kept_there known boxes pen.place box is kept)) (h.0 own)
    by_own false box is own h = let stays = h.1 own in tells_no_pen known old new boxes after again stays.0 stays.1

    go : (o : Option BoxParts) → slice_get boxes pen.place ≡ o → LaysAt old new boxes after pen o again → Tells known old new boxes after (gift_in again)
    go None is h = tells_no_pen known old new boxes after again h.0 h.1
    go (Some box) is h = by_own (is_pen_of pen box) box is refl h

looks_again : (known : ℕ → Known) (old new : KernelParts) (boxes after : List BoxParts) (pen again : Option Page) → LooksAgain old new boxes after pen again
    → Tells known old new boxes after (gift_in again)
looks_again known old new boxes after None again h = tells_no_pen known old new boxes after again h.0 h.1
looks_again known old new boxes after (Some pen) again h = lays_at known old new boxes after pen again h

pub tells_back : {C P : Type 0} (known : ℕ → Known) (old new : KernelParts) (boxes after : List BoxParts) (errands errands_now : Errands C P)
    → TakesBack old new boxes after errands errands_now → Tells known old new boxes after (gifts errands_now)
tells_back known old new boxes after errands errands_now h =
    tells_both known old h.kernel_second new boxes h.boxes_second after (gift_in errands_now.first ++ gift_in errands_now.second) (gift_in errands_now.third)
    (tells_both known old h.kernel_first h.kernel_second boxes h.boxes_first h.boxes_second (gift_in errands_now.first) (gift_in errands_now.second)
    (looks_again known old h.kernel_first boxes h.boxes_first errands.first errands_now.first h.first)
    (looks_again known h.kernel_first h.kernel_second h.boxes_first h.boxes_second errands.second errands_now.second h.second))
    (looks_again known h.kernel_second new h.boxes_second after errands.third errands_now.third h.third)

-- What a writer does

without_pen : (known : ℕ → Known) (box : BoxParts) → IsKept known box → IsKept known (record box { pen = None })
without_pen known box kept = record { own = refl; seated = kept.seated; posted = kept.posted }

-- nothing was given, and nothing was taken
shows_still : (known : ℕ → Known) (old new : KernelParts) (box left : BoxParts) → new ≡ old → (IsKept known box → IsKept known left)
    → Shows known old new box left []
shows_still known old new box left same kept = record {
  continues = continues_same old new same;
  kept = kept;
  owned = λ sound there. All-nil (IsGiftFor new.history known);
}

abbrev gifts_if : {C P : Type 0} → Bool → Option (Work C P) → List Gift
gifts_if idle (Some (work.Write pen)) = if idle then gift_of pen else []
gifts_if idle next = []

shows_begin : {C P : Type 0} (known : ℕ → Known) (old new : KernelParts) (box left : BoxParts) (next : Option (Work C P)) → Begins old new box left next
    → Shows known old new box left (gifts_if true next)
shows_begin known old new box left None h = shows_nothing known old new box left h.1
shows_begin known old new box left (Some (work.Write pen)) h = shows_pen known old new box left pen h
shows_begin known old new box left (Some work.Over) h = shows_nothing known old new box left h.1

shows_on : {C P : Type 0} (known : ℕ → Known) (old new : KernelParts) (box left : BoxParts) (next : Option (Work C P)) → new ≡ old → WritesOn box left next
    → Shows known old new box left (gifts_if false next)
shows_on known old new box left None same h = shows_still known old new box left same (λ kept. subst (λ (b : BoxParts). IsKept known b) (sym h.1) kept)
shows_on known old new box left (Some (work.Write pen)) same h =
    shows_still known old new box left same (λ kept. subst (λ (b : BoxParts). IsKept known b) (sym h.1) (without_pen known box kept))
shows_on known old new box left (Some work.Over) same h = absurd h

shows_end : {C P : Type 0} (known : ℕ → Known) (old new : KernelParts) (box left : BoxParts) (idle : Bool) (next : Option (Work C P)) → new ≡ old → EndsWork box left next
    → Shows known old new box left (gifts_if idle next)
shows_end {C} {P} known old new box left idle next same h =
    subst (λ (n : Option (Work C P)). Shows known old new box left (gifts_if idle n)) (sym h.0)
    (shows_still known old new box left same (λ kept. subst (λ (b : BoxParts). IsKept known b) (sym h.1) kept))

shows_work : {C P : Type 0} (known : ℕ → Known) (old new : KernelParts) (box left : BoxParts) (next : Option (Work C P)) → Works old new box left next
    → Shows known old new box left (gifts_if (is_idle box.pen) next)
shows_work {C} {P} known old new box left next h = by_failed (has_failed box.pen) h
  where
    by_idle : (idle : Bool) → MatchBool idle (Begins old new box left next) ((new ≡ old) × WritesOn box left next) → Shows known old new box left (gifts_if idle next)
    by_idle true h = shows_begin known old new box left next h
    by_idle false h = shows_on known old new box left next h.0 h.1

    by_failed : (b : Bool) → MatchBool b ((new ≡ old) × EndsWork box left next) (MatchBool (is_idle box.pen) (Begins old new box left next) ((new ≡ old) × WritesOn box left next))
        → Shows known old new box left (gifts_if (is_idle box.pen) next)
    by_failed true h = shows_end known old new box left (is_idle box.pen) next h.0 h.1
    by_failed false h = by_idle (is_idle box.pen) h

same_gifts : {C P : Type 0} (box : BoxParts) (next : Option (Work C P)) → gifts_if (is_idle box.pen) next ≡ work_gifts (Some box) next
same_gifts box None = refl
same_gifts box (Some (work.Write pen)) = refl
same_gifts box (Some work.Over) = refl

tells_over : {C P : Type 0} (known : ℕ → Known) (old new : KernelParts) (boxes after : List BoxParts) (there : Option BoxParts) (next : Option (Work C P))
    → StaysAll old new boxes after → next ≡ Some work.Over → Tells known old new boxes after (work_gifts there next)
tells_over {C} {P} known old new boxes after there next stays over =
    subst (λ (n : Option (Work C P)). Tells known old new boxes after (work_gifts there n)) (sym over) (none there)
  where
    none : (o : Option BoxParts) → Tells known old new boxes after (work_gifts {C = C} {P = P} o (Some work.Over))
    none None = tells_none known old new boxes after stays
    none (Some box) = tells_none known old new boxes after stays

pub tells_work : {C P : Type 0} (known : ℕ → Known) (old new : KernelParts) (boxes after : List BoxParts) (place number : ℕ) (next : Option (Work C P))
    → WorksFor old new boxes after place number (slice_get boxes place) next → Tells known old new boxes after (work_gifts (slice_get boxes place) next)
tells_work {C} {P} known old new boxes after place number next h = go (slice_get boxes place) refl h
  where
    by_number : (b : Bool) (box : BoxParts) → slice_get boxes place ≡ Some box
        → MatchBool b ((left : BoxParts) × Works old new box left next × (after ≡ slice_set boxes place left)) (StaysAll old new boxes after × (next ≡ Some work.Over))
        → Tells known old new boxes after (work_gifts (Some box) next)
    by_number true box is h =
        shows_one known old new boxes after place box h.0 (work_gifts (Some box) next) (kept_there known boxes place box is)
        (subst (λ (l : List Gift). Shows known old new box h.0 l) (same_gifts box next) (shows_work known old new box h.0 next h.1)) h.2
    by_number false box is h = tells_over known old new boxes after (Some box) next h.0 h.1

    go : (o : Option BoxParts) → slice_get boxes place ≡ o → WorksFor old new boxes after place number o next → Tells known old new boxes after (work_gifts o next)
    go None is h = tells_over known old new boxes after None next h.0 h.1
    go (Some box) is h = by_number (is_of number box.number) box is h

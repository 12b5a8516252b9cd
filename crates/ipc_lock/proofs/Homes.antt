-- A connection has its box until that is given back.
use Rattle.std.proofs.Common.{◌≡◌, ℕ, zero, suc, List, [], ◌∷◌, ◌++◌, length, Option, Some, None, Bool, true, false, MatchBool, ◌==◌, ◌&&◌, ◌||◌, if◌then◌else◌, refl, sym, ap, ◌∙◌, subst, inl, inr, eqb-true, eq-eqb, true≢false}
use Rattle.std.proofs.lemmas.List.Folds.{list_any-append}
use Rattle.std.specs.List.{list_any}
use Rattle.std.specs.Prelude.{is_some, not, slice_get, slice_set}
use Rattle.ipc_connection.specs.Pens.{Page, new_page}
use Rattle.ipc_connection.specs.declared.replying.Told.{Told}
use Rattle.ipc_connection.specs.declared.replying.Told.TheVariants as told
use Rattle.ipc_core.specs.KernelParts.{KernelParts}
use Rattle.ipc_seats.specs.Boxes.{Begins, BoxParts, EndsWork, TakeParts, Works, WritesOn, changed, changed_at, has_failed, is_full, is_idle, is_of, is_pen_of, new_box, posted_to, put_at, welcomed}
use Rattle.ipc_seats.specs.Places.{ConnectsAt, LaysAt, LoadsOne, LoadsRow, LooksAgain, LooksAt, OnlyLoads, StaysAll, TakesBack, WorksFor, gives_back, is_free_in, is_in, new_seat, places_told, shut_for, thread_for, told_in}
use Rattle.ipc_seats.specs.Gifts.{no_errands}
use Rattle.ipc_seats.specs.declared.errands.Errands.{Errands}
use Rattle.ipc_seats.specs.declared.events.Event.{Event}
use Rattle.ipc_seats.specs.declared.events.Event.TheVariants as event
use Rattle.ipc_seats.specs.declared.post_box.Work.{Work}
use Rattle.ipc_seats.specs.declared.post_box.Work.TheVariants as work
use Rattle.ipc_seats.specs.declared.upkeep.Upkeep.{Upkeep}
use Rattle.ipc_seats.proofs.Moves.{box_or, loads_stay, same_looked, same_next, same_told}
use Rattle.ipc_lock.specs.InsideParts.{InsideParts}
use Rattle.ipc_lock.specs.Logs.{LogsKeepBoxes, is_box_of, is_release}
use Rattle.ipc_lock.specs.Telling.{BreaksFor}
use Rattle.ipc_lock.specs.Turns.{Goes, Starts, Turn}

-- who has a box has it still
abbrev Keeps : ℕ → List BoxParts → List BoxParts → Type 0
Keeps n boxes after = (place : ℕ) → is_in n (slice_get boxes place) ≡ true → is_in n (slice_get after place) ≡ true

keeps_same : (n : ℕ) (boxes after : List BoxParts) → after ≡ boxes → Keeps n boxes after
keeps_same n boxes after same place is = ap (λ (l : List BoxParts). is_in n (slice_get l place)) same ∙ is

keeps_both : (n : ℕ) (boxes between after : List BoxParts) → Keeps n boxes between → Keeps n between after → Keeps n boxes after
keeps_both n boxes between after h k place is = k place (h place is)

-- the box of a place changed, and is still that of its connection
keeps_set : (n : ℕ) (boxes : List BoxParts) (place : ℕ) (box left : BoxParts) → slice_get boxes place ≡ Some box
    → (is_of n box.number ≡ true → is_of n left.number ≡ true) → Keeps n boxes (slice_set boxes place left)
keeps_set n [] place box left there same at is = is
keeps_set n (b ∷ boxes) zero box left there same zero is = same (ap (λ (o : Option BoxParts). is_of n (box_or b o).number) (sym there) ∙ is)
keeps_set n (b ∷ boxes) zero box left there same (suc at) is = is
keeps_set n (b ∷ boxes) (suc place) box left there same zero is = is
keeps_set n (b ∷ boxes) (suc place) box left there same (suc at) is = keeps_set n boxes place box left there same at is

keeps_loads : (n : ℕ) (boxes after : List BoxParts) → OnlyLoads boxes after → Keeps n boxes after
keeps_loads n [] [] h place is = is
keeps_loads n [] (left ∷ after) h place is = absurd h
keeps_loads n (box ∷ boxes) [] h place is = absurd h
keeps_loads n (box ∷ boxes) (left ∷ after) h zero is = ap (is_of n) h.0.number ∙ is
keeps_loads n (box ∷ boxes) (left ∷ after) h (suc place) is = keeps_loads n boxes after h.1 place is

keeps_changed : (n : ℕ) (change : BoxParts → BoxParts) (boxes : List BoxParts) (place : ℕ)
    → ((box : BoxParts) → is_of n box.number ≡ true → is_of n (change box).number ≡ true) → Keeps n boxes (changed_at change boxes place)
keeps_changed n change boxes place same = go (slice_get boxes place) refl
  where
    go : (o : Option BoxParts) → slice_get boxes place ≡ o → Keeps n boxes (put_at boxes place (changed change o))
    go None is = keeps_same n boxes boxes refl
    go (Some box) is = keeps_set n boxes place box (change box) is (same box)

keeps_if : (n : ℕ) (b : Bool) (one other : BoxParts) → is_of n one.number ≡ true → is_of n other.number ≡ true → is_of n (if b then one else other).number ≡ true
keeps_if n true one other h k = h
keeps_if n false one other h k = k

-- a further box
keeps_push : (n : ℕ) (boxes : List BoxParts) (box : BoxParts) → Keeps n boxes (boxes ++ box ∷ [])
keeps_push n [] box zero is = absurd (true≢false (sym is))
keeps_push n [] box (suc place) is = absurd (true≢false (sym is))
keeps_push n (b ∷ boxes) box zero is = is
keeps_push n (b ∷ boxes) box (suc place) is = keeps_push n boxes box place is

here_push : (boxes : List BoxParts) (box : BoxParts) → slice_get (boxes ++ box ∷ []) (length boxes) ≡ Some box
here_push [] box = refl
here_push (b ∷ boxes) box = here_push boxes box

here_set : (boxes : List BoxParts) (place : ℕ) (box left : BoxParts) → slice_get boxes place ≡ Some box → slice_get (slice_set boxes place left) place ≡ Some left
here_set [] zero box left there = absurd (cc (there))
here_set [] (suc place) box left there = absurd (cc (there))
here_set (b ∷ boxes) zero box left there = refl
here_set (b ∷ boxes) (suc place) box left there = here_set boxes place box left there

-- the box of a new connection was nobody's
not_free : (n : ℕ) (number : Option ℕ) → is_of n number ≡ true → not (is_some number) ≡ true → ⊥
not_free n None is free = true≢false (sym is)
not_free n (Some own) is free = true≢false (sym free)

keeps_connects : (n : ℕ) (free free_now : List ℕ) (boxes after : List BoxParts) (place : ℕ) (box : BoxParts) → ConnectsAt free free_now boxes after place box → Keeps n boxes after
keeps_connects n free free_now boxes after place box (inl h) = keeps_both n boxes (slice_set boxes place box) after (go (slice_get boxes place) refl h.1) (keeps_same n (slice_set boxes place box) after h.2)
  where
    go : (o : Option BoxParts) → slice_get boxes place ≡ o → is_free_in o ≡ true → Keeps n boxes (slice_set boxes place box)
    go None is free = absurd (true≢false (sym free))
    go (Some old) is free = keeps_set n boxes place old box is (λ its. absurd (not_free n old.number its free))
keeps_connects n free free_now boxes after place box (inr h) = keeps_both n boxes (boxes ++ box ∷ []) after (keeps_push n boxes box) (keeps_same n (boxes ++ box ∷ []) after h.1)

gets_box : (free free_now : List ℕ) (boxes after : List BoxParts) (place : ℕ) (box : BoxParts) → ConnectsAt free free_now boxes after place box → slice_get after place ≡ Some box
gets_box free free_now boxes after place box (inl h) = ap (λ (l : List BoxParts). slice_get l place) h.2 ∙ go (slice_get boxes place) refl h.1
  where
    go : (o : Option BoxParts) → slice_get boxes place ≡ o → is_free_in o ≡ true → slice_get (slice_set boxes place box) place ≡ Some box
    go None is free = absurd (true≢false (sym free))
    go (Some old) is free = here_set boxes place old box is
gets_box free free_now boxes after place box (inr h) =
    ap (λ (l : List BoxParts). slice_get l place) h.1 ∙ (ap (slice_get (boxes ++ box ∷ [])) h.0 ∙ here_push boxes box)

-- boxes were looked into
keeps_one : {C P : Type 0} (n : ℕ) (place : Option ℕ) (old new : KernelParts) (boxes after : List BoxParts) (errands errands_now : Errands C P)
    → LoadsOne place old new boxes after errands errands_now → Keeps n boxes after
keeps_one n None old new boxes after errands errands_now h = keeps_same n boxes after h.0.no_change
keeps_one n (Some place) old new boxes after errands errands_now h = keeps_loads n boxes after (loads_stay old new boxes after place errands errands_now h)

keeps_row : {C P : Type 0} (n : ℕ) (places : List (Option ℕ)) (old new : KernelParts) (boxes after : List BoxParts) (errands errands_now : Errands C P)
    → LoadsRow places old new boxes after errands errands_now → Keeps n boxes after
keeps_row n [] old new boxes after errands errands_now h = keeps_same n boxes after h.0.no_change
keeps_row n (place ∷ places) old new boxes after errands errands_now h =
    keeps_both n boxes h.1 after (keeps_one n place old h.0 boxes h.1 errands h.2 h.3) (keeps_row n places h.0 new h.1 after h.2 errands_now h.4)

-- what the kernel accepted was told in a box
keeps_posted : (n : ℕ) (said : Told) (boxes : List BoxParts) (place : ℕ) → Keeps n boxes (changed_at (posted_to said) boxes place)
keeps_posted n said boxes place = keeps_changed n (posted_to said) boxes place (λ box is. keeps_if n (is_full box) box (record box { posted = Some said }) is is)

keeps_told : (n : ℕ) (said : Told) (seat : Option TakeParts) (boxes : List BoxParts) (place : ℕ) → Keeps n boxes (told_in said seat boxes place)
keeps_told n (told.Opened thread version) (Some seat) boxes place = keeps_changed n (welcomed seat version) boxes place (λ box is. is)
keeps_told n (told.Opened thread version) None boxes place = keeps_same n boxes boxes refl
keeps_told n (told.Exchanged result stopped code moment) seat boxes place = keeps_posted n (told.Exchanged result stopped code moment) boxes place
keeps_told n told.Entered seat boxes place = keeps_same n boxes boxes refl
keeps_told n (told.Refused refusal) seat boxes place = keeps_same n boxes boxes refl
keeps_told n (told.Faulted class code) seat boxes place = keeps_same n boxes boxes refl
keeps_told n told.Left seat boxes place = keeps_same n boxes boxes refl

keeps_shut : (n number : ℕ) (boxes : List BoxParts) (place : ℕ) → Keeps n boxes (changed_at (shut_for number) boxes place)
keeps_shut n number boxes place =
    keeps_changed n (shut_for number) boxes place (λ box is. keeps_if n (is_of number box.number) (record box { shut = true }) box is is)

keeps_breaks : (C P : Type 0) (n : ℕ) (upkeep upkeep_now : Upkeep) (old new : KernelParts) (now : ℕ) (thread : Option ℕ) (owners : List (Option ℕ)) (boxes after : List BoxParts)
    (errands errands_now : Errands C P) → BreaksFor C upkeep upkeep_now old new now thread owners boxes after errands errands_now → Keeps n boxes after
keeps_breaks C P n upkeep upkeep_now old new now None owners boxes after errands errands_now h = keeps_same n boxes after h.2
keeps_breaks C P n upkeep upkeep_now old new now (Some thread) owners boxes after errands errands_now h = keeps_row {C = C} {P = P} n (places_told None owners h.acts.finished) h.acts.stepped new boxes after errands errands_now h.acts.tells

-- pens were laid down
keeps_looks : (n : ℕ) (old new : KernelParts) (boxes after : List BoxParts) (place : ℕ) (there box : BoxParts) (out : Option Page) → slice_get boxes place ≡ Some there
    → box.number ≡ there.number → LooksAt old new boxes after place box out → Keeps n boxes after
keeps_looks n old new boxes after place there box out is same h =
    keeps_both n boxes (slice_set boxes place h.left) after
    (keeps_set n boxes place there h.left is (λ its. ap (is_of n) ((same_looked old new box h.left out h.looks).number ∙ same) ∙ its))
    (keeps_same n (slice_set boxes place h.left) after h.others)

keeps_lays : (n : ℕ) (old new : KernelParts) (boxes after : List BoxParts) (pen : Page) (again : Option Page) → LaysAt old new boxes after pen (slice_get boxes pen.place) again
    → Keeps n boxes after
keeps_lays n old new boxes after pen again h = go (slice_get boxes pen.place) refl h
  where
    by_own : (b : Bool) (box : BoxParts) → slice_get boxes pen.place ≡ Some box → is_pen_of pen box ≡ b → LaysAt old new boxes after pen (Some box) again → Keeps n boxes after
    by_own true box is own h = keeps_looks n old new boxes after pen.place box (record box { pen = Some pen }) again is refl (h.0 own)
    by_own false box is own h = keeps_same n boxes after (h.1 own).0.no_change

    go : (o : Option BoxParts) → slice_get boxes pen.place ≡ o → LaysAt old new boxes after pen o again → Keeps n boxes after
    go None is h = keeps_same n boxes after h.0.no_change
    go (Some box) is h = by_own (is_pen_of pen box) box is refl h

keeps_again : (n : ℕ) (old new : KernelParts) (boxes after : List BoxParts) (pen again : Option Page) → LooksAgain old new boxes after pen again → Keeps n boxes after
keeps_again n old new boxes after None again h = keeps_same n boxes after h.0.no_change
keeps_again n old new boxes after (Some pen) again h = keeps_lays n old new boxes after pen again h

keeps_back : {C P : Type 0} (n : ℕ) (old new : KernelParts) (boxes after : List BoxParts) (errands errands_now : Errands C P) → TakesBack old new boxes after errands errands_now
    → Keeps n boxes after
keeps_back n old new boxes after errands errands_now h =
    keeps_both n boxes h.boxes_first after (keeps_again n old h.kernel_first boxes h.boxes_first errands.first errands_now.first h.first)
    (keeps_both n h.boxes_first h.boxes_second after
    (keeps_again n h.kernel_first h.kernel_second h.boxes_first h.boxes_second errands.second errands_now.second h.second)
    (keeps_again n h.kernel_second new h.boxes_second after errands.third errands_now.third h.third))

-- a writer worked
same_begun : {C P : Type 0} (old new : KernelParts) (box left : BoxParts) (next : Option (Work C P)) → Begins old new box left next → left.number ≡ box.number
same_begun old new box left None h = (same_told old new box left h.1).number
same_begun old new box left (Some (work.Write pen)) h = (same_next box left h.next h.left).number
same_begun old new box left (Some work.Over) h = (same_told old new box left h.1).number

same_on : {C P : Type 0} (box left : BoxParts) (next : Option (Work C P)) → WritesOn box left next → left.number ≡ box.number
same_on box left None h = ap (λ (b : BoxParts). b.number) h.1
same_on box left (Some (work.Write pen)) h = ap (λ (b : BoxParts). b.number) h.1
same_on box left (Some work.Over) h = absurd h

same_work : {C P : Type 0} (old new : KernelParts) (box left : BoxParts) (next : Option (Work C P)) → Works old new box left next → left.number ≡ box.number
same_work {C} {P} old new box left next h = by_failed (has_failed box.pen) h
  where
    by_idle : (b : Bool) → MatchBool b (Begins old new box left next) ((new ≡ old) × WritesOn box left next) → left.number ≡ box.number
    by_idle true h = same_begun old new box left next h
    by_idle false h = same_on box left next h.1

    by_failed : (b : Bool) → MatchBool b ((new ≡ old) × EndsWork box left next) (MatchBool (is_idle box.pen) (Begins old new box left next) ((new ≡ old) × WritesOn box left next))
        → left.number ≡ box.number
    by_failed true h = ap (λ (b : BoxParts). b.number) h.1.1
    by_failed false h = by_idle (is_idle box.pen) h

keeps_works : {C P : Type 0} (n : ℕ) (old new : KernelParts) (boxes after : List BoxParts) (place number : ℕ) (next : Option (Work C P))
    → WorksFor old new boxes after place number (slice_get boxes place) next → Keeps n boxes after
keeps_works {C} {P} n old new boxes after place number next h = go (slice_get boxes place) refl h
  where
    by_number : (b : Bool) (box : BoxParts) → slice_get boxes place ≡ Some box
        → MatchBool b ((left : BoxParts) × Works old new box left next × (after ≡ slice_set boxes place left)) (StaysAll old new boxes after × (next ≡ Some work.Over))
        → Keeps n boxes after
    by_number true box is h =
        keeps_both n boxes (slice_set boxes place h.0) after (keeps_set n boxes place box h.0 is (λ its. ap (is_of n) (same_work old new box h.0 next h.1) ∙ its))
        (keeps_same n (slice_set boxes place h.0) after h.2)
    by_number false box is h = keeps_same n boxes after h.0.no_change

    go : (o : Option BoxParts) → slice_get boxes place ≡ o → WorksFor old new boxes after place number o next → Keeps n boxes after
    go None is h = keeps_same n boxes after h.0.no_change
    go (Some box) is h = by_number (is_of number box.number) box is h

-- the box of another connection was given back
keeps_given : (n own : ℕ) (boxes : List BoxParts) (place : ℕ) → (own == n) ≡ false → Keeps n boxes (changed_at (gives_back own) boxes place)
keeps_given n own boxes place other = keeps_changed n (gives_back own) boxes place (λ box is. go box.number box is)
  where
    two : (k : ℕ) → (k == n) ≡ true → (k == own) ≡ true → ⊥
    two k is its = true≢false (sym (eq-eqb own n (sym (eqb-true k own its) ∙ eqb-true k n is)) ∙ other)

    by : (b : Bool) (number : Option ℕ) (box : BoxParts) → is_of own number ≡ b → is_of n number ≡ true → is_of n box.number ≡ true
        → is_of n (if b then record box { number = None; posted = None; shut = true; seat = None; pen = None } else box).number ≡ true
    by true None box its is same = absurd (true≢false (sym its))
    by true (Some k) box its is same = absurd (two k is its)
    by false number box its is same = same

    go : (number : Option ℕ) (box : BoxParts) → is_of n box.number ≡ true → is_of n (gives_back own box).number ≡ true
    go number box is = by (is_of own box.number) box.number box refl is is

-- each event but that one
keeps_turn : (C P : Type 0) (n : ℕ) (before after : InsideParts) (next : Event) → Turn C P before next after → is_release n next ≡ false → Keeps n before.boxes after.boxes
keeps_turn C P n before after (event.Connected place number) h is = keeps_connects n h.free h.free_now before.boxes after.boxes place _ h.connects
keeps_turn C P n before after (event.Declined number) h is = keeps_same n before.boxes after.boxes h.boxes
keeps_turn C P n before after (event.Acted now commands answers gave) h is =
    keeps_row {C = C} {P = P} n (places_told None before.owners h.acts.finished) h.acts.stepped after.kernel before.boxes after.boxes no_errands h.errands h.acts.tells
keeps_turn C P n before after (event.Asked now place owns requests space said gave) h is =
    keeps_both n before.boxes (told_in said (new_seat said) before.boxes place) after.boxes (keeps_told n said (new_seat said) before.boxes place)
    (keeps_loads n (told_in said (new_seat said) before.boxes place) after.boxes h.asks.stay)
keeps_turn C P n before after (event.Ended now place number is_by_reader gave) h is =
    keeps_both n before.boxes (changed_at (shut_for number) before.boxes place) after.boxes (keeps_shut n number before.boxes place)
    (keeps_breaks C P n before.upkeep after.upkeep before.kernel after.kernel now (thread_for number (slice_get before.boxes place)) before.owners
    (changed_at (shut_for number) before.boxes place) after.boxes no_errands h.errands h.breaks)
keeps_turn C P n before after (event.Posted place owns said) h is =
    keeps_both n before.boxes (changed_at (posted_to said) before.boxes place) after.boxes (keeps_posted n said before.boxes place) (keeps_same n _ after.boxes h.boxes)
keeps_turn C P n before after (event.Looked place gave) h is =
    keeps_loads n before.boxes after.boxes (loads_stay {C = C} {P = P} before.kernel after.kernel before.boxes after.boxes place no_errands h.errands h.loads)
keeps_turn C P n before after (event.Laid gave) h is = keeps_back {C = C} {P = P} n before.kernel after.kernel before.boxes after.boxes h.errands h.errands_now h.takes
keeps_turn C P n before after (event.Worked place number gave) h is = keeps_works {C = C} {P = P} n before.kernel after.kernel before.boxes after.boxes place number h.next h.works
keeps_turn C P n before after (event.Released place own) h is =
    keeps_both n before.boxes (changed_at (gives_back own) before.boxes place) after.boxes (keeps_given n own before.boxes place is) (keeps_same n _ after.boxes h.boxes)
keeps_turn C P n before after (event.Took thread taken outcomes) h is = keeps_same n before.boxes after.boxes h.boxes
keeps_turn C P n before after (event.Marked upto) h is = keeps_same n before.boxes after.boxes h.boxes
keeps_turn C P n before after event.Parted (inl h) is = keeps_same n before.boxes after.boxes h.boxes
keeps_turn C P n before after event.Parted (inr same) is = keeps_same n before.boxes after.boxes (ap (λ (i : InsideParts). i.boxes) same)

-- the event by which a connection got its box
got_box : (C P : Type 0) (n place : ℕ) (before after : InsideParts) (next : Event) → Turn C P before next after → is_box_of n place next ≡ true
    → is_in n (slice_get after.boxes place) ≡ true
got_box C P n place before after (event.Connected at own) h is = go (at == place) (own == n) refl refl is
  where
    go : (a b : Bool) → (at == place) ≡ a → (own == n) ≡ b → a && b ≡ true → is_in n (slice_get after.boxes place) ≡ true
    go false b e f both = absurd (true≢false (sym both))
    go true false e f both = absurd (true≢false (sym both))
    go true true e f both =
        subst (λ (p : ℕ). is_in n (slice_get after.boxes p) ≡ true) (eqb-true at place e)
        (ap (is_in n) (gets_box h.free h.free_now before.boxes after.boxes at (new_box at own (new_page at own h.out h.failures)) h.connects) ∙ f)
got_box C P n place before after (event.Declined number) h is = absurd (true≢false (sym is))
got_box C P n place before after (event.Acted now commands answers gave) h is = absurd (true≢false (sym is))
got_box C P n place before after (event.Asked now at owns requests space said gave) h is = absurd (true≢false (sym is))
got_box C P n place before after (event.Ended now at number is_by_reader gave) h is = absurd (true≢false (sym is))
got_box C P n place before after (event.Posted at owns said) h is = absurd (true≢false (sym is))
got_box C P n place before after (event.Looked at gave) h is = absurd (true≢false (sym is))
got_box C P n place before after (event.Laid gave) h is = absurd (true≢false (sym is))
got_box C P n place before after (event.Worked at number gave) h is = absurd (true≢false (sym is))
got_box C P n place before after (event.Released at own) h is = absurd (true≢false (sym is))
got_box C P n place before after (event.Took thread taken outcomes) h is = absurd (true≢false (sym is))
got_box C P n place before after (event.Marked upto) h is = absurd (true≢false (sym is))
got_box C P n place before after event.Parted h is = absurd (true≢false (sym is))

pub first_false : (a b : Bool) → a || b ≡ false → a ≡ false
first_false true b is = absurd (true≢false is)
first_false false b is = refl

pub second_false : (a b : Bool) → a || b ≡ false → b ≡ false
second_false true b is = absurd (true≢false is)
second_false false b is = is

none_more : (b : Bool) → b || false ≡ b
none_more true = refl
none_more false = refl

-- of a log with one event more
one_more : (test : Event → Bool) (log : List Event) (next : Event) → list_any test (log ++ next ∷ []) ≡ list_any test log || test next
one_more test log next = list_any-append test log (next ∷ []) ∙ ap (λ (b : Bool). list_any test log || b) (none_more (test next))

pub logs_keep_boxes : (C P : Type 0) → LogsKeepBoxes C P
logs_keep_boxes C P _ _ (Starts entries calls e f) number place got left = absurd (true≢false (sym got))
logs_keep_boxes C P _ _ (Goes before_log next before after runs turn) number place got left =
    let leaves : list_any (is_release number) before_log || is_release number next ≡ false = sym (one_more (is_release number) before_log next) ∙ left in
    go (list_any (is_box_of number place) before_log) refl
    (λ had. keeps_turn C P number before after next turn (second_false (list_any (is_release number) before_log) (is_release number next) leaves) place
    (logs_keep_boxes C P before_log before runs number place had (first_false (list_any (is_release number) before_log) (is_release number next) leaves)))
    (sym (one_more (is_box_of number place) before_log next) ∙ got)
  where
    go : (b : Bool) → list_any (is_box_of number place) before_log ≡ b
        → (list_any (is_box_of number place) before_log ≡ true → is_in number (slice_get after.boxes place) ≡ true)
        → list_any (is_box_of number place) before_log || is_box_of number place next ≡ true → is_in number (slice_get after.boxes place) ≡ true
    go true is had both = had is
    go false is had both =
        got_box C P number place before after next turn (ap (λ (b : Bool). b || is_box_of number place next) (sym is) ∙ both)

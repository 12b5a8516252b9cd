-- What each event does: the kernel goes on, and what connections are given is of calls of behind
-- that they opened.
use Rattle.std.proofs.Common.{◌≡◌, ℕ, List, [], ◌∷◌, ◌++◌, append-nil, Option, Some, None, map, inl, inr, refl, sym, ap, ap₂, ◌∙◌, subst}
use Rattle.std.proofs.lemmas.List.Elements.{All-nil, All-push, All-set}
use Rattle.std.specs.Prelude.{All, slice_get, slice_set}
use Rattle.ipc_connection.specs.Asking.{command_of, version_asked}
use Rattle.ipc_connection.specs.Replying.{told_of}
use Rattle.ipc_connection.specs.declared.asking.Request.{Request}
use Rattle.ipc_connection.specs.declared.asking.Request.TheVariants as request
use Rattle.ipc_connection.specs.declared.replying.Told.{Told}
use Rattle.ipc_core.specs.KernelParts.{KernelParts}
use Rattle.ipc_core.specs.Laws.{IsSound}
use Rattle.ipc_core.specs.declared.command.Answer.{Answer}
use Rattle.ipc_core.specs.declared.command.Answer.TheVariants as answer
use Rattle.ipc_core.specs.declared.command.Command.{Command}
use Rattle.ipc_core.specs.declared.command.Command.TheVariants.{Broke}
use Rattle.ipc_frame.specs.declared.version.WireVersion.{WireVersion}
use Rattle.ipc_frame.specs.declared.version.WireVersion.TheVariants.{One}
use Rattle.ipc_history.specs.Outcomes.{OutcomeParts}
use Rattle.ipc_connection.specs.Pens.{new_page}
use Rattle.ipc_seats.specs.Boxes.{BoxParts, changed_at, new_box, posted_to}
use Rattle.ipc_seats.specs.Gifts.{gifts, no_errands, work_gifts}
use Rattle.ipc_seats.specs.Making.{Accepted, asked_for, asked_of, made_by, made_for, made_of}
use Rattle.ipc_seats.specs.Places.{ConnectsAt, gives_back, new_seat, owned_by, places_told, shut_for, thread_for, told_in}
use Rattle.ipc_seats.specs.declared.errands.Errands.{Errands}
use Rattle.ipc_seats.specs.declared.events.Event.{Event}
use Rattle.ipc_seats.specs.declared.events.Event.TheVariants as event
use Rattle.ipc_seats.specs.declared.events.Gift.{Gift}
use Rattle.ipc_seats.specs.declared.seated.seats.CallSeat.{CallSeat}
use Rattle.ipc_seats.specs.declared.upkeep.Upkeep.{Upkeep}
use Rattle.ipc_seats.proofs.Continuing.{Continues, Fits, continues_acts, continues_all, continues_both, continues_gives, continues_nothing, continues_same, step_fits}
use Rattle.ipc_seats.proofs.Ordering.{AreInOrder}
use Rattle.ipc_lock.specs.InsideParts.{InsideParts}
use Rattle.ipc_lock.specs.Logs.{calls_by, calls_of, gifts_by, opened_by, said_by}
use Rattle.ipc_lock.specs.Telling.{ActsAndTells, BreaksFor}
use Rattle.ipc_lock.specs.Turns.{Acted, AskedFor, Connected, Ended, Laid, Looked, Marked, Posted, TakesFor, Took, Turn, Worked}
use Rattle.ipc_lock.proofs.Loading.{loads_at, loads_row}
use Rattle.ipc_lock.proofs.Looking.{AreKept, IsGiftFor, IsKept, Known, Tells, tells_back, tells_work}
use Rattle.ipc_lock.proofs.Keeping.{all_cleared, all_posted, all_shut, kept_new, kept_told_in, same_boxes, with_request, with_said}

-- by an event this was made, these outcomes were taken, and this was given, where this was known of
-- connections before it, and this behind it
pub record Effect (known now : ℕ → Known) (before after : InsideParts) (calls : List ℕ) (gave : List Gift) (made : List Accepted) : Type 0 where
  pub continues : Continues before.kernel after.kernel calls made
  pub kept : AreKept known before.boxes → AreKept now after.boxes
  pub owned : IsSound before.kernel → AreKept known before.boxes → All (IsGiftFor after.kernel.history now) gave

-- what is known of connections behind an event
abbrev pub known_now : (ℕ → Known) → Event → ℕ → Known
known_now known next number = record { opened = (known number).opened ++ opened_by number next; said = (known number).said ++ said_by number next }

abbrev with_none : (ℕ → Known) → ℕ → Known
with_none known number = record { opened = (known number).opened ++ []; said = (known number).said ++ [] }

none_known : (known : ℕ → Known) → with_none known ≡ known
none_known known = λ i number. record { opened = append-nil (known number).opened i; said = append-nil (known number).said i }

-- where no connection was told anything
as_before : (known : ℕ → Known) (before after : InsideParts) (calls : List ℕ) (gave : List Gift) (made : List Accepted) → Effect known known before after calls gave made
    → Effect known (with_none known) before after calls gave made
as_before known before after calls gave made h = subst (λ (now : ℕ → Known). Effect known now before after calls gave made) (sym (none_known known)) h

effect_still : (known : ℕ → Known) (before after : InsideParts) (calls : List ℕ) → Continues before.kernel after.kernel calls []
    → (AreKept known before.boxes → AreKept known after.boxes) → Effect known known before after calls [] []
effect_still known before after calls continues kept = record {
  continues = continues;
  kept = kept;
  owned = λ sound there. All-nil (IsGiftFor after.kernel.history known);
}

-- What each event does

connected : (known : ℕ → Known) (before after : InsideParts) (place number : ℕ) → Connected before after place number → Effect known known before after [] [] []
connected known before after place number h = effect_still known before after [] (continues_same before.kernel after.kernel h.kernel) (λ kept. go kept h.connects)
  where
    box : BoxParts
    box = new_box place number (new_page place number h.out h.failures)

    new : IsKept known box
    new = kept_new known place number h.out h.failures

    go : AreKept known before.boxes → ConnectsAt h.free h.free_now before.boxes after.boxes place box → AreKept known after.boxes
    go kept (inl again) = same_boxes known (slice_set before.boxes place box) after.boxes again.2 (All-set (IsKept known) before.boxes place box new kept)
    go kept (inr further) = same_boxes known (before.boxes ++ box ∷ []) after.boxes further.1 (All-push (IsKept known) before.boxes box kept new)

-- something was made, and told in boxes
record Makes (known : ℕ → Known) (old new : KernelParts) (boxes after : List BoxParts) (gave : List Gift) (made : List Accepted) : Type 0 where
  continues : Continues old new (calls_of gave) made
  kept : AreKept known boxes → AreKept known after
  owned : IsSound old → AreKept known boxes → All (IsGiftFor new.history known) gave

-- nothing was made, or first a step
only_tells : (known : ℕ → Known) (old new : KernelParts) (boxes after : List BoxParts) (gave : List Gift) → Tells known old new boxes after gave
    → Makes known old new boxes after gave []
only_tells known old new boxes after gave h = record { continues = h.continues; kept = h.kept; owned = h.owned }

step_tells : (known : ℕ → Known) (old stepped new : KernelParts) (boxes after : List BoxParts) (gave : List Gift) (made : List Accepted)
    → Continues old stepped [] made → Tells known stepped new boxes after gave → Makes known old new boxes after gave made
step_tells known old stepped new boxes after gave made step h = record {
  continues = subst (λ (l : List Accepted). Continues old new (calls_of gave) l) (append-nil made) (continues_both old stepped new [] (calls_of gave) made [] step h.continues);
  kept = h.kept;
  owned = λ sound kept. h.owned (step.sound sound) kept;
}

-- the same, of boxes that were changed first
effect_tells : (known now : ℕ → Known) (before after : InsideParts) (boxes : List BoxParts) (gave : List Gift) (made : List Accepted)
    → (AreKept known before.boxes → AreKept now boxes) → Makes now before.kernel after.kernel boxes after.boxes gave made
    → Effect known now before after (calls_of gave) gave made
effect_tells known now before after boxes gave made first h = record {
  continues = h.continues;
  kept = λ kept. h.kept (first kept);
  owned = λ sound kept. h.owned sound (first kept);
}

acts_tells : {C P : Type 0} (known : ℕ → Known) (upkeep after_upkeep : Upkeep) (old new : KernelParts) (now : ℕ) (seat : Option (CallSeat C)) (command : Command)
    (answer : Answer) (owners : List (Option ℕ)) (boxes boxes_now : List BoxParts) (errands : Errands C P)
    → ActsAndTells upkeep after_upkeep old new now seat command answer owners boxes boxes_now no_errands errands
    → Makes known old new boxes boxes_now (gifts errands) (made_of command answer)
acts_tells known upkeep after_upkeep old new now seat command answer owners boxes boxes_now errands h =
    let loaded = loads_row known (places_told None owners h.finished) h.stepped new boxes boxes_now no_errands errands tt h.tells in
    subst (λ (l : List Gift). Makes known old new boxes boxes_now l (made_of command answer)) (sym loaded.gifts_are)
    (step_tells known old h.stepped new boxes boxes_now loaded.gave (made_of command answer) (continues_acts upkeep after_upkeep old h.stepped now seat command answer h.acts) loaded.tells)

acted : {C P : Type 0} (known : ℕ → Known) (before after : InsideParts) (now : ℕ) (commands : List Command) (answers : List Answer) (gave : List Gift)
    → Acted C P before after now commands answers gave → Effect known known before after (calls_of gave) gave (made_for commands answers)
acted known before after now commands answers gave h =
    effect_tells known known before after before.boxes gave (made_for commands answers) (λ kept. kept)
    (subst (λ (l : List Accepted). Makes known before.kernel after.kernel before.boxes after.boxes gave l) (sym (ap₂ (λ (c : List Command) (a : List Answer). made_for c a) h.is_it h.is_answered))
    (subst (λ (l : List Gift). Makes known before.kernel after.kernel before.boxes after.boxes l (made_of h.command h.answer)) (sym h.gifts_are)
    (acts_tells known before.upkeep after.upkeep before.kernel after.kernel now h.seat h.command h.answer before.owners before.boxes after.boxes h.errands h.acts)))

ended : {C P : Type 0} (known : ℕ → Known) (before after : InsideParts) (now place number : ℕ) (gave : List Gift)
    → Ended C P before after now place number gave → Effect known known before after (calls_of gave) gave []
ended {C} {P} known before after now place number gave h =
    effect_tells known known before after shut gave [] (all_shut known number before.boxes place)
    (subst (λ (l : List Gift). Makes known before.kernel after.kernel shut after.boxes l []) (sym h.gifts_are)
    (go (thread_for number (slice_get before.boxes place)) h.breaks))
  where
    shut : List BoxParts
    shut = changed_at (shut_for number) before.boxes place

    go : (thread : Option ℕ) → BreaksFor C before.upkeep after.upkeep before.kernel after.kernel now thread before.owners shut after.boxes no_errands h.errands
        → Makes known before.kernel after.kernel shut after.boxes (gifts h.errands) []
    go None breaks = subst (λ (e : Errands C P). Makes known before.kernel after.kernel shut after.boxes (gifts e) []) (sym breaks.3) (record {
      continues = continues_same before.kernel after.kernel breaks.0;
      kept = same_boxes known shut after.boxes breaks.2;
      owned = λ sound kept. All-nil (IsGiftFor after.kernel.history known);
    })
    go (Some thread) breaks =
        acts_tells known before.upkeep after.upkeep before.kernel after.kernel now None (Broke thread) breaks.answer before.owners shut after.boxes h.errands breaks.acts

posted : (known : ℕ → Known) (before after : InsideParts) (place : ℕ) (owns : List ℕ) (said : Told) → Posted before after place owns said
    → Effect known (with_said known (λ (number : ℕ). []) owns said) before after [] [] []
posted known before after place owns said h = record {
  continues = continues_same before.kernel after.kernel h.kernel;
  kept = λ kept. same_boxes (with_said known (λ (number : ℕ). []) owns said) (changed_at (posted_to said) before.boxes place) after.boxes h.boxes
      (all_posted known (λ (number : ℕ). []) owns said before.boxes place h.is_its kept);
  owned = λ sound there. All-nil (IsGiftFor after.kernel.history (with_said known (λ (number : ℕ). []) owns said));
}

-- A request

-- what a connection is told of its request is what the step made
asked_made : (request : Request) (space : ℕ) (version : WireVersion) (moment : ℕ) (said : Answer) → Fits (command_of request space) said
    → asked_of request space (told_of version moment said) ≡ made_of (command_of request space) said
asked_made (request.Open number named) space version moment (answer.Opened thread) fits = refl
asked_made (request.Open number named) space version moment (answer.Entered entered) fits = refl
asked_made (request.Open number named) space version moment (answer.Exchanged exchanged) fits = refl
asked_made (request.Open number named) space version moment answer.Done fits = refl
asked_made (request.Open number named) space version moment (answer.Advanced advance) fits = refl
asked_made (request.Open number named) space version moment (answer.Taken outcome) fits = refl
asked_made (request.Open number named) space version moment (answer.Refused refusal) fits = refl
asked_made (request.Enter thread call) space version moment (answer.Opened opened) fits = refl
asked_made (request.Enter thread call) space version moment (answer.Entered entered) fits = refl
asked_made (request.Enter thread call) space version moment (answer.Exchanged exchanged) fits = refl
asked_made (request.Enter thread call) space version moment answer.Done fits = absurd fits
asked_made (request.Enter thread call) space version moment (answer.Advanced advance) fits = absurd fits
asked_made (request.Enter thread call) space version moment (answer.Taken outcome) fits = absurd fits
asked_made (request.Enter thread call) space version moment (answer.Refused refusal) fits = refl
asked_made (request.Exreg thread target control) space version moment (answer.Opened opened) fits = refl
asked_made (request.Exreg thread target control) space version moment (answer.Entered entered) fits = refl
asked_made (request.Exreg thread target control) space version moment (answer.Exchanged exchanged) fits = refl
asked_made (request.Exreg thread target control) space version moment answer.Done fits = refl
asked_made (request.Exreg thread target control) space version moment (answer.Advanced advance) fits = refl
asked_made (request.Exreg thread target control) space version moment (answer.Taken outcome) fits = refl
asked_made (request.Exreg thread target control) space version moment (answer.Refused refusal) fits = refl

asked : {C P : Type 0} (known : ℕ → Known) (before after : InsideParts) (now place : ℕ) (owns : List ℕ) (requests : List Request) (space : ℕ) (said : Told) (gave : List Gift)
    → AskedFor C P before after now place owns requests space said gave
    → Effect known (with_request known owns said) before after (calls_of gave) gave (asked_for requests space said)
asked known before after now place owns requests space said gave h =
    let there : List BoxParts = told_in said (new_seat said) before.boxes place in
    let behind : ℕ → Known = with_request known owns said in
    let steps = h.asks.asks in
    let command : Command = command_of h.request space in
    let loaded = loads_row behind (places_told (Some place) (owned_by said (new_seat said) before.owners place) h.asks.finished) h.asks.stepped after.kernel there after.boxes no_errands h.errands tt h.asks.tells in
    let made : asked_for requests space said ≡ made_of command steps.answer =
    ap (λ (l : List Request). asked_for l space said) h.is_it
    ∙ (ap (λ (t : Told). asked_of h.request space t) steps.told_is
    ∙ asked_made h.request space (version_asked h.request One) h.asks.stepped.moment steps.answer
    (step_fits steps.acts.acts.between h.asks.stepped h.seat command steps.answer steps.acts.acts.does)) in
    effect_tells known behind before after there gave (asked_for requests space said) (kept_told_in known owns said before.boxes place h.is_its)
    (subst (λ (l : List Accepted). Makes behind before.kernel after.kernel there after.boxes gave l) (sym made)
    (subst (λ (l : List Gift). Makes behind before.kernel after.kernel there after.boxes l (made_of command steps.answer)) (sym (h.gifts_are ∙ loaded.gifts_are))
    (step_tells behind before.kernel h.asks.stepped after.kernel there after.boxes loaded.gave (made_of command steps.answer)
    (continues_acts before.upkeep after.upkeep before.kernel h.asks.stepped now h.seat command steps.answer steps.acts) loaded.tells)))

-- what went out of boxes, where nothing was made
effect_of_tells : (known : ℕ → Known) (before after : InsideParts) (gave told : List Gift) → gave ≡ told
    → Tells known before.kernel after.kernel before.boxes after.boxes told → Effect known known before after (calls_of gave) gave []
effect_of_tells known before after gave told is h =
    effect_tells known known before after before.boxes gave [] (λ kept. kept)
    (only_tells known before.kernel after.kernel before.boxes after.boxes gave
    (subst (λ (l : List Gift). Tells known before.kernel after.kernel before.boxes after.boxes l) (sym is) h))

looked : {C P : Type 0} (known : ℕ → Known) (before after : InsideParts) (place : ℕ) (gave : List Gift) → Looked C P before after place gave
    → Effect known known before after (calls_of gave) gave []
looked known before after place gave h =
    let loaded = loads_at known before.kernel after.kernel before.boxes after.boxes place no_errands h.errands tt h.loads in
    effect_of_tells known before after gave loaded.gave (h.gifts_are ∙ loaded.gifts_are) loaded.tells

laid : {C P : Type 0} (known : ℕ → Known) (before after : InsideParts) (gave : List Gift) → Laid C P before after gave → Effect known known before after (calls_of gave) gave []
laid known before after gave h =
    effect_of_tells known before after gave (gifts h.errands_now) h.gifts_are
    (tells_back known before.kernel after.kernel before.boxes after.boxes h.errands h.errands_now h.takes)

worked : {C P : Type 0} (known : ℕ → Known) (before after : InsideParts) (place number : ℕ) (gave : List Gift) → Worked C P before after place number gave
    → Effect known known before after (calls_of gave) gave []
worked known before after place number gave h =
    effect_of_tells known before after gave (work_gifts (slice_get before.boxes place) h.next) h.gifts_are
    (tells_work known before.kernel after.kernel before.boxes after.boxes place number h.next h.works)

took : (known : ℕ → Known) (before after : InsideParts) (thread taken : ℕ) (outcomes : List OutcomeParts) → Took before after thread taken outcomes
    → Effect known known before after (map (λ (o : OutcomeParts). o.call) outcomes) [] []
took known before after thread taken outcomes h =
    effect_still known before after (map (λ (o : OutcomeParts). o.call) outcomes) (go outcomes h.takes) (same_boxes known before.boxes after.boxes h.boxes)
  where
    go : (outcomes : List OutcomeParts) → TakesFor before.kernel after.kernel thread taken outcomes → Continues before.kernel after.kernel (map (λ (o : OutcomeParts). o.call) outcomes) []
    go [] takes = continues_nothing before.kernel after.kernel thread taken takes
    go (outcome ∷ []) takes = continues_gives before.kernel after.kernel thread (Some outcome) takes
    go (outcome ∷ other ∷ more) takes = absurd takes

marked : (known : ℕ → Known) (before after : InsideParts) (upto : ℕ) → Marked before after upto → Effect known known before after [] [] []
marked known before after upto h =
    effect_still known before after [] (record {
      sound = λ (s : IsSound before.kernel). subst IsSound (sym h.marks) (record { legal = s.legal; quiet = s.quiet; taken = s.taken; once = s.once; others = s.others; since = s.since });
      order = λ sound order. subst (λ (k : KernelParts). AreInOrder k) (sym h.marks) order;
      more = [];
      grows = ap (λ (k : KernelParts). k.history) h.marks ∙ sym (append-nil before.kernel.history);
      made_is = refl;
      taken = ap (λ (k : KernelParts). k.taken) h.marks ∙ sym (append-nil before.kernel.taken);
    }) (same_boxes known before.boxes after.boxes h.boxes)

effect_same : (known : ℕ → Known) (before after : InsideParts) → after ≡ before → Effect known known before after [] [] []
effect_same known before after same =
    effect_still known before after [] (continues_same before.kernel after.kernel (ap (λ (inside : InsideParts). inside.kernel) same))
    (same_boxes known before.boxes after.boxes (ap (λ (inside : InsideParts). inside.boxes) same))

-- all of them
pub effect_of : (C P : Type 0) (known : ℕ → Known) (before after : InsideParts) (next : Event) → Turn C P before next after
    → Effect known (known_now known next) before after (calls_by next) (gifts_by next) (made_by next)
effect_of C P known before after (event.Connected place number) h = as_before known before after [] [] [] (connected known before after place number h)
effect_of C P known before after (event.Declined number) h =
    as_before known before after [] [] []
    (effect_still known before after [] (continues_same before.kernel after.kernel h.kernel) (same_boxes known before.boxes after.boxes h.boxes))
effect_of C P known before after (event.Acted now commands answers gave) h =
    as_before known before after (calls_of gave) gave (made_for commands answers) (acted {C = C} {P = P} known before after now commands answers gave h)
effect_of C P known before after (event.Asked now place owns requests space said gave) h =
    asked {C = C} {P = P} known before after now place owns requests space said gave h
effect_of C P known before after (event.Ended now place number is_by_reader gave) h =
    as_before known before after (calls_of gave) gave [] (ended {C = C} {P = P} known before after now place number gave h)
effect_of C P known before after (event.Posted place owns said) h = posted known before after place owns said h
effect_of C P known before after (event.Looked place gave) h = as_before known before after (calls_of gave) gave [] (looked {C = C} {P = P} known before after place gave h)
effect_of C P known before after (event.Laid gave) h = as_before known before after (calls_of gave) gave [] (laid {C = C} {P = P} known before after gave h)
effect_of C P known before after (event.Worked place number gave) h =
    as_before known before after (calls_of gave) gave [] (worked {C = C} {P = P} known before after place number gave h)
effect_of C P known before after (event.Released place number) h =
    as_before known before after [] [] []
    (effect_still known before after [] (continues_same before.kernel after.kernel h.kernel)
    (λ kept. same_boxes known (changed_at (gives_back number) before.boxes place) after.boxes h.boxes (all_cleared known number before.boxes place kept)))
effect_of C P known before after (event.Took thread taken outcomes) h =
    as_before known before after (map (λ (o : OutcomeParts). o.call) outcomes) [] [] (took known before after thread taken outcomes h)
effect_of C P known before after (event.Marked upto) h = as_before known before after [] [] [] (marked known before after upto h)
effect_of C P known before after event.Parted (inl h) =
    as_before known before after [] [] []
    (effect_still known before after [] (continues_all before.upkeep after.upkeep before.kernel after.kernel h.lets_go) (same_boxes known before.boxes after.boxes h.boxes))
effect_of C P known before after event.Parted (inr same) = as_before known before after [] [] [] (effect_same known before after same)

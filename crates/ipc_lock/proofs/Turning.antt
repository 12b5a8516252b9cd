-- What stands under the lock is what its log leads to: at first, and after each event more.
use Rattle.std.proofs.Common.{◌≡◌, ◌⊎◌, ◌++◌, ◌∷◌, ℕ, List, [], Bool, Option, Some, None, Result, Ok, Err, inl, inr, arith, refl, sym, ap, ◌∙◌, subst}
use Rattle.std.specs.Prelude.{IfNone, IfSome, OnErr, OnOk, min, replicate}
use Rattle.std.specs.Vec.{vec_items}
use Rattle.ipc_connection.specs.declared.asking.Request.{Request}
use Rattle.ipc_connection.specs.declared.replying.Told.{Told}
use Rattle.ipc_core.specs.Effects.{Gives}
use Rattle.ipc_core.specs.KernelParts.{KernelParts}
use Rattle.ipc_core.specs.Obeying.{empty_kernel}
use Rattle.ipc_core.specs.declared.command.Answer.{Answer}
use Rattle.ipc_core.specs.declared.command.Command.{Command}
use Rattle.ipc_history.specs.Outcomes.{OutcomeParts}
use Rattle.ipc_seats.specs.Boxes.{BoxParts}
use Rattle.ipc_seats.specs.Gifts.{gifts_of_work, idle_in, outcomes_in, work_gifts}
use Rattle.ipc_seats.specs.Parting.{LetGoOfAll}
use Rattle.ipc_seats.specs.Seats.{TakesNothing}
use Rattle.ipc_seats.specs.Upkeeping.{first_upkeep}
use Rattle.ipc_seats.specs.declared.events.Event.{Event}
use Rattle.ipc_seats.specs.declared.events.Event.TheVariants as event
use Rattle.ipc_seats.specs.declared.events.Gift.{Gift}
use Rattle.ipc_seats.specs.declared.post_box.Work.{Work}
use Rattle.ipc_seats.specs.declared.post_box.Work.TheVariants as work
use Rattle.ipc_seats.specs.declared.seated.Taken.{Taken}
use Rattle.ipc_seats.specs.declared.upkeep.Upkeep.{Upkeep}
use Rattle.ipc_lock.specs.InsideParts.{InsideParts, LoggedParts, parts_of}
use Rattle.ipc_lock.specs.Turns.{Goes, Parted, Runs, Starts, TakesFor, Turn, Turned, first_inside}
use Rattle.ipc_lock.specs.declared.inside.Inside.{Inside}
use Rattle.ipc_words.specs.Limits.{max_calls, max_entries, table_slots}

abbrev parts : KernelParts → Upkeep → List BoxParts → List (Option ℕ) → List ℕ → InsideParts
parts kernel upkeep boxes owners numbers = record { kernel = kernel; upkeep = upkeep; boxes = boxes; owners = owners; numbers = numbers }

-- what is the same in each part is the same
pub same_parts : (before after : InsideParts) → after.kernel ≡ before.kernel → after.upkeep ≡ before.upkeep → after.boxes ≡ before.boxes
    → after.owners ≡ before.owners → after.numbers ≡ before.numbers → after ≡ before
same_parts before after kernel upkeep boxes owners numbers =
    ap (λ (k : KernelParts). parts k after.upkeep after.boxes after.owners after.numbers) kernel
    ∙ (ap (λ (u : Upkeep). parts before.kernel u after.boxes after.owners after.numbers) upkeep
    ∙ (ap (λ (b : List BoxParts). parts before.kernel before.upkeep b after.owners after.numbers) boxes
    ∙ (ap (λ (o : List (Option ℕ)). parts before.kernel before.upkeep before.boxes o after.numbers) owners
    ∙ ap (λ (n : List ℕ). parts before.kernel before.upkeep before.boxes before.owners n) numbers)))

-- an empty kernel without boxes
pub first_parts : (inside : InsideParts) (entries calls : ℕ) → inside.kernel ≡ empty_kernel entries calls → inside.upkeep ≡ first_upkeep entries
    → inside.boxes ≡ [] → inside.owners ≡ replicate table_slots None → inside.numbers ≡ [] → inside ≡ first_inside entries calls
first_parts inside entries calls kernel upkeep boxes owners numbers = same_parts (first_inside entries calls) inside kernel upkeep boxes owners numbers

pub starts : (C P : Type 0) (log : List Event) (inside : InsideParts) (entries calls : ℕ) → log ≡ []
    → inside ≡ first_inside (min entries max_entries) (min calls max_calls) → Runs C P log inside
starts C P log inside entries calls none first =
    subst (λ (l : List Event). Runs C P l inside) (sym none)
    (subst (λ (i : InsideParts). Runs C P [] i) (sym first) (Starts (min entries max_entries) (min calls max_calls) (omega arith) (omega arith)))

-- one event more
pub runs_on : {C P : Type 0} (next : Event) (log log_now : List Event) (before after : InsideParts) → Runs C P log before → log_now ≡ log ++ next ∷ []
    → Turn C P before next after → Runs C P log_now after
runs_on {C} {P} next log log_now before after runs more turn = subst (λ (l : List Event). Runs C P l after) (sym more) (Goes log next before after runs turn)

-- nothing was done
pub runs_still : {C P : Type 0} (log : List Event) (before after : InsideParts) → Runs C P log before → after.kernel ≡ before.kernel → after.upkeep ≡ before.upkeep
    → after.boxes ≡ before.boxes → after.owners ≡ before.owners → after.numbers ≡ before.numbers → Runs C P log after
runs_still {C} {P} log before after runs kernel upkeep boxes owners numbers =
    subst (λ (i : InsideParts). Runs C P log i) (sym (same_parts before after kernel upkeep boxes owners numbers)) runs

pub turned : {C P : Type 0} (next : Event) (was before after : LoggedParts) → was ≡ before → Runs C P was.log was.inside → after.log ≡ was.log ++ next ∷ []
    → Turn C P was.inside next after.inside → Turned C P before after next
turned {C} {P} next was before after is runs more turn =
    subst (λ (l : LoggedParts). Turned C P l after next) is (record { runs = runs; log = more; turn = turn })

-- the event that came is this one
pub logged_as : (made next : Event) (log log_now : List Event) → log_now ≡ log ++ made ∷ [] → made ≡ next → log_now ≡ log ++ next ∷ []
logged_as made next log log_now more is = more ∙ ap (λ (e : Event). log ++ e ∷ []) is

-- a list of one
pub one_only : {X : Type 0} (none one : List X) (x : X) → none ≡ [] → one ≡ none ++ x ∷ [] → one ≡ x ∷ []
one_only none one x empty more = more ∙ ap (λ (l : List _). l ++ x ∷ []) empty

pub acted_so : (now : ℕ) (commands : List Command) (answers : List Answer) (gave gifts : List Gift) (command : Command) (answer : Answer)
    → commands ≡ command ∷ [] → answers ≡ answer ∷ [] → gave ≡ gifts → event.Acted now commands answers gave ≡ event.Acted now (command ∷ []) (answer ∷ []) gifts
acted_so now commands answers gave gifts command answer c a g =
    ap (λ (l : List Command). event.Acted now l answers gave) c
    ∙ (ap (λ (l : List Answer). event.Acted now (command ∷ []) l gave) a ∙ ap (λ (l : List Gift). event.Acted now (command ∷ []) (answer ∷ []) l) g)

pub asked_so : (now place : ℕ) (number own : List ℕ) (requests : List Request) (space : ℕ) (said told : Told) (gave gifts : List Gift) (request : Request)
    → number ≡ own → requests ≡ request ∷ [] → said ≡ told → gave ≡ gifts
    → event.Asked now place number requests space said gave ≡ event.Asked now place own (request ∷ []) space told gifts
asked_so now place number own requests space said told gave gifts request n r s g =
    ap (λ (l : List ℕ). event.Asked now place l requests space said gave) n
    ∙ (ap (λ (l : List Request). event.Asked now place own l space said gave) r
    ∙ (ap (λ (t : Told). event.Asked now place own (request ∷ []) space t gave) s
    ∙ ap (λ (l : List Gift). event.Asked now place own (request ∷ []) space told l) g))

pub took_so : (thread own taken count : ℕ) (outcomes given : List OutcomeParts) → thread ≡ own → taken ≡ count → outcomes ≡ given
    → event.Took thread taken outcomes ≡ event.Took own count given
took_so thread own taken count outcomes given t n o =
    ap (λ (x : ℕ). event.Took x taken outcomes) t
    ∙ (ap (λ (x : ℕ). event.Took own x outcomes) n ∙ ap (λ (l : List OutcomeParts). event.Took own count l) o)

-- what a seat took, or did not
pub takes_for : {T : Type 0} (old new : KernelParts) (thread amount : ℕ) (result : Option (Taken T))
    → IfSome result (λ taken. Gives old new thread (Some taken.outcome)) → IfNone result (TakesNothing old new thread amount)
    → TakesFor old new thread amount (outcomes_in result)
takes_for old new thread amount None some none = none
takes_for old new thread amount (Some taken) some none = some

-- what a writer's pen was given
pub work_gives : {C P : Type 0} (box : Option BoxParts) (idle : List Bool) (next : Option (Work C P)) (gave : List Gift)
    → idle ≡ idle_in box → gave ≡ gifts_of_work idle next → gave ≡ work_gifts box next
work_gives {C} {P} box idle next gave is gives = gives ∙ (ap (λ (l : List Bool). gifts_of_work l next) is ∙ go box next)
  where
    go : (box : Option BoxParts) (next : Option (Work C P)) → gifts_of_work (idle_in box) next ≡ work_gifts box next
    go None next = refl
    go (Some box) None = refl
    go (Some box) (Some (work.Write pen)) = refl
    go (Some box) (Some work.Over) = refl

-- memory let go of all, or nothing changed
pub parted : {C T P R E : Type 0} (result : Result R E) (old new : Inside C T P) (numbers : List ℕ)
    → OnOk result (LetGoOfAll old.upkeep new.upkeep old.locked.kernel new.locked.kernel) → OnErr result (new ≡ old)
    → new.boxes ≡ old.boxes → new.owners ≡ old.owners → Parted (parts_of old numbers) (parts_of new numbers) ⊎ (parts_of new numbers ≡ parts_of old numbers)
parted (Ok value) old new numbers lets_go same boxes owners =
    inl (record { lets_go = lets_go; boxes = ap vec_items boxes; owners = ap vec_items owners; numbers = refl })
parted (Err error) old new numbers lets_go same boxes owners = inr (ap (λ i. parts_of i numbers) same)

pub parted_or : {C T P : Type 0} (old new : Inside C T P) (numbers : List ℕ)
    → LetGoOfAll old.upkeep new.upkeep old.locked.kernel new.locked.kernel ⊎ (new ≡ old)
    → new.boxes ≡ old.boxes → new.owners ≡ old.owners → Parted (parts_of old numbers) (parts_of new numbers) ⊎ (parts_of new numbers ≡ parts_of old numbers)
parted_or old new numbers (inl lets_go) boxes owners = inl (record { lets_go = lets_go; boxes = ap vec_items boxes; owners = ap vec_items owners; numbers = refl })
parted_or old new numbers (inr same) boxes owners = inr (ap (λ i. parts_of i numbers) same)

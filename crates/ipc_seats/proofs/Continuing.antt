-- What is done under the lock keeps the kernel sound, and its history only goes on.
use Rattle.std.proofs.Common.{◌≡◌, ℕ, List, [], ◌∷◌, ◌++◌, append_assoc, append-nil, length, Bool, true, false, MatchBool, Option, Some, None, ◌==◌, ◌≤◌, if◌then◌else◌, inl, inr, map, refl, sym, ap, ap₂, ◌∙◌, subst, arith}
use Rattle.std.proofs.lemmas.Bool.{false≢true}
use Rattle.std.specs.Prelude.{All, nat_lt, ⊤}
use Rattle.std.specs.List.{IsDistinct, list_any}
use Rattle.ipc_history.specs.Calls.{numbers}
use Rattle.ipc_history.specs.Legal.{Legal, Quiet}
use Rattle.ipc_history.specs.Outcomes.{OutcomeParts}
use Rattle.ipc_history.specs.Settled.{Settled}
use Rattle.ipc_history.specs.Threads.{now}
use Rattle.ipc_history.specs.Timing.{is_due_at}
use Rattle.ipc_history.specs.declared.entry.Entry.{Entry}
use Rattle.ipc_history.specs.declared.entry.Entry.TheVariants.{Given, Written}
use Rattle.ipc_history.specs.declared.entry.Input.{Input}
use Rattle.ipc_history.specs.declared.entry.Input.TheVariants as input
use Rattle.ipc_history.specs.declared.entry.Output.{Output}
use Rattle.ipc_core.specs.Again.{MakesRoom, MayObeyAgain, lacks_entries}
use Rattle.ipc_core.specs.Books.{TookOthers}
use Rattle.ipc_core.specs.Compacting.{Compacts}
use Rattle.ipc_core.specs.Effects.{Gives, Ticks}
use Rattle.ipc_core.specs.KernelParts.{KernelParts}
use Rattle.ipc_core.specs.Laws.{IsSound}
use Rattle.ipc_core.specs.Obeying.{Does, MayObey, Obeys, ObeysOr, cause_of}
use Rattle.ipc_core.specs.Outcomes.{IsTaken, outcome_to_take, taken_by}
use Rattle.ipc_core.specs.Steps.{Takes, at_if_later, at_moment, taken_after}
use Rattle.ipc_core.specs.declared.answers.Advance.TheVariants.{Moved, Idle}
use Rattle.ipc_core.specs.declared.answers.Compacted.{Compacted}
use Rattle.ipc_core.specs.declared.command.Answer.{Answer}
use Rattle.ipc_core.specs.declared.command.Answer.TheVariants.{Opened, Entered, Exchanged, Done, Advanced, Refused, Taken}
use Rattle.ipc_core.specs.declared.command.Command.{Command}
use Rattle.ipc_core.specs.declared.command.Command.TheVariants.{Open, Enter, Exreg, Broke, At, Advance, Take}
use Rattle.ipc_core.specs.declared.refusal.Refusal.{Refusal}
use Rattle.ipc_core.specs.declared.refusal.Refusal.TheVariants.{NoMemory, NoThread}
use Rattle.ipc_core.proofs.AgainLaws.{again_sound, room_history}
use Rattle.ipc_core.proofs.SoundLaws.{stays_sound}
use Rattle.ipc_seats.proofs.Ordering.{AreInOrder, order_gives, order_grown}
use Rattle.ipc_seats.specs.Acting.{ActsOn, StepDoes, has_right}
use Rattle.ipc_seats.specs.Making.{Accepted, accepted_in, accepted_of, made_of}
use Rattle.ipc_seats.specs.Parting.{LetGoOfAll}
use Rattle.ipc_seats.specs.Seats.{TakesNothing}
use Rattle.ipc_seats.specs.Upkeeping.{LetGo, LetsGo, noted}
use Rattle.ipc_seats.specs.declared.seated.seats.CallSeat.{CallSeat}
use Rattle.ipc_seats.specs.declared.upkeep.Upkeep.{Upkeep}

-- a sound kernel stays sound, and what is taken in order stays so; its history goes on by entries that say that this was made, and the
-- outcomes of these calls were taken
pub record Continues (old new : KernelParts) (calls : List ℕ) (made : List Accepted) : Type 0 where
  pub sound : IsSound old → IsSound new
  pub order : IsSound old → AreInOrder old → AreInOrder new
  pub more : List Entry
  pub grows : new.history ≡ old.history ++ more
  pub made_is : accepted_of more ≡ made
  pub taken : new.taken ≡ old.taken ++ calls

pub accepted_append : (first second : List Entry) → accepted_of (first ++ second) ≡ accepted_of first ++ accepted_of second
accepted_append [] second = refl
accepted_append (entry ∷ first) second =
    ap (λ (l : List Accepted). accepted_in entry ++ l) (accepted_append first second)
    ∙ sym (append_assoc (accepted_in entry) (accepted_of first) (accepted_of second))

pub continues_none : (kernel : KernelParts) → Continues kernel kernel [] []
continues_none kernel = record {
  sound = λ sound. sound;
  order = λ sound order. order;
  more = [];
  grows = sym (append-nil kernel.history);
  made_is = refl;
  taken = sym (append-nil kernel.taken);
}

pub continues_same : (old new : KernelParts) → new ≡ old → Continues old new [] []
continues_same old new same = subst (λ (k : KernelParts). Continues old k [] []) (sym same) (continues_none old)

pub continues_both : (old between new : KernelParts) (calls more : List ℕ) (made others : List Accepted) → Continues old between calls made → Continues between new more others
    → Continues old new (calls ++ more) (made ++ others)
continues_both old between new calls more made others h k = record {
  sound = λ sound. k.sound (h.sound sound);
  order = λ sound order. k.order (h.sound sound) (h.order sound order);
  more = h.more ++ k.more;
  grows = k.grows ∙ (ap (λ (l : List Entry). l ++ k.more) h.grows ∙ append_assoc old.history h.more k.more);
  made_is = accepted_append h.more k.more ∙ ap₂ (λ (a b : List Accepted). a ++ b) h.made_is k.made_is;
  taken = k.taken ∙ (ap (λ (l : List ℕ). l ++ more) h.taken ∙ append_assoc old.taken calls more);
}

-- what memory holds is another thing, and the history and what was taken stay
pub continues_still : (old new : KernelParts) → new.history ≡ old.history → new.taken ≡ old.taken → new.since ≤ length old.history → Continues old new [] []
continues_still old new same taken since = record {
  sound = λ (s : IsSound old). record {
    legal = subst Legal (sym same) s.legal;
    quiet = subst Quiet (sym same) s.quiet;
    taken = subst (λ (l : List ℕ). All (IsTaken new.history) l) (sym taken) (subst (λ (H : List Entry). All (IsTaken H) old.taken) (sym same) s.taken);
    once = subst (λ (l : List ℕ). IsDistinct (λ (a b : ℕ). a == b) l) (sym taken) s.once;
    others = subst (λ (l : List ℕ). TookOthers new.history l) (sym taken) (subst (λ (H : List Entry). TookOthers H old.taken) (sym same) s.others);
    since = omega (arith, since, ap (λ (H : List Entry). length H) same);
  };
  order = λ sound order. order_grown old new [] sound (same ∙ sym (append-nil old.history)) taken order;
  more = [];
  grows = same ∙ sym (append-nil old.history);
  made_is = refl;
  taken = taken ∙ sym (append-nil old.taken);
}

pub continues_compacts : (old new : KernelParts) (upto : ℕ) (done : Compacted) → Compacts old new upto done → Continues old new [] []
continues_compacts old new upto done c = continues_still old new c.history c.taken (omega (arith, c.since))

pub continues_lets_go : (upkeep after : Upkeep) (old new : KernelParts) → LetsGo upkeep after old new → Continues old new [] []
continues_lets_go upkeep after old new h = go _ h
  where
    go : (b : Bool) → MatchBool b (LetGo upkeep after old new) ((new ≡ old) × (after ≡ upkeep)) → Continues old new [] []
    go true h = continues_compacts old new old.held.mark h.done h.compacts
    go false h = continues_same old new h.0

pub continues_all : (upkeep after : Upkeep) (old new : KernelParts) → LetGoOfAll upkeep after old new → Continues old new [] []
continues_all upkeep after old new h = continues_still old new h.compacts.history h.compacts.taken (omega (arith, h.compacts.since))

-- outputs say nothing of that
accepted_written : (outputs : List Output) → accepted_of (map Written outputs) ≡ []
accepted_written [] = refl
accepted_written (output ∷ outputs) = accepted_written outputs

accepted_clock : (H : List Entry) (moment : ℕ) → accepted_of (at_if_later H moment) ≡ []
accepted_clock H moment = go (nat_lt (now H) moment)
  where
    go : (later : Bool) → accepted_of (if later then Given (input.At moment) ∷ [] else []) ≡ []
    go true = refl
    go false = refl

-- a history that went on, where nothing was taken
pub record Grew (old new : KernelParts) (made : List Accepted) : Type 0 where
  pub more : List Entry
  pub grows : new.history ≡ old.history ++ more
  pub made_is : accepted_of more ≡ made
  pub taken : new.taken ≡ old.taken

grew_same : (old new : KernelParts) → new ≡ old → Grew old new []
grew_same old new same = record {
  more = [];
  grows = ap (λ (k : KernelParts). k.history) same ∙ sym (append-nil old.history);
  made_is = refl;
  taken = ap (λ (k : KernelParts). k.taken) same;
}

-- by an input
grew_takes : (old new : KernelParts) (given : Input) → Takes old new given → new.taken ≡ old.taken → Grew old new (accepted_in (Given given))
grew_takes old new given takes same =
    let clock : List Entry = at_if_later old.history old.moment in
    let outputs : List Entry = map Written takes.history.outputs in
    record {
      more = clock ++ Given given ∷ outputs;
      grows = takes.history.appended ∙ (append_assoc (old.history ++ clock) (Given given ∷ []) outputs ∙ append_assoc old.history clock (Given given ∷ outputs));
      made_is = accepted_append clock (Given given ∷ outputs)
          ∙ (ap₂ (λ (a b : List Accepted). a ++ (accepted_in (Given given) ++ b)) (accepted_clock old.history old.moment) (accepted_written takes.history.outputs)
          ∙ append-nil (accepted_in (Given given)));
      taken = same;
    }

grew_ticks : (old new : KernelParts) (reading : ℕ) → Ticks old new reading → Grew old new []
grew_ticks old new reading h = go (list_any (is_due_at old.history (at_moment old reading)) (numbers old.history)) h.history
  where
    go : (b : Bool) → MatchBool b (Settled (old.history ++ Given (input.At (at_moment old reading)) ∷ []) new.history) (new.history ≡ old.history) → Grew old new []
    go true settled = record {
      more = Given (input.At (at_moment old reading)) ∷ map Written settled.outputs;
      grows = settled.appended ∙ append_assoc old.history (Given (input.At (at_moment old reading)) ∷ []) (map Written settled.outputs);
      made_is = accepted_written settled.outputs;
      taken = h.taken;
    }
    go false same = record { more = []; grows = same ∙ sym (append-nil old.history); made_is = refl; taken = h.taken }

-- a clock reading
pub continues_ticks : (old new : KernelParts) (reading : ℕ) → Ticks old new reading → Continues old new [] []
unfolding Obeys cause_of Does
continues_ticks old new reading h =
    let grew = grew_ticks old new reading h in
    record {
      sound = λ (s : IsSound old). stays_sound old (At reading) Done new s (inl h);
      order = λ sound order. order_grown old new grew.more sound grew.grows h.taken order;
      more = grew.more;
      grows = grew.grows;
      made_is = grew.made_is;
      taken = h.taken ∙ sym (append-nil old.taken);
    }

-- a command that takes an outcome
abbrev is_take : Command → Bool
is_take (Take thread) = true
is_take command = false

does_grow : (old new : KernelParts) (command : Command) (answer : Answer) → is_take command ≡ false → Does old command answer new → Grew old new (made_of command answer)
unfolding Does
does_grow old new (Open number space) (Opened thread) other does = grew_takes old new _ does.takes does.taken
does_grow old new (Enter thread call) (Entered number) other does = grew_takes old new _ does.takes does.taken
does_grow old new (Exreg thread target control) (Exchanged answer) other does = grew_takes old new _ does.takes does.taken
does_grow old new (Broke thread) Done other does = grew_takes old new _ does.takes does.taken
does_grow old new (At reading) Done other does = grew_ticks old new reading does
does_grow old new Advance (Advanced Moved) other does = grew_takes old new _ does.takes does.taken
does_grow old new Advance (Advanced Idle) other does = record {
  more = [];
  grows = ap (λ (k : KernelParts). k.history) does.1 ∙ sym (append-nil old.history);
  made_is = refl;
  taken = ap (λ (k : KernelParts). k.taken) does.1;
}
does_grow old new (Take thread) (Taken outcome) other does = absurd (false≢true (sym other))
does_grow old new command answer other does = absurd does

-- a command that was refused made nothing
refused_makes : (command : Command) (refusal : Refusal) → made_of command (Refused refusal) ≡ []
refused_makes (Open number space) refusal = refl
refused_makes (Enter thread call) refusal = refl
refused_makes (Exreg thread target control) refusal = refl
refused_makes (Broke thread) refusal = refl
refused_makes (At reading) refusal = refl
refused_makes Advance refusal = refl
refused_makes (Take thread) refusal = refl

pub made_none : (command : Command) (answer : Answer) (refusal : Refusal) → answer ≡ Refused refusal → made_of command answer ≡ []
made_none command answer refusal is = ap (λ (a : Answer). made_of command a) is ∙ refused_makes command refusal

obeys_grow : (old new : KernelParts) (command : Command) (answer : Answer) → is_take command ≡ false → MayObey old command answer new → Grew old new (made_of command answer)
unfolding Obeys
obeys_grow old new command answer other (inr lacks) =
    subst (λ (made : List Accepted). Grew old new made) (sym (made_none command answer NoMemory lacks.answer_is)) (grew_same old new lacks.stays)
obeys_grow old new command answer other (inl obeys) = go (cause_of old command) obeys
  where
    go : (cause : Option Refusal) → ObeysOr cause old command answer new → Grew old new (made_of command answer)
    go None does = does_grow old new command answer other does
    go (Some refusal) refused = subst (λ (made : List Accepted). Grew old new made) (sym (made_none command answer refusal refused.0)) (grew_same old new refused.1)

room_taken : (upto : ℕ) (old roomy : KernelParts) (command : Command) → MakesRoom upto old command roomy → roomy.taken ≡ old.taken
room_taken upto old roomy command makes = go (lacks_entries old command) makes
  where
    go : (b : Bool) → MatchBool b ((done : Compacted) × Compacts old roomy upto done) (roomy ≡ old) → roomy.taken ≡ old.taken
    go true h = h.1.taken
    go false same = ap (λ (k : KernelParts). k.taken) same

pub continues_again : (upto : ℕ) (old new : KernelParts) (command : Command) (answer : Answer) → is_take command ≡ false
    → MayObeyAgain upto old command answer new → Continues old new [] (made_of command answer)
continues_again upto old new command answer other h =
    let grew = obeys_grow h.roomy new command answer other h.obeys in
    let grows : new.history ≡ old.history ++ grew.more = grew.grows ∙ ap (λ (H : List Entry). H ++ grew.more) (room_history upto old h.roomy command h.makes_room) in
    let same : new.taken ≡ old.taken = grew.taken ∙ room_taken upto old h.roomy command h.makes_room in
    record {
      sound = λ (s : IsSound old). again_sound upto old command answer new s h;
      order = λ sound order. order_grown old new grew.more sound grows same order;
      more = grew.more;
      grows = grows;
      made_is = grew.made_is;
      taken = same ∙ sym (append-nil old.taken);
    }

-- nobody has the right to take by a step
right_takes_none : {C : Type 0} (history : List Entry) (seat : Option (CallSeat C)) (command : Command) → has_right history seat command ≡ true
    → is_take command ≡ false
right_takes_none history seat (Take thread) right = absurd (false≢true right)
right_takes_none history seat (Open number space) right = refl
right_takes_none history seat (Enter thread call) right = refl
right_takes_none history seat (Exreg thread target control) right = refl
right_takes_none history seat (Broke thread) right = refl
right_takes_none history seat (At reading) right = refl
right_takes_none history seat Advance right = refl

pub continues_step : {C : Type 0} (old new : KernelParts) (seat : Option (CallSeat C)) (command : Command) (answer : Answer)
    → StepDoes old seat command answer new → Continues old new [] (made_of command answer)
unfolding StepDoes
continues_step old new seat command answer h = go (has_right old.history seat command) refl h
  where
    go : (b : Bool) → has_right old.history seat command ≡ b
        → MatchBool b (MayObeyAgain old.held.mark old command answer new) ((answer ≡ Refused NoThread) × (new ≡ old)) → Continues old new [] (made_of command answer)
    go true right h = continues_again old.held.mark old new command answer (right_takes_none old.history seat command right) h
    go false right h = subst (λ (made : List Accepted). Continues old new [] made) (sym (made_none command answer NoThread h.0)) (continues_same old new h.1)

pub continues_acts : {C : Type 0} (upkeep after : Upkeep) (old new : KernelParts) (now : ℕ) (seat : Option (CallSeat C)) (command : Command) (answer : Answer)
    → ActsOn upkeep after old new now seat command answer → Continues old new [] (made_of command answer)
continues_acts upkeep after old new now seat command answer h =
    continues_both old h.before new [] [] [] (made_of command answer) (continues_lets_go (noted command upkeep) after old h.before h.lets_go)
    (continues_both h.before h.acts.between new [] [] [] (made_of command answer) (continues_ticks h.before h.acts.between now h.acts.ticks)
    (continues_step h.acts.between new seat command answer h.acts.does))

-- the answers that a step may have of a command that is a request: none of another kind
abbrev pub Fits : Command → Answer → Type 0
Fits (Enter thread call) Done = ⊥
Fits (Enter thread call) (Advanced advance) = ⊥
Fits (Enter thread call) (Taken outcome) = ⊥
Fits command answer = ⊤

does_fit : (old new : KernelParts) (command : Command) (answer : Answer) → Does old command answer new → Fits command answer
unfolding Does
does_fit old new (Open number space) (Opened thread) does = tt
does_fit old new (Enter thread call) (Entered number) does = tt
does_fit old new (Exreg thread target control) (Exchanged answer) does = tt
does_fit old new (Broke thread) Done does = tt
does_fit old new (At reading) Done does = tt
does_fit old new Advance (Advanced Moved) does = tt
does_fit old new Advance (Advanced Idle) does = tt
does_fit old new (Take thread) (Taken outcome) does = tt
does_fit old new command answer does = absurd does

refused_fits : (command : Command) (answer : Answer) (refusal : Refusal) → answer ≡ Refused refusal → Fits command answer
refused_fits command answer refusal is = subst (λ (a : Answer). Fits command a) (sym is) (go command)
  where
    go : (command : Command) → Fits command (Refused refusal)
    go (Open number space) = tt
    go (Enter thread call) = tt
    go (Exreg thread target control) = tt
    go (Broke thread) = tt
    go (At reading) = tt
    go Advance = tt
    go (Take thread) = tt

obeys_fit : (old new : KernelParts) (command : Command) (answer : Answer) → MayObey old command answer new → Fits command answer
unfolding Obeys
obeys_fit old new command answer (inr lacks) = refused_fits command answer NoMemory lacks.answer_is
obeys_fit old new command answer (inl obeys) = go (cause_of old command) obeys
  where
    go : (cause : Option Refusal) → ObeysOr cause old command answer new → Fits command answer
    go None does = does_fit old new command answer does
    go (Some refusal) refused = refused_fits command answer refusal refused.0

pub step_fits : {C : Type 0} (old new : KernelParts) (seat : Option (CallSeat C)) (command : Command) (answer : Answer) → StepDoes old seat command answer new → Fits command answer
unfolding StepDoes
step_fits old new seat command answer h = go (has_right old.history seat command) h
  where
    go : (b : Bool) → MatchBool b (MayObeyAgain old.held.mark old command answer new) ((answer ≡ Refused NoThread) × (new ≡ old)) → Fits command answer
    go true h = obeys_fit h.roomy new command answer h.obeys
    go false h = refused_fits command answer NoThread h.0

-- the call of an outcome, if any
abbrev pub call_in : Option OutcomeParts → List ℕ
call_in None = []
call_in (Some outcome) = outcome.call ∷ []

after_taken : (outcome : Option OutcomeParts) (taken : List ℕ) → taken_after outcome taken ≡ taken ++ call_in outcome
after_taken None taken = sym (append-nil taken)
after_taken (Some outcome) taken = refl

order_taken : (old : KernelParts) (thread : ℕ) (outcome : Option OutcomeParts) → IsSound old → outcome_to_take old thread ≡ outcome → AreInOrder old
    → AreInOrder (record old { taken = taken_after outcome old.taken; since = length old.history })
order_taken old thread None sound gives order = order
order_taken old thread (Some outcome) sound gives order = order_gives old thread outcome sound gives order

-- an outcome was taken, or there was none
pub continues_gives : (old new : KernelParts) (thread : ℕ) (outcome : Option OutcomeParts) → Gives old new thread outcome → Continues old new (call_in outcome) []
unfolding Obeys cause_of Does
continues_gives old new thread outcome h = record {
  sound = λ (s : IsSound old). stays_sound old (Take thread) (Taken outcome) new s (inl h);
  order = λ sound order. subst (λ (k : KernelParts). AreInOrder k) (sym h.taken) (order_taken old thread outcome sound (sym h.outcome_is) order);
  more = [];
  grows = ap (λ (k : KernelParts). k.history) h.taken ∙ sym (append-nil old.history);
  made_is = refl;
  taken = ap (λ (k : KernelParts). k.taken) h.taken ∙ after_taken outcome old.taken;
}

pub continues_nothing : (old new : KernelParts) (thread amount : ℕ) → TakesNothing old new thread amount → Continues old new [] []
continues_nothing old new thread amount h = go (amount == taken_by old thread) h
  where
    go : (b : Bool) → MatchBool b (Gives old new thread None) (new ≡ old) → Continues old new [] []
    go true gives = continues_gives old new thread None gives
    go false same = continues_same old new same

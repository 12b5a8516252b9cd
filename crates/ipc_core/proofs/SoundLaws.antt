-- What is sound stays sound over commands.
use Rattle.std.proofs.lemmas.List.{length-append}
use Rattle.std.proofs.lemmas.List.Elements.{All-push, All-weaker}
use Rattle.std.proofs.lemmas.Option.{none-some}
use Rattle.std.proofs.Common.{◌≡◌, sym, ap, ◌∙◌, subst, ℕ, Bool, true, false, ◌==◌, if◌then◌else◌, List, [], ◌∷◌, ◌++◌, append-nil, length, Option, Some, None, option_and_then, inl, inr, refl, arith}
use Rattle.std.specs.Prelude.{All, MatchBool}
use Rattle.std.specs.List.{IsDistinct, list_any}
use Rattle.ipc_history.specs.Calls.{numbers}
use Rattle.ipc_history.specs.Legal.{Legal, Quiet}
use Rattle.ipc_history.specs.Outcomes.{OutcomeParts, outcome_of}
use Rattle.ipc_history.specs.Settled.{Settled}
use Rattle.ipc_history.specs.Threads.{is_live}
use Rattle.ipc_history.specs.Timing.{is_due_at}
use Rattle.ipc_history.specs.declared.entry.Entry.{Entry}
use Rattle.ipc_history.specs.declared.entry.Entry.TheVariants.{Given}
use Rattle.ipc_history.specs.declared.entry.Input.{Input}
use Rattle.ipc_history.specs.declared.entry.Input.TheVariants as input
use Rattle.ipc_laws.proofs.Growth.{is_called_kept, over_kept}
use Rattle.ipc_desks.specs.CallsOf.{last_call, outcome_to_take as waiting, untaken_outcome}
use Rattle.ipc_core.specs.Effects.{Ticks}
use Rattle.ipc_core.specs.KernelParts.{KernelParts}
use Rattle.ipc_core.specs.Laws.{IsSound, StaysSound}
use Rattle.ipc_core.specs.Obeying.{Does, Obeys, ObeysOr, cause_of}
use Rattle.ipc_core.specs.Outcomes.{IsTaken, is_among, is_busy, outcome_to_take}
use Rattle.ipc_core.specs.Steps.{Takes, at_moment, taken_after}
use Rattle.ipc_core.specs.declared.answers.Advance.TheVariants.{Moved, Idle}
use Rattle.ipc_core.specs.declared.command.Answer.{Answer}
use Rattle.ipc_core.specs.declared.command.Answer.TheVariants.{Opened, Entered, Exchanged, Done, Advanced, Taken}
use Rattle.ipc_core.specs.declared.command.Command.{Command}
use Rattle.ipc_core.specs.declared.command.Command.TheVariants.{Open, Enter, Exreg, Broke, At, Advance, Take}
use Rattle.ipc_core.specs.declared.refusal.Refusal.{Refusal}
use Rattle.ipc_history.specs.CallParts.{CallParts}
use Rattle.ipc_core.specs.Books.{TookOthers}
use Rattle.ipc_core.specs.Refusals.{enter_refusal}
use Rattle.ipc_core.specs.declared.refusal.Refusal.TheVariants.{Busy, NoThread}
use Rattle.ipc_core.proofs.BookLemmas.{taken_once}
use Rattle.ipc_core.proofs.BusyLaws.{last_taken, still_among}
use Rattle.ipc_core.proofs.CourseLemmas.{took}
use Rattle.ipc_core.proofs.NewCalls.{takes_grows, ticks_grows}
use Rattle.ipc_core.proofs.OtherCalls.{IsIdleFor, others_grown, others_more}
use Rattle.ipc_desks.proofs.TakenDesks.{outcome_call}

-- a legal history goes on, to a quiet end, and no outcome is taken
sound_grown : (old new : KernelParts) (more : List Entry) → IsSound old → new.history ≡ old.history ++ more → Legal new.history → Quiet new.history → new.taken ≡ old.taken → new.since ≡ length old.history → TookOthers new.history new.taken → IsSound new
sound_grown old new more sound whole legal quiet same since others = record {
  legal = legal;
  quiet = quiet;
  taken = subst (All (IsTaken new.history)) (sym same) (All-weaker (IsTaken old.history) (IsTaken new.history) stays old.taken sound.taken);
  once = subst (IsDistinct (λ a b. a == b)) (sym same) sound.once;
  others = others;
  since = omega (arith, since, ap length whole, length-append old.history more);
}
  where
    stays : (n : ℕ) → IsTaken old.history n → IsTaken new.history n
    stays n is = subst (λ l. IsTaken l n) (sym whole) (record { called = is_called_kept old.history more n is.called; over = over_kept old.history more n is.called is.over })

sound_takes : (old new : KernelParts) (given : Input) → IsSound old → Takes old new given → new.taken ≡ old.taken → IsIdleFor old.history old.taken given → IsSound new
sound_takes old new given sound takes same idle =
    let grows = takes_grows old.history new.history old.moment given takes.history in
    sound_grown old new grows.more sound grows.whole (takes.legal sound.legal) takes.history.quiet same takes.since (others_grown old.history new.history given grows old.taken new.taken same sound.others idle)

-- the history stays
sound_stays : (old new : KernelParts) → IsSound old → new.history ≡ old.history → new.taken ≡ old.taken → new.since ≡ length old.history → IsSound new
sound_stays old new sound same taken since = sound_grown old new [] sound (same ∙ sym (append-nil old.history)) (subst Legal (sym same) sound.legal) (subst Quiet (sym same) sound.quiet) taken since (subst (λ H. TookOthers H new.taken) (sym same) (subst (TookOthers old.history) (sym taken) sound.others))

sound_ticks : (old new : KernelParts) (reading : ℕ) → IsSound old → Ticks old new reading → IsSound new
sound_ticks old new reading sound ticks = go (list_any (is_due_at old.history (at_moment old reading)) (numbers old.history)) ticks.history
  where
    go : (b : Bool) → MatchBool b (Settled (old.history ++ Given (input.At (at_moment old reading)) ∷ []) new.history) (new.history ≡ old.history) → IsSound new
    go false same = sound_stays old new sound same ticks.taken ticks.since
    go true settled =
        let grows = ticks_grows old.history new.history (at_moment old reading) settled in
        sound_grown old new grows.more sound grows.whole (ticks.legal sound.legal) settled.quiet ticks.taken ticks.since (others_grown old.history new.history (input.At (at_moment old reading)) grows old.taken new.taken ticks.taken sound.others tt)

-- an outcome that is to be taken is that of the last call, which is over and was not taken
given_took : (kernel : KernelParts) (thread : ℕ) (outcome : OutcomeParts) → IsSound kernel → outcome_to_take kernel thread ≡ Some outcome → IsTaken kernel.history outcome.call × (is_among outcome.call kernel.taken ≡ false)
unfolding outcome_to_take waiting
given_took kernel thread outcome sound told = live (is_live kernel.history thread) told
  where
    among : (n : ℕ) (b : Bool) → (if b then None else outcome_of kernel.history n) ≡ Some outcome → outcome.call ≡ n
    among n true h = absurd (none-some outcome h)
    among n false h = outcome_call kernel.history n outcome h

    call : (last : Option ℕ) → option_and_then (untaken_outcome kernel.history kernel.taken) last ≡ Some outcome → last ≡ Some outcome.call
    call None h = absurd (none-some outcome h)
    call (Some n) h = ap (λ k. Some k) (sym (among n (is_among n kernel.taken) h))

    live : (b : Bool) → (if b then waiting kernel.history kernel.taken thread else None) ≡ Some outcome → IsTaken kernel.history outcome.call × (is_among outcome.call kernel.taken ≡ false)
    live false h = absurd (none-some outcome h)
    live true h = took kernel.history kernel.taken thread outcome sound.legal h (call (last_call kernel.history thread) h)

sound_gives : (old : KernelParts) (thread : ℕ) (outcome : Option OutcomeParts) → IsSound old → outcome ≡ outcome_to_take old thread → IsSound (record old { taken = taken_after outcome old.taken; since = length old.history })
sound_gives old thread None sound told = record { legal = sound.legal; quiet = sound.quiet; taken = sound.taken; once = sound.once; others = sound.others; since = omega arith }
sound_gives old thread (Some outcome) sound told =
    let done = given_took old thread outcome sound (sym told) in
    record {
      legal = sound.legal;
      quiet = sound.quiet;
      taken = All-push (IsTaken old.history) old.taken outcome.call sound.taken done.0;
      once = taken_once old.taken outcome.call sound.once done.1;
      others = others_more old.history old.taken _ sound.others (λ k among. still_among k old.taken (outcome.call ∷ []) among);
      since = omega arith;
    }

-- a call is entered of a thread that has taken its last one
enter_idle : (old : KernelParts) (thread m : ℕ) (call : CallParts) → enter_refusal old thread call ≡ None → last_call old.history thread ≡ Some m → is_among m old.taken ≡ true
unfolding enter_refusal
enter_idle old thread m call none last = go (is_live old.history thread) refl (is_busy old thread) refl
  where
    go : (a : Bool) → is_live old.history thread ≡ a → (b : Bool) → is_busy old thread ≡ b → is_among m old.taken ≡ true
    go false lives b held = absurd (none-some NoThread (sym (rw lives at none)))
    go true lives true held = absurd (none-some Busy (sym (rw (lives, held) at none)))
    go true lives false held = last_taken old thread m lives held last

does_sound : (old new : KernelParts) (command : Command) (answer : Answer) → IsSound old → cause_of old command ≡ None → Does old command answer new → IsSound new
unfolding Does cause_of
does_sound old new (Open number space) (Opened thread) sound cause does = sound_takes old new _ sound does.takes does.taken tt
does_sound old new (Enter thread call) (Entered number) sound cause does = sound_takes old new _ sound does.takes does.taken (λ m last. enter_idle old thread m call cause last)
does_sound old new (Exreg thread target control) (Exchanged answer) sound cause does = sound_takes old new _ sound does.takes does.taken tt
does_sound old new (Broke thread) Done sound cause does = sound_takes old new _ sound does.takes does.taken tt
does_sound old new (At reading) Done sound cause does = sound_ticks old new reading sound does
does_sound old new Advance (Advanced Moved) sound cause does = sound_takes old new _ sound does.takes does.taken tt
does_sound old new Advance (Advanced Idle) sound cause does = sound_stays old new sound (ap (λ (k : KernelParts). k.history) does.1) (ap (λ (k : KernelParts). k.taken) does.1) (ap (λ (k : KernelParts). k.since) does.1)
does_sound old new (Take thread) (Taken outcome) sound cause does = subst IsSound (sym does.taken) (sound_gives old thread outcome sound does.outcome_is)
does_sound old new command answer sound cause does = absurd does

pub stays_sound : StaysSound
unfolding Obeys
stays_sound old command answer new sound (inr lacks) = subst IsSound (sym lacks.stays) sound
stays_sound old command answer new sound (inl obeys) = go (cause_of old command) refl obeys
  where
    go : (cause : Option Refusal) → cause_of old command ≡ cause → ObeysOr cause old command answer new → IsSound new
    go None is does = does_sound old new command answer sound is does
    go (Some refusal) is refused = subst IsSound (sym refused.1) sound

-- A thread that the last command did not finish has to take what it had to take before.
use Rattle.std.proofs.lemmas.Bool.{false≢true, ne_eqb}
use Rattle.std.proofs.lemmas.List.{take_all, take-append-le}
use Rattle.std.proofs.lemmas.List.Folds.{list_any-append}
use Rattle.std.proofs.lemmas.Option.{none-some}
use Rattle.std.proofs.Common.{◌≡◌, ℕ, List, [], ◌∷◌, ◌++◌, append-nil, length, take, Bool, true, false, not, ◌&&◌, ◌||◌, ◌==◌, eq-eqb, refl, sym, ap, ap₂, subst, ◌∙◌, Option, Some, None, option_and_then, if◌then◌else◌, inl, inr, arith}
use Rattle.std.specs.Prelude.{MatchBool}
use Rattle.std.specs.List.{list_any}
use Rattle.ipc_history.specs.Calls.{caller_of, is_called, numbers}
use Rattle.ipc_history.specs.Legal.{Legal}
use Rattle.ipc_history.specs.Outcomes.{OutcomeParts, outcome_of}
use Rattle.ipc_history.specs.Phases.{is_over}
use Rattle.ipc_history.specs.Settled.{Settled}
use Rattle.ipc_history.specs.Threads.{has_broken, is_live}
use Rattle.ipc_history.specs.Timing.{is_due_at}
use Rattle.ipc_history.specs.declared.entry.Entry.{Entry}
use Rattle.ipc_history.specs.declared.entry.Entry.TheVariants.{Given}
use Rattle.ipc_history.specs.declared.entry.Input.{Input}
use Rattle.ipc_history.specs.declared.entry.Input.TheVariants as input
use Rattle.ipc_laws.proofs.Endings.{live_unbroken}
use Rattle.ipc_laws.proofs.Growth.{caller_of_kept}
use Rattle.ipc_laws.proofs.Lasting.{outcome_kept}
use Rattle.ipc_core.specs.Effects.{Gives, Ticks}
use Rattle.ipc_core.specs.KernelParts.{KernelParts}
use Rattle.ipc_core.specs.Laws.{UnfinishedKeeps, is_take_of}
use Rattle.ipc_core.specs.Obeying.{Does, Obeys, ObeysOr, cause_of}
use Rattle.ipc_core.specs.Outcomes.{finished_from, is_among, is_finished, outcome_to_take}
use Rattle.ipc_core.specs.Steps.{Takes, at_moment, taken_after}
use Rattle.ipc_core.specs.declared.answers.Advance.TheVariants.{Moved, Idle}
use Rattle.ipc_core.specs.declared.command.Answer.{Answer}
use Rattle.ipc_core.specs.declared.command.Answer.TheVariants.{Opened, Entered, Exchanged, Done, Advanced, Taken}
use Rattle.ipc_core.specs.declared.command.Command.{Command}
use Rattle.ipc_core.specs.declared.command.Command.TheVariants.{Open, Enter, Exreg, Broke, At, Advance, Take}
use Rattle.ipc_core.specs.declared.refusal.Refusal.{Refusal}
use Rattle.ipc_desks.specs.CallsOf.{last_call, outcome_to_take as waiting}
use Rattle.ipc_desks.proofs.LastCalls.{last_is}
use Rattle.ipc_core.proofs.BusyLaws.{Keeps, does_keeps}
use Rattle.ipc_core.proofs.NewCalls.{takes_grows, ticks_grows}
use Rattle.ipc_desks.proofs.TakenDesks.{outcome_call}

-- the history goes on from where the command began, and of the thread's last call no outcome is
-- taken
record GoesOn (old new : KernelParts) (t : ℕ) : Type 0 where
  pub more : List Entry
  pub whole : new.history ≡ old.history ++ more
  pub since : new.since ≡ length old.history
  pub taken : (n : ℕ) → last_call old.history t ≡ Some n → is_among n new.taken ≡ is_among n old.taken

takes_on : (old new : KernelParts) (given : Input) (t : ℕ) → Takes old new given → new.taken ≡ old.taken → GoesOn old new t
takes_on old new given t takes same =
    let grows = takes_grows old.history new.history old.moment given takes.history in
    record { more = grows.more; whole = grows.whole; since = takes.since; taken = λ n last. ap (is_among n) same }

stays_on : (old new : KernelParts) (t : ℕ) → new.history ≡ old.history → new.since ≡ length old.history → ((n : ℕ) → last_call old.history t ≡ Some n → is_among n new.taken ≡ is_among n old.taken) → GoesOn old new t
stays_on old new t same since taken = record { more = []; whole = same ∙ sym (append-nil old.history); since = since; taken = taken }

ticks_on : (old new : KernelParts) (reading t : ℕ) → Ticks old new reading → GoesOn old new t
ticks_on old new reading t ticks = go (list_any (is_due_at old.history (at_moment old reading)) (numbers old.history)) ticks.history
  where
    go : (b : Bool) → MatchBool b (Settled (old.history ++ Given (input.At (at_moment old reading)) ∷ []) new.history) (new.history ≡ old.history) → GoesOn old new t
    go false same = stays_on old new t same ticks.since (λ n last. ap (is_among n) ticks.taken)
    go true settled = let grows = ticks_grows old.history new.history (at_moment old reading) settled in record { more = grows.more; whole = grows.whole; since = ticks.since; taken = λ n last. ap (is_among n) ticks.taken }

-- an outcome that is taken is that of its thread's last call
taken_last : (kernel : KernelParts) (thread : ℕ) (o : OutcomeParts) → outcome_to_take kernel thread ≡ Some o → last_call kernel.history thread ≡ Some o.call
unfolding outcome_to_take waiting
taken_last kernel thread o told = go (is_live kernel.history thread) (last_call kernel.history thread) refl told
  where
    go : (b : Bool) (last : Option ℕ) → last_call kernel.history thread ≡ last → (if b then option_and_then (λ n. if is_among n kernel.taken then None else outcome_of kernel.history n) last else None) ≡ Some o → last_call kernel.history thread ≡ Some o.call
    go false last e h = absurd (none-some o h)
    go true None e h = absurd (none-some o h)
    go true (Some n) e h = one (is_among n kernel.taken) h
      where
        one : (c : Bool) → (if c then None else outcome_of kernel.history n) ≡ Some o → last_call kernel.history thread ≡ Some o.call
        one true g = absurd (none-some o g)
        one false g = e ∙ ap (λ n. Some n) (sym (outcome_call kernel.history n o g))

gives_on : (old new : KernelParts) (thread t : ℕ) (outcome : Option OutcomeParts) → Legal old.history → Gives old new thread outcome → (thread == t) ≡ false → GoesOn old new t
gives_on old new thread t outcome legal gives other = stays_on old new t (ap (λ (k : KernelParts). k.history) gives.taken) (ap (λ (k : KernelParts). k.since) gives.taken) (λ n last. ap (λ (k : KernelParts). is_among n k.taken) gives.taken ∙ go outcome (sym gives.outcome_is) n last)
  where
    none : (a : Bool) → (a || (false || false)) ≡ a
    none true = refl
    none false = refl

    go : (o : Option OutcomeParts) → outcome_to_take old thread ≡ o → (n : ℕ) → last_call old.history t ≡ Some n → is_among n (taken_after o old.taken) ≡ is_among n old.taken
    go None told n last = refl
    go (Some o) told n last =
        let apart : (o.call == n) ≡ false = ne_eqb o.call n (λ same.
        let mine = (last_is old.history legal thread o.call (taken_last old thread o told)).0 in
        let own = (last_is old.history legal t n last).0 in
        false≢true (sym other ∙ eq-eqb thread t (sym mine ∙ (ap (caller_of old.history) same ∙ own)))) in
        list_any-append (λ k. k == n) old.taken (o.call ∷ []) ∙ (ap (λ b. is_among n old.taken || (b || false)) apart ∙ none (is_among n old.taken))

does_on : (old new : KernelParts) (command : Command) (answer : Answer) (t : ℕ) → Legal old.history → Does old command answer new → is_take_of t command ≡ false → GoesOn old new t
unfolding Does
does_on old new (Open number space) (Opened thread) t legal does none = takes_on old new _ t does.takes does.taken
does_on old new (Enter thread call) (Entered number) t legal does none = takes_on old new _ t does.takes does.taken
does_on old new (Exreg thread target control) (Exchanged answer) t legal does none = takes_on old new _ t does.takes does.taken
does_on old new (Broke thread) Done t legal does none = takes_on old new _ t does.takes does.taken
does_on old new (At reading) Done t legal does none = ticks_on old new reading t does
does_on old new Advance (Advanced Moved) t legal does none = takes_on old new _ t does.takes does.taken
does_on old new Advance (Advanced Idle) t legal does none = stays_on old new t (ap (λ (k : KernelParts). k.history) does.1) (ap (λ (k : KernelParts). k.since) does.1) (λ n last. ap (λ (k : KernelParts). is_among n k.taken) does.1)
does_on old new (Take thread) (Taken outcome) t legal does none = gives_on old new thread t outcome legal does none
does_on old new command answer t legal does none = absurd does

-- so what it has to take stays
module _ (old new : KernelParts) (t : ℕ) (before : Legal old.history) (after : Legal new.history) (keeps : Keeps old new t) (on : GoesOn old new t) (live : is_live new.history t ≡ true) (unfinished : is_finished new t ≡ false) where
  front : take new.since new.history ≡ old.history
  front = ap₂ (λ k l. take k l) on.since on.whole ∙ (take-append-le (length old.history) old.history on.more (omega arith) ∙ take_all (length old.history) old.history (omega arith))

  since_then : finished_from old.history new.history t ≡ false
  since_then = ap (λ l. finished_from l new.history t) (sym front) ∙ unfinished

  still_open : (n : ℕ) → last_call old.history t ≡ Some n → is_over old.history n ≡ false → is_over new.history n ≡ false
  unfolding finished_from
  still_open n last opened = only (is_over new.history n) (is_called old.history n) (rw (live, keeps.last, last, opened) at since_then)
    where
      only : (a b : Bool) → (true && (a && not (b && false))) ≡ false → a ≡ false
      only a b h = grind arith

  caller_now : (n : ℕ) → last_call old.history t ≡ Some n → caller_of new.history n ≡ t
  caller_now n last = let is = last_is old.history before t n last in ap (λ l. caller_of l n) on.whole ∙ (caller_of_kept old.history on.more n is.1 ∙ is.0)

  unbroken : (n : ℕ) → last_call old.history t ≡ Some n → has_broken new.history (caller_of new.history n) ≡ false
  unbroken n last = ap (has_broken new.history) (caller_now n last) ∙ live_unbroken new.history t live

  kept : (n : ℕ) → last_call old.history t ≡ Some n → outcome_of new.history n ≡ outcome_of old.history n
  unfolding outcome_of
  kept n last = go (is_over old.history n) refl
    where
      go : (b : Bool) → is_over old.history n ≡ b → outcome_of new.history n ≡ outcome_of old.history n
      go false opened = rw (opened, still_open n last opened) refl
      go true over = ap (λ l. outcome_of l n) on.whole ∙ outcome_kept old.history on.more (subst Legal on.whole after) n (last_is old.history before t n last).1 over (subst (λ l. has_broken l (caller_of l n) ≡ false) on.whole (unbroken n last))

  to_take : outcome_to_take new t ≡ outcome_to_take old t
  unfolding outcome_to_take waiting
  to_take = go (last_call old.history t) refl
    where
      none : (b : Bool) → ◌≡◌ {A = Option OutcomeParts} None (if b then None else None)
      none true = refl
      none false = refl

      go : (o : Option ℕ) → last_call old.history t ≡ o → outcome_to_take new t ≡ outcome_to_take old t
      go None e = rw (live, keeps.last, e) (none (is_live old.history t))
      go (Some n) e = rw (live, keeps.last, e, keeps.live n e live, on.taken n e, kept n e) refl

pub unfinished_keeps : UnfinishedKeeps
unfolding Obeys
unfinished_keeps old command answer new before after (inr lacks) thread no_call no_take live unfinished = ap (λ k. outcome_to_take k thread) lacks.stays
unfinished_keeps old command answer new before after (inl obeys) thread no_call no_take live unfinished = go (cause_of old command) obeys
  where
    go : (cause : Option Refusal) → ObeysOr cause old command answer new → outcome_to_take new thread ≡ outcome_to_take old thread
    go None does = to_take old new thread before.legal after.legal (does_keeps old new command answer thread before.legal after.legal does no_call) (does_on old new command answer thread before.legal does no_take) live unfinished
    go (Some refusal) refused = ap (λ k. outcome_to_take k thread) refused.1

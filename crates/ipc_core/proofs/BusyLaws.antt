-- Which threads are busy after a command.
use Rattle.std.proofs.Common.{◌≡◌, ℕ, suc, ◌+◌, ◌≤◌, List, [], ◌∷◌, ◌++◌, map, Bool, true, false, not, ◌&&◌, ◌||◌, ◌==◌, eq-eqb, eqb-true, cond, count_by, refl, sym, ap, subst, ◌∙◌, append_assoc, Option, Some, None, is_some, inl, inr, arith}
use Rattle.std.specs.Prelude.{All, MatchBool, nat_lt, option_and_then, if◌then◌else◌}
use Rattle.std.specs.List.{list_any}
use Rattle.std.specs.Option.{option_map_or, option_or}
use Rattle.std.proofs.lemmas.Bool.{false≢true, false_from_ne_true}
use Rattle.std.proofs.lemmas.List.Folds.{list_any-append}
use Rattle.std.proofs.lemmas.List.Sums.{sum_by-append, sum_by-cons}
use Rattle.ipc_history.specs.Calls.{caller_of, numbers}
use Rattle.ipc_history.specs.Entries.{breaks, opens}
use Rattle.ipc_history.specs.CallParts.{CallParts}
use Rattle.ipc_history.specs.Legal.{Legal, Follows}
use Rattle.ipc_history.specs.Outcomes.{OutcomeParts, outcome_of}
use Rattle.ipc_history.specs.Phases.{is_over, open_call}
use Rattle.ipc_history.specs.Settled.{Settled}
use Rattle.ipc_history.specs.Threads.{has_broken, is_live, now, was_opened}
use Rattle.ipc_history.specs.Timing.{is_due_at}
use Rattle.ipc_history.specs.Words.{last_some}
use Rattle.ipc_history.specs.declared.entry.Entry.{Entry}
use Rattle.ipc_history.specs.declared.entry.Entry.TheVariants.{Given, Written}
use Rattle.ipc_history.specs.declared.entry.Input.{Input}
use Rattle.ipc_history.specs.declared.entry.Input.TheVariants as input
use Rattle.ipc_history.specs.declared.entry.Output.{Output}
use Rattle.ipc_laws.proofs.Histories.{follows_last, legal_front}
use Rattle.ipc_laws.proofs.Numbering.{called_below, entered}
use Rattle.ipc_laws.proofs.OneOpen.{free_parts}
use Rattle.ipc_laws.proofs.ThreadChanges.{is_live_push}
use Rattle.ipc_laws.proofs.OpenCalls.{caller_lives, caller_opened}
use Rattle.ipc_laws.proofs.OneLive.{opened_once}
use Rattle.ipc_laws.proofs.Places.{any_place}
use Rattle.ipc_laws.proofs.Tests.{left, not_both, refuted, right}
use Rattle.ipc_laws.proofs.Finds.{find_passes}
use Rattle.ipc_laws.specs.Laws.{one_if}
use Rattle.ipc_core.specs.Effects.{Ticks}
use Rattle.ipc_core.specs.KernelParts.{KernelParts}
use Rattle.ipc_core.specs.Laws.{EnteredIsBusy, IsSound, StaysIdle, TakenIsIdle, is_call_of}
use Rattle.ipc_core.specs.Obeying.{Does, MayObey, Obeys, ObeysOr, cause_of}
use Rattle.ipc_core.specs.Outcomes.{IsTaken, has_untaken, is_among, is_busy, made_by, outcome_to_take, taken_by}
use Rattle.ipc_core.specs.Steps.{Takes, at_if_later, at_moment, taken_after, with_input}
use Rattle.ipc_core.specs.declared.answers.Advance.TheVariants.{Moved, Idle}
use Rattle.ipc_core.specs.declared.command.Answer.{Answer}
use Rattle.ipc_core.specs.declared.command.Answer.TheVariants.{Opened, Entered, Exchanged, Done, Advanced, Taken}
use Rattle.ipc_core.specs.declared.command.Command.{Command}
use Rattle.ipc_core.specs.declared.command.Command.TheVariants.{Open, Enter, Exreg, Broke, At, Advance, Take}
use Rattle.ipc_core.specs.declared.refusal.Refusal.{Refusal}
use Rattle.ipc_desks.specs.CallsOf.{is_busy as waits, made_by as made_of, taken_by as taken_of, last_call, number_by, outcome_to_take as waiting}
use Rattle.ipc_desks.proofs.LastCalls.{last_is, last_push, open_is_last}
use Rattle.ipc_desks.proofs.TakenDesks.{outcome_call}

-- Busy threads

-- a call that was taken is over
all_among : (H : List Entry) (taken : List ℕ) (n : ℕ) → All (IsTaken H) taken → is_among n taken ≡ true → IsTaken H n
all_among H [] n all among = absurd (false≢true among)
all_among H (k ∷ taken) n all among = go (k == n) refl (all_among H taken n (λ i d within. all (suc i) d (omega (arith, within)))) among
  where
    go : (b : Bool) → (k == n) ≡ b → (is_among n taken ≡ true → IsTaken H n) → (b || is_among n taken) ≡ true → IsTaken H n
    go true e later h = subst (IsTaken H) (eqb-true k n e) (all 0 0 (omega arith))
    go false e later h = later h

-- an open call was not taken, and its caller lives
open_untaken : (kernel : KernelParts) (thread n : ℕ) → IsSound kernel → open_call kernel.history thread ≡ Some n → has_untaken kernel thread ≡ true
unfolding open_call has_untaken waits
open_untaken kernel thread n sound e = rw (live, last, fresh) refl
  where
    passes : ((caller_of kernel.history n == thread) && not (is_over kernel.history n)) ≡ true
    passes = find_passes (λ n. (caller_of kernel.history n == thread) && not (is_over kernel.history n)) n (numbers kernel.history) e

    caller : caller_of kernel.history n ≡ thread
    caller = eqb-true (caller_of kernel.history n) thread (left (caller_of kernel.history n == thread) (not (is_over kernel.history n)) passes)

    running : is_over kernel.history n ≡ false
    running = refuted (is_over kernel.history n) (right (caller_of kernel.history n == thread) (not (is_over kernel.history n)) passes)

    live : is_live kernel.history thread ≡ true
    live = ap (is_live kernel.history) (sym caller) ∙ caller_lives kernel.history sound.legal n running

    last : last_call kernel.history thread ≡ Some n
    last = ap (last_call kernel.history) (sym caller) ∙ open_is_last kernel.history sound.legal n running

    fresh : is_among n kernel.taken ≡ false
    fresh = false_from_ne_true (is_among n kernel.taken) (λ among. not_both (all_among kernel.history kernel.taken n sound.taken among).over running)

-- a thread is busy where it has a call that was not taken
pub busy_is : (kernel : KernelParts) (thread : ℕ) → IsSound kernel → is_busy kernel thread ≡ has_untaken kernel thread
unfolding is_busy
busy_is kernel thread sound = go (open_call kernel.history thread) refl
  where
    go : (o : Option ℕ) → open_call kernel.history thread ≡ o → (is_some (open_call kernel.history thread) || has_untaken kernel thread) ≡ has_untaken kernel thread
    go None e = rw e refl
    go (Some n) e = rw e (sym (open_untaken kernel thread n sound e))

-- so every call of a thread that is not busy was taken, if it made one
pub last_taken : (kernel : KernelParts) (thread m : ℕ) → is_live kernel.history thread ≡ true → is_busy kernel thread ≡ false → last_call kernel.history thread ≡ Some m → is_among m kernel.taken ≡ true
unfolding is_busy has_untaken waits
last_taken kernel thread m live idle last = go (is_some (open_call kernel.history thread)) (is_among m kernel.taken) (rw (live, last) at idle)
  where
    go : (a b : Bool) → (a || not b) ≡ false → b ≡ true
    go a b h = grind arith

-- who lives and is not busy has nothing that was not taken
pub not_waiting : (kernel : KernelParts) (thread : ℕ) → is_live kernel.history thread ≡ true → is_busy kernel thread ≡ false → waits kernel.history kernel.taken thread ≡ false
unfolding is_busy has_untaken
not_waiting kernel thread live idle = go (is_some (open_call kernel.history thread)) (waits kernel.history kernel.taken thread) (rw live at idle)
  where
    go : (a b : Bool) → (a || b) ≡ false → b ≡ false
    go a b h = grind arith

-- how many of its calls a thread has taken
pub counted_live : (kernel : KernelParts) → ((t : ℕ) → taken_of kernel.history kernel.taken t + one_if (waits kernel.history kernel.taken t) ≡ made_of kernel.history t) → (t : ℕ) → taken_by kernel t + one_if (has_untaken kernel t) ≡ made_by kernel.history t
unfolding made_by taken_by has_untaken
counted_live kernel counted t = go (is_live kernel.history t) refl
  where
    go : (b : Bool) → is_live kernel.history t ≡ b → (if is_live kernel.history t then taken_of kernel.history kernel.taken t else 0) + one_if (is_live kernel.history t && waits kernel.history kernel.taken t) ≡ (if is_live kernel.history t then made_of kernel.history t else 0)
    go true is = rw is (counted t)
    go false is = rw is refl

-- What a command adds

-- entries behind which a thread has the last call that it had before
pub no_call : (P Q : List Entry) (t : ℕ) → last_some (number_by t) Q ≡ None → last_call (P ++ Q) t ≡ last_call P t
unfolding last_call
no_call [] Q t none = none
no_call (e ∷ P) Q t none = ap (λ o. option_or o (number_by t e)) (no_call P Q t none)

pub outputs_call : (outputs : List Output) (t : ℕ) → last_some (number_by t) (map Written outputs) ≡ None
outputs_call [] t = refl
outputs_call (output ∷ outputs) t = ap (λ o. option_or o None) (outputs_call outputs t)

pub clock_call : (H : List Entry) (moment t : ℕ) → last_some (number_by t) (at_if_later H moment) ≡ None
clock_call H moment t = go (nat_lt (now H) moment) refl
  where
    go : (b : Bool) → nat_lt (now H) moment ≡ b → last_some (number_by t) (at_if_later H moment) ≡ None
    go true e = rw e refl
    go false e = rw e refl

outputs_open : (outputs : List Output) (t : ℕ) → list_any (opens t) (map Written outputs) ≡ false
outputs_open [] t = refl
outputs_open (output ∷ outputs) t = outputs_open outputs t

clock_opens : (H : List Entry) (moment t : ℕ) → list_any (opens t) (at_if_later H moment) ≡ false
clock_opens H moment t = go (nat_lt (now H) moment) refl
  where
    go : (b : Bool) → nat_lt (now H) moment ≡ b → list_any (opens t) (at_if_later H moment) ≡ false
    go true e = rw e refl
    go false e = rw e refl

-- a thread that is live behind entries that do not open it was live before
lived : (P Q : List Entry) (t : ℕ) → list_any (opens t) Q ≡ false → is_live (P ++ Q) t ≡ true → is_live P t ≡ true
unfolding is_live was_opened has_broken
lived P Q t none live = go (list_any (opens t) P) (list_any (breaks t) P) (list_any (breaks t) Q) (rw (list_any-append (opens t) P Q, list_any-append (breaks t) P Q, none) at live)
  where
    go : (a b c : Bool) → ((a || false) && not (b || c)) ≡ true → (a && not b) ≡ true
    go true true c h = h
    go true false c h = refl
    go false b c h = absurd (false≢true h)

-- what stays, or falls, of a thread by a command that is not a call of it
pub record Keeps (old new : KernelParts) (t : ℕ) : Type 0 where
  pub last : last_call new.history t ≡ last_call old.history t
  pub taken : (n : ℕ) → is_among n old.taken ≡ true → is_among n new.taken ≡ true
  pub live : (n : ℕ) → last_call old.history t ≡ Some n → is_live new.history t ≡ true → is_live old.history t ≡ true

-- how many elements pass, where one does, and where another one does behind it
counts_one : (p : Entry → Bool) (P : List Entry) → list_any p P ≡ true → 1 ≤ count_by p P
counts_one p P some =
    let q = any_place p P some in
    let here : ◌≡◌ {A = ℕ} (cond (p q.0) 1 0) 1 = rw q.2 refl in
    rw q.1.whole (omega (arith, sum_by-append (λ e. cond (p e) 1 0) q.1.front (q.0 ∷ q.1.rest), sum_by-cons (λ e. cond (p e) 1 0) q.0 q.1.rest, here))

pub counts_two : (p : Entry → Bool) (P rest : List Entry) (e : Entry) → list_any p P ≡ true → p e ≡ true → 2 ≤ count_by p (P ++ e ∷ rest)
counts_two p P rest e some passes =
    let first = counts_one p P some in
    let second : ◌≡◌ {A = ℕ} (cond (p e) 1 0) 1 = rw passes refl in
    omega (arith, first, second, sum_by-append (λ e. cond (p e) 1 0) P (e ∷ rest), sum_by-cons (λ e. cond (p e) 1 0) e rest)

module _ (old new : KernelParts) (t : ℕ) (same : (n : ℕ) → is_among n old.taken ≡ true → is_among n new.taken ≡ true) where
  settled_last : (P : List Entry) → Settled P new.history → last_call new.history t ≡ last_call P t
  settled_last P settled = ap (λ H. last_call H t) settled.appended ∙ no_call P (map Written settled.outputs) t (outputs_call settled.outputs t)

  settled_live : (P : List Entry) → Settled P new.history → is_live new.history t ≡ true → is_live P t ≡ true
  settled_live P settled live = lived P (map Written settled.outputs) t (outputs_open settled.outputs t) (subst (λ H. is_live H t ≡ true) settled.appended live)

  takes_last : (given : Input) → Takes old new given → number_by t (Given given) ≡ None → last_call new.history t ≡ last_call old.history t
  takes_last given takes none =
      settled_last (with_input old.history old.moment given) takes.history
      ∙ (no_call (old.history ++ at_if_later old.history old.moment) (Given given ∷ []) t none ∙ no_call old.history (at_if_later old.history old.moment) t (clock_call old.history old.moment t))

  takes_keeps : (given : Input) → Takes old new given → number_by t (Given given) ≡ None → list_any (opens t) (Given given ∷ []) ≡ false → Keeps old new t
  takes_keeps given takes none unopened = record {
    last = takes_last given takes none;
    taken = same;
    live = λ n last live. lived old.history (at_if_later old.history old.moment) t (clock_opens old.history old.moment t) (lived (old.history ++ at_if_later old.history old.moment) (Given given ∷ []) t unopened (settled_live (with_input old.history old.moment given) takes.history live));
  }

  -- a thread that is opened made no call before
  opens_keeps : (thread space : ℕ) → Legal old.history → Legal new.history → Takes old new (input.Opened thread space) → Keeps old new t
  unfolding was_opened
  opens_keeps thread space before legal takes = go (thread == t) refl
    where
      go : (b : Bool) → (thread == t) ≡ b → Keeps old new t
      go false e = takes_keeps (input.Opened thread space) takes refl (rw e refl)
      go true e = record {
        last = takes_last (input.Opened thread space) takes refl;
        taken = same;
        live = λ n last live. absurd (twice n last);
      }
        where
          is : thread ≡ t
          is = eqb-true thread t e

          twice : (n : ℕ) → last_call old.history t ≡ Some n → ⊥
          twice n last =
              let opened : was_opened old.history t ≡ true = ap (was_opened old.history) (sym (last_is old.history before t n last).0) ∙ caller_opened old.history before n (last_is old.history before t n last).1 in
              let front : List Entry = old.history ++ at_if_later old.history old.moment in
              let rest : List Entry = map Written takes.history.outputs in
              let whole : new.history ≡ front ++ Given (input.Opened thread space) ∷ rest = takes.history.appended ∙ append_assoc front (Given (input.Opened thread space) ∷ []) rest in
              let some : list_any (opens t) front ≡ true = list_any-append (opens t) old.history (at_if_later old.history old.moment) ∙ rw opened refl in
              let two = counts_two (opens t) front rest (Given (input.Opened thread space)) some e in
              let once : count_by (opens t) (front ++ Given (input.Opened thread space) ∷ rest) ≤ 1 = subst (λ H. count_by (opens t) H ≤ 1) whole (opened_once new.history legal t) in
              omega (arith, two, once)

  same_keeps : new.history ≡ old.history → Keeps old new t
  same_keeps whole = record { last = ap (λ H. last_call H t) whole; taken = same; live = λ n last live. subst (λ H. is_live H t ≡ true) whole live }

ticks_keeps : (old new : KernelParts) (reading t : ℕ) → Ticks old new reading → Keeps old new t
ticks_keeps old new reading t ticks = go (list_any (is_due_at old.history (at_moment old reading)) (numbers old.history)) ticks.history
  where
    same : (n : ℕ) → is_among n old.taken ≡ true → is_among n new.taken ≡ true
    same n among = ap (is_among n) ticks.taken ∙ among

    go : (b : Bool) → MatchBool b (Settled (old.history ++ Given (input.At (at_moment old reading)) ∷ []) new.history) (new.history ≡ old.history) → Keeps old new t
    go false whole = same_keeps old new t same whole
    go true settled = record {
      last = settled_last old new t same _ settled ∙ no_call old.history (Given (input.At (at_moment old reading)) ∷ []) t refl;
      taken = same;
      live = λ n last live. lived old.history (Given (input.At (at_moment old reading)) ∷ []) t refl (settled_live old new t same _ settled live);
    }

-- the outcomes that were taken stay taken
pub still_among : (n : ℕ) (taken more : List ℕ) → is_among n taken ≡ true → is_among n (taken ++ more) ≡ true
still_among n taken more among = list_any-append (λ k. k == n) taken more ∙ rw among refl

gives_taken : (n : ℕ) (taken : List ℕ) (outcome : Option OutcomeParts) → is_among n taken ≡ true → is_among n (taken_after outcome taken) ≡ true
gives_taken n taken None among = among
gives_taken n taken (Some outcome) among = still_among n taken (outcome.call ∷ []) among

pub does_keeps : (old new : KernelParts) (command : Command) (answer : Answer) (t : ℕ) → Legal old.history → Legal new.history → Does old command answer new → is_call_of t command ≡ false → Keeps old new t
unfolding Does
does_keeps old new (Open number space) (Opened thread) t before legal does none = opens_keeps old new t (λ n among. ap (is_among n) does.taken ∙ among) thread space before legal does.takes
does_keeps old new (Enter thread call) (Entered number) t before legal does none = takes_keeps old new t (λ n among. ap (is_among n) does.taken ∙ among) _ does.takes (rw none refl) refl
does_keeps old new (Exreg thread target control) (Exchanged answer) t before legal does none = takes_keeps old new t (λ n among. ap (is_among n) does.taken ∙ among) _ does.takes refl refl
does_keeps old new (Broke thread) Done t before legal does none = takes_keeps old new t (λ n among. ap (is_among n) does.taken ∙ among) _ does.takes refl refl
does_keeps old new (At reading) Done t before legal does none = ticks_keeps old new reading t does
does_keeps old new Advance (Advanced Moved) t before legal does none = takes_keeps old new t (λ n among. ap (is_among n) does.taken ∙ among) _ does.takes refl refl
does_keeps old new Advance (Advanced Idle) t before legal does none = same_keeps old new t (λ n among. ap (λ (k : KernelParts). is_among n k.taken) does.1 ∙ among) (ap (λ (k : KernelParts). k.history) does.1)
does_keeps old new (Take thread) (Taken outcome) t before legal does none = same_keeps old new t (λ n among. ap (λ (k : KernelParts). is_among n k.taken) does.taken ∙ gives_taken n old.taken outcome among) (ap (λ (k : KernelParts). k.history) does.taken)
does_keeps old new command answer t before legal does none = absurd does

keeps_by : (old : KernelParts) (command : Command) (answer : Answer) (new : KernelParts) (t : ℕ) → Legal old.history → Legal new.history → MayObey old command answer new → is_call_of t command ≡ false → Keeps old new t
unfolding Obeys
keeps_by old command answer new t before legal (inr lacks) none = same_keeps old new t (λ n among. ap (λ (k : KernelParts). is_among n k.taken) lacks.stays ∙ among) (ap (λ (k : KernelParts). k.history) lacks.stays)
keeps_by old command answer new t before legal (inl obeys) none = go (cause_of old command) obeys
  where
    go : (cause : Option Refusal) → ObeysOr cause old command answer new → Keeps old new t
    go None does = does_keeps old new command answer t before legal does none
    go (Some refusal) refused = same_keeps old new t (λ n among. ap (λ (k : KernelParts). is_among n k.taken) refused.1 ∙ among) (ap (λ (k : KernelParts). k.history) refused.1)

-- a thread that is not busy is not busy after a command that is not a call of it
untaken_stays : (old new : KernelParts) (t : ℕ) → Keeps old new t → has_untaken old t ≡ false → has_untaken new t ≡ false
unfolding has_untaken waits
untaken_stays old new t keeps idle = go (last_call old.history t) refl (is_live new.history t) refl
  where
    go : (last : Option ℕ) → last_call old.history t ≡ last → (b : Bool) → is_live new.history t ≡ b → (is_live new.history t && option_map_or (λ n. not (is_among n new.taken)) (last_call new.history t) false) ≡ false
    go last e false f = rw f refl
    go None e true f = rw (f, keeps.last, e) refl
    go (Some n) e true f =
        let live = keeps.live n e f in
        let among : not (is_among n old.taken) ≡ false = rw (live, e) at idle in
        rw (f, keeps.last, e) (taken (is_among n old.taken) refl among)
      where
        taken : (b : Bool) → is_among n old.taken ≡ b → not b ≡ false → not (is_among n new.taken) ≡ false
        taken true g h = rw (keeps.taken n g) refl
        taken false g h = absurd (false≢true (sym h))

pub idle_stays : StaysIdle
idle_stays old command answer new before after obeys t none idle = busy_is new t after ∙ untaken_stays old new t (keeps_by old command answer new t before.legal after.legal obeys none) (sym (busy_is old t before) ∙ idle)

-- a thread whose outcome was taken is not busy
pub taken_is_idle : TakenIsIdle
unfolding has_untaken outcome_to_take waits waiting
taken_is_idle kernel new thread since outcome sound told is = busy_is new thread sound ∙ (ap (λ k. has_untaken k thread) is ∙ go (is_live kernel.history thread) (last_call kernel.history thread) told)
  where
    go : (b : Bool) (last : Option ℕ) → (if b then option_and_then (λ n. if is_among n kernel.taken then None else outcome_of kernel.history n) last else None) ≡ Some outcome → (b && option_map_or (λ n. not (is_among n (kernel.taken ++ outcome.call ∷ []))) last false) ≡ false
    go false last h = refl
    go true None h = refl
    go true (Some n) h = inner (is_among n kernel.taken) h
      where
        inner : (c : Bool) → (if c then None else outcome_of kernel.history n) ≡ Some outcome → not (is_among n (kernel.taken ++ outcome.call ∷ [])) ≡ false
        inner true i = absurd cc
        inner false i =
            let call = outcome_call kernel.history n outcome i in
            let last : (outcome.call == n) ≡ true = eq-eqb outcome.call n call in
            let among : is_among n (kernel.taken ++ outcome.call ∷ []) ≡ true = list_any-append (λ k. k == n) kernel.taken (outcome.call ∷ []) ∙ either (is_among n kernel.taken) (outcome.call == n) last in
            rw among refl
          where
            either : (a b : Bool) → b ≡ true → (a || (b || false)) ≡ true
            either true b e = refl
            either false true e = refl
            either false false e = absurd (false≢true e)

-- A thread whose call was entered is busy

pub outputs_break : (outputs : List Output) (t : ℕ) → list_any (breaks t) (map Written outputs) ≡ false
outputs_break [] t = refl
outputs_break (output ∷ outputs) t = outputs_break outputs t

lives_on : (P Q : List Entry) (t : ℕ) → list_any (opens t) Q ≡ false → list_any (breaks t) Q ≡ false → is_live (P ++ Q) t ≡ is_live P t
unfolding is_live was_opened has_broken
lives_on P Q t unopened unbroken = rw (list_any-append (opens t) P Q, list_any-append (breaks t) P Q, unopened, unbroken) (either (list_any (opens t) P) (list_any (breaks t) P))
  where
    either : (a b : Bool) → ((a || false) && not (b || false)) ≡ (a && not b)
    either a b = grind arith

entered_lives : (P : List Entry) (number thread : ℕ) (call : CallParts) → Follows P (Given (input.Called number thread call)) → is_live (P ++ Given (input.Called number thread call) ∷ []) thread ≡ true
unfolding Follows
entered_lives P number thread call follows = is_live_push P (Given (input.Called number thread call)) thread refl refl ∙ (free_parts P thread (entered P number thread call follows.1).0).0

pub entered_is_busy : EnteredIsBusy
unfolding has_untaken waits
entered_is_busy old new number thread call before after enters = busy_is new thread after ∙ rw (live, last, fresh) refl
  where
    front : List Entry
    front = old.history ++ at_if_later old.history old.moment

    outputs : List Entry
    outputs = map Written enters.takes.history.outputs

    legal : Legal (front ++ Given (input.Called number thread call) ∷ [])
    legal = legal_front (front ++ Given (input.Called number thread call) ∷ []) outputs (subst Legal enters.takes.history.appended after.legal)

    live : is_live new.history thread ≡ true
    live = ap (λ H. is_live H thread) enters.takes.history.appended ∙ (lives_on (front ++ Given (input.Called number thread call) ∷ []) outputs thread (outputs_open enters.takes.history.outputs thread) (outputs_break enters.takes.history.outputs thread) ∙ entered_lives front number thread call (follows_last front (Given (input.Called number thread call)) legal))

    last : last_call new.history thread ≡ Some number
    last = ap (λ H. last_call H thread) enters.takes.history.appended ∙ (no_call (front ++ Given (input.Called number thread call) ∷ []) outputs thread (outputs_call enters.takes.history.outputs thread) ∙ (last_push front (Given (input.Called number thread call)) thread ∙ rw (eq-eqb thread thread refl) refl))

    fresh : is_among number new.taken ≡ false
    fresh = false_from_ne_true (is_among number new.taken) (λ among.
        let was = all_among old.history old.taken number before.taken (ap (is_among number) (sym enters.taken) ∙ among) in
        let below = called_below old.history before.legal number was.called in
        omega (arith, below, enters.number_is))

-- Which threads are live after a command.
use Rattle.std.proofs.Common.{◌≡◌, ◌≢◌, List, [], ◌∷◌, ◌++◌, ℕ, ◌<◌, Bool, true, false, not, ◌&&◌, ◌||◌, ◌==◌, eq-eqb, refl, sym, ap, ◌∙◌, subst, append_assoc, Option, Some, None, is_none, inl, inr, map, arith}
use Rattle.std.specs.Prelude.{nat_lt, MatchBool, if◌then◌else◌}
use Rattle.std.specs.List.{list_any}
use Rattle.std.proofs.lemmas.Bool.{false≢true, ltb-false}
use Rattle.std.proofs.lemmas.List.Folds.{list_any-append}
use Rattle.ipc_words.specs.Limits.{max_space, max_thread_number, table_slots}
use Rattle.ipc_words.specs.ThreadId.{number_of}
use Rattle.ipc_history.specs.Calls.{numbers}
use Rattle.ipc_history.specs.Entries.{breaks, opens}
use Rattle.ipc_history.specs.Threads.{has_broken, is_live, is_taken, next_version, now, was_opened}
use Rattle.ipc_history.specs.Timing.{is_due_at}
use Rattle.ipc_history.specs.Settled.{Settled}
use Rattle.ipc_history.specs.declared.entry.Entry.{Entry}
use Rattle.ipc_history.specs.declared.entry.Entry.TheVariants.{Given, Written}
use Rattle.ipc_history.specs.declared.entry.Input.{Input}
use Rattle.ipc_history.specs.declared.entry.Input.TheVariants as input
use Rattle.ipc_laws.proofs.Endings.{live_opened}
use Rattle.ipc_laws.proofs.LiveThreads.{taken}
use Rattle.ipc_laws.proofs.Places.{Place, any_at}
use Rattle.ipc_laws.proofs.Tests.{not_both}
use Rattle.ipc_core.specs.KernelParts.{KernelParts}
use Rattle.ipc_core.specs.Effects.{Ticks}
use Rattle.ipc_core.specs.Steps.{Opens, Takes, at_if_later, at_moment, with_input}
use Rattle.ipc_core.specs.Laws.{IsSound}
use Rattle.ipc_core.specs.Obeying.{Does, MayObey, Obeys, ObeysOr, cause_of}
use Rattle.ipc_core.specs.Refusals.{open_refusal}
use Rattle.ipc_core.specs.Room.{is_full, open_need}
use Rattle.ipc_core.specs.declared.answers.Advance.TheVariants.{Moved, Idle}
use Rattle.ipc_core.specs.declared.command.Answer.{Answer}
use Rattle.ipc_core.specs.declared.command.Answer.TheVariants.{Opened, Entered, Exchanged, Done, Advanced, Taken}
use Rattle.ipc_core.specs.declared.command.Command.{Command}
use Rattle.ipc_core.specs.declared.command.Command.TheVariants.{Open, Enter, Exreg, Broke, At, Advance, Take}
use Rattle.ipc_core.specs.declared.refusal.Refusal.{Refusal}
use Rattle.ipc_core.specs.declared.refusal.Refusal.TheVariants.{BadNumber, NumberTaken, NumberWorn, HistoryFull}
use Rattle.ipc_exchange.proofs.Opening.{unbroken}
use Rattle.ipc_core.proofs.BusyLaws.{outputs_break}

-- entries that break no thread leave it live
pub live_more : (P Q : List Entry) (t : ℕ) → list_any (breaks t) Q ≡ false → is_live P t ≡ true → is_live (P ++ Q) t ≡ true
unfolding is_live was_opened has_broken
live_more P Q t none live = rw (list_any-append (opens t) P Q, list_any-append (breaks t) P Q, none) (go (list_any (opens t) P) (list_any (breaks t) P) (list_any (opens t) Q) live)
  where
    go : (a b c : Bool) → (a && not b) ≡ true → ((a || c) && not (b || false)) ≡ true
    go true false c h = refl
    go true true c h = h
    go false b c h = absurd (false≢true h)

clock_breaks : (H : List Entry) (moment t : ℕ) → list_any (breaks t) (at_if_later H moment) ≡ false
clock_breaks H moment t = go (nat_lt (now H) moment) refl
  where
    go : (b : Bool) → nat_lt (now H) moment ≡ b → list_any (breaks t) (at_if_later H moment) ≡ false
    go true e = rw e refl
    go false e = rw e refl

settled_live : (P Q : List Entry) (t : ℕ) → Settled P Q → is_live P t ≡ true → is_live Q t ≡ true
settled_live P Q t settled live = subst (λ l. is_live l t ≡ true) (sym settled.appended) (live_more P (map Written settled.outputs) t (outputs_break settled.outputs t) live)

one_breaks : (t : ℕ) (e : Entry) → breaks t e ≡ false → list_any (breaks t) (e ∷ []) ≡ false
one_breaks t e h = rw h refl

takes_live : (old new : KernelParts) (given : Input) (t : ℕ) → Takes old new given → breaks t (Given given) ≡ false → is_live old.history t ≡ true → is_live new.history t ≡ true
takes_live old new given t takes none live =
    let clock = live_more old.history (at_if_later old.history old.moment) t (clock_breaks old.history old.moment t) live in
    settled_live (with_input old.history old.moment given) new.history t takes.history
    (live_more (old.history ++ at_if_later old.history old.moment) (Given given ∷ []) t (one_breaks t (Given given) none) clock)

ticks_live : (old new : KernelParts) (reading t : ℕ) → Ticks old new reading → is_live old.history t ≡ true → is_live new.history t ≡ true
ticks_live old new reading t ticks live = go (list_any (is_due_at old.history (at_moment old reading)) (numbers old.history)) ticks.history
  where
    go : (b : Bool) → MatchBool b (Settled (old.history ++ Given (input.At (at_moment old reading)) ∷ []) new.history) (new.history ≡ old.history) → is_live new.history t ≡ true
    go true settled = settled_live _ new.history t settled (live_more old.history (Given (input.At (at_moment old reading)) ∷ []) t refl live)
    go false same = subst (λ l. is_live l t ≡ true) (sym same) live

-- the command ends the thread
abbrev pub is_break_of : ℕ → Command → Bool
is_break_of t (Broke thread) = thread == t
is_break_of t _ = false

same_live : (old new : KernelParts) (t : ℕ) → new.history ≡ old.history → is_live old.history t ≡ true → is_live new.history t ≡ true
same_live old new t same live = subst (λ l. is_live l t ≡ true) (sym same) live

does_live : (old new : KernelParts) (command : Command) (answer : Answer) (t : ℕ) → Does old command answer new → is_break_of t command ≡ false → is_live old.history t ≡ true → is_live new.history t ≡ true
unfolding Does
does_live old new (Open number space) (Opened thread) t does none live = takes_live old new _ t does.takes refl live
does_live old new (Enter thread call) (Entered number) t does none live = takes_live old new _ t does.takes refl live
does_live old new (Exreg thread target control) (Exchanged answer) t does none live = takes_live old new _ t does.takes refl live
does_live old new (Broke thread) Done t does none live = takes_live old new _ t does.takes none live
does_live old new (At reading) Done t does none live = ticks_live old new reading t does live
does_live old new Advance (Advanced Moved) t does none live = takes_live old new _ t does.takes refl live
does_live old new Advance (Advanced Idle) t does none live = same_live old new t (ap (λ (k : KernelParts). k.history) does.1) live
does_live old new (Take thread) (Taken outcome) t does none live = same_live old new t (ap (λ (k : KernelParts). k.history) does.taken) live
does_live old new command answer t does none live = absurd does

-- a thread is live after each command but its break
pub live_stays : (old new : KernelParts) (command : Command) (answer : Answer) (t : ℕ) → MayObey old command answer new → is_break_of t command ≡ false → is_live old.history t ≡ true → is_live new.history t ≡ true
unfolding Obeys
live_stays old new command answer t (inr lacks) none live = same_live old new t (ap (λ (k : KernelParts). k.history) lacks.stays) live
live_stays old new command answer t (inl obeys) none live = go (cause_of old command) obeys
  where
    go : (cause : Option Refusal) → ObeysOr cause old command answer new → is_live new.history t ≡ true
    go None does = does_live old new command answer t does none live
    go (Some refusal) refused = same_live old new t (ap (λ (k : KernelParts). k.history) refused.1) live

-- a number that may be opened is within the limit, and has no live thread
record MayOpen (kernel : KernelParts) (number : ℕ) : Type 0 where
  pub within : number < table_slots
  pub free : is_taken kernel.history number ≡ false

may_open : (kernel : KernelParts) (number space : ℕ) → open_refusal kernel number space ≡ None → MayOpen kernel number
unfolding open_refusal
may_open kernel number space none = go (nat_lt number 1) (nat_lt max_thread_number number) (nat_lt space 1) (nat_lt max_space space) (is_taken kernel.history number) refl refl none
  where
    go : (a b c d e : Bool) → nat_lt max_thread_number number ≡ b → is_taken kernel.history number ≡ e → (if a || b || c || d then Some BadNumber else (if e then Some NumberTaken else (if is_none (next_version kernel.history number) then Some NumberWorn else (if is_full kernel open_need then Some HistoryFull else None)))) ≡ None → MayOpen kernel number
    go false false false false false f g h = let le = ltb-false max_thread_number number f in record { within = omega arith; free = g }
    go true b c d e f g h = absurd cc
    go false true c d e f g h = absurd cc
    go false false true d e f g h = absurd cc
    go false false false true e f g h = absurd cc
    go false false false false true f g h = absurd cc

-- what an open that was accepted opened
pub record HasOpened (old new : KernelParts) (number thread : ℕ) : Type 0 where
  pub number_is : number_of thread ≡ number
  pub within : number < table_slots
  pub live : is_live new.history thread ≡ true
  pub alone : (other : ℕ) → is_live old.history other ≡ true → number_of other ≢ number

opens_live : (old new : KernelParts) (number space thread : ℕ) → IsSound new → Opens old new number space thread → is_live new.history thread ≡ true
unfolding is_live was_opened has_broken
opens_live old new number space thread sound does =
    let front : List Entry = old.history ++ at_if_later old.history old.moment in
    let rest : List Entry = map Written does.takes.history.outputs in
    let whole : new.history ≡ front ++ Given (input.Opened thread space) ∷ rest = does.takes.history.appended ∙ append_assoc front (Given (input.Opened thread space) ∷ []) rest in
    let at : Place new.history (Given (input.Opened thread space)) = record { front = front; rest = rest; whole = whole } in
    let opened = any_at (opens thread) new.history (Given (input.Opened thread space)) at (eq-eqb thread thread refl) in
    let before : list_any (breaks thread) front ≡ false = unbroken new.history sound.legal thread space at in
    let broken : list_any (breaks thread) new.history ≡ false = ap (list_any (breaks thread)) whole ∙ (list_any-append (breaks thread) front (Given (input.Opened thread space) ∷ rest) ∙ rw (before, outputs_break does.takes.history.outputs thread) refl) in
    rw (opened, broken) refl

pub has_opened : (old new : KernelParts) (number space thread : ℕ) → IsSound new → MayObey old (Open number space) (Opened thread) new → HasOpened old new number thread
unfolding Obeys cause_of Does
has_opened old new number space thread sound (inr lacks) = let e = lacks.answer_is in absurd cc
has_opened old new number space thread sound (inl obeys) = go (open_refusal old number space) refl obeys
  where
    go : (cause : Option Refusal) → open_refusal old number space ≡ cause → ObeysOr cause old (Open number space) (Opened thread) new → HasOpened old new number thread
    go (Some refusal) e refused = let other = refused.0 in absurd cc
    go None e opens =
        let may = may_open old number space e in
        record {
          number_is = opens.number_is;
          within = may.within;
          live = opens_live old new number space thread sound opens;
          alone = λ other live same. not_both (subst (λ n. is_taken old.history n ≡ true) same (taken old.history other (live_opened old.history other live) live)) may.free;
        }

-- The history of a kernel is one of those whose script gives them.
use Rattle.std.proofs.Common.{◌≡◌, refl, sym, ap, subst, ◌∙◌, ℕ, ◌+◌, ◌≤◌, ◌<◌, Bool, true, false, not, ◌||◌, List, [], ◌∷◌, ◌++◌}
use Rattle.std.proofs.Common.{append_assoc, append-nil, length, length-append, map, Option, Some, None, is_none, ◌⊎◌, inl, inr, arith}
use Rattle.std.specs.Prelude.{MatchBool, nat_lt, if◌then◌else◌}
use Rattle.std.specs.List.{list_any}
use Rattle.std.proofs.lemmas.Bool.{false≢true, ltb-false}
use Rattle.std.proofs.lemmas.Option.{none-some}
use Rattle.ipc_words.specs.Control.{masked_of}
use Rattle.ipc_words.specs.Limits.{max_space, max_thread_number}
use Rattle.ipc_history.specs.Blocks.{block_of}
use Rattle.ipc_history.specs.CallParts.{CallParts}
use Rattle.ipc_history.specs.Calls.{calls_made, numbers}
use Rattle.ipc_history.specs.Entries.{number_in}
use Rattle.ipc_history.specs.NextOutput.{next_output}
use Rattle.ipc_history.specs.Settled.{Settled}
use Rattle.ipc_history.specs.Threads.{is_live, is_taken, next_version, now}
use Rattle.ipc_history.specs.Timing.{is_due_at}
use Rattle.ipc_history.specs.declared.entry.Entry.{Entry}
use Rattle.ipc_history.specs.declared.entry.Entry.TheVariants.{Given, Written}
use Rattle.ipc_history.specs.declared.entry.Input.{Input}
use Rattle.ipc_history.specs.declared.entry.Input.TheVariants as input
use Rattle.ipc_history.specs.declared.entry.Output.{Output}
use Rattle.ipc_laws.specs.Counting.{pledged}
use Rattle.ipc_laws.proofs.Changing.{changes}
use Rattle.ipc_laws.proofs.Numbering.{numbers_push_called}
use Rattle.ipc_laws.proofs.Places.{any_at}
use Rattle.ipc_laws.proofs.Tests.{not_both}
use Rattle.ipc_core.specs.CommandRoom.{is_clock}
use Rattle.ipc_core.specs.Effects.{Ticks}
use Rattle.ipc_core.specs.KernelParts.{KernelParts}
use Rattle.ipc_core.specs.Laws.{IsSound}
use Rattle.ipc_core.specs.Obeying.{Does, Obeys, ObeysOr, Runs, cause_of, empty_kernel}
use Rattle.ipc_core.specs.Outcomes.{is_busy}
use Rattle.ipc_core.specs.Refusals.{enter_refusal, exreg_refusal, open_refusal}
use Rattle.ipc_core.specs.Room.{call_need, exreg_need, is_full, open_need}
use Rattle.ipc_core.specs.Steps.{Takes, at_if_later, at_moment, with_input}
use Rattle.ipc_core.specs.declared.answers.Advance.TheVariants.{Moved, Idle}
use Rattle.ipc_core.specs.declared.command.Answer.{Answer}
use Rattle.ipc_core.specs.declared.command.Answer.TheVariants.{Opened, Entered, Exchanged, Done, Advanced, Taken}
use Rattle.ipc_core.specs.declared.command.Command.{Command}
use Rattle.ipc_core.specs.declared.command.Command.TheVariants.{Open, Enter, Exreg, Broke, At, Advance, Take}
use Rattle.ipc_core.specs.declared.refusal.Refusal.{Refusal}
use Rattle.ipc_core.specs.declared.refusal.Refusal.TheVariants.{BadNumber, NumberTaken, NumberWorn, HistoryFull, NoThread, Busy}
use Rattle.ipc_core.specs.declared.refusal.Refusal.TheVariants.{CallsSpent}
use Rattle.ipc_core.proofs.Commands.{clock_brings, now_settled, now_with_input}
use Rattle.ipc_core.proofs.SoundLaws.{stays_sound}
use Rattle.ipc_threads.proofs.OutputSteps.{calls_made_kept}
use Rattle.ipc_shell.specs.Replays.{FindsRoom, IsBehindAt, KernelsMayBe, MayBeKernels, ends_at, is_at}
use Rattle.ipc_shell.proofs.AtEnds.{ends_outputs, ends_push, ends_written, no_at}
use Rattle.ipc_shell.proofs.Replaying.{empty_stage}
use Rattle.ipc_shell.proofs.Stages.{Stage, ahead}

-- Places in two lists that stand one behind the other

split_place : {X : Type 0} (xs ys P rest : List X) (e : X) → xs ++ ys ≡ P ++ e ∷ rest
    → ((r : List X) × (xs ≡ P ++ e ∷ r) × (rest ≡ r ++ ys)) ⊎ ((q : List X) × (P ≡ xs ++ q) × (ys ≡ q ++ e ∷ rest))
split_place [] ys P rest e h = inr (P, refl, h)
split_place (x ∷ xs) ys [] rest e h =
    let same : x ≡ e = cc in
    let tail : xs ++ ys ≡ rest = cc in
    inl (xs, ap (λ a. a ∷ xs) same, sym tail)
split_place (x ∷ xs) ys (p ∷ P) rest e h =
    let same : x ≡ p = cc in
    let tail : xs ++ ys ≡ P ++ e ∷ rest = cc in
    elim (split_place xs ys P rest e tail) [
      | inl t ↦ inl (t.0, (λ i. same i ∷ t.1 i), t.2)
      | inr t ↦ inr (t.0, (λ i. sym same i ∷ t.1 i), t.2)
    ]

push_same : {X : Type 0} (P K : List X) (e f : X) → P ++ e ∷ [] ≡ K ++ f ∷ [] → P ≡ K
push_same [] [] e f h = refl
push_same [] (k ∷ []) e f h = absurd (cc)
push_same [] (k ∷ j ∷ K) e f h = absurd (cc)
push_same (p ∷ []) [] e f h = absurd (cc)
push_same (p ∷ q ∷ P) [] e f h = absurd (cc)
push_same (p ∷ P) (k ∷ K) e f h =
    let same : p ≡ k = cc in
    let tail : P ++ e ∷ [] ≡ K ++ f ∷ [] = cc in
    let rest = push_same P K e f tail in
    λ i. same i ∷ rest i

none_at : {X : Type 0} (test : X → Bool) (xs q rest : List X) (e : X) → list_any test xs ≡ false → test e ≡ true → xs ≡ q ++ e ∷ rest → ⊥
none_at test xs q rest e none passes whole = not_both (any_at test xs e (record { front = q; rest = rest; whole = whole }) passes) none

behind_more : (r more : List Entry) → IsBehindAt r → IsBehindAt (r ++ more)
behind_more [] more h = absurd h
behind_more (Given (input.At moment) ∷ r) more h = absurd h
behind_more (Given (input.Opened thread space) ∷ r) more h = tt
behind_more (Given (input.Called n thread call) ∷ r) more h = tt
behind_more (Given (input.Exreg thread target control) ∷ r) more h = tt
behind_more (Given (input.Broke thread) ∷ r) more h = tt
behind_more (Given (input.Moved n count) ∷ r) more h = tt
behind_more (Written output ∷ r) more h = tt

behind_input : (given : Input) (rest : List Entry) → is_clock given ≡ false → IsBehindAt (Given given ∷ rest)
behind_input (input.At moment) rest no_clock = not_both refl no_clock
behind_input (input.Opened thread space) rest no_clock = tt
behind_input (input.Called n thread call) rest no_clock = tt
behind_input (input.Exreg thread target control) rest no_clock = tt
behind_input (input.Broke thread) rest no_clock = tt
behind_input (input.Moved n count) rest no_clock = tt

outputs_no_at : (outputs : List Output) → list_any is_at (map Written outputs) ≡ false
outputs_no_at [] = refl
outputs_no_at (output ∷ outputs) = outputs_no_at outputs

abbrev is_given : Entry → Bool
is_given (Given given) = true
is_given (Written output) = false

outputs_not_given : (outputs : List Output) → list_any is_given (map Written outputs) ≡ false
outputs_not_given [] = refl
outputs_not_given (output ∷ outputs) = outputs_not_given outputs

-- an input of the clock needs no room
clock_room : (limit : ℕ) (P : List Entry) (given : Input) → is_at (Given given) ≡ true → FindsRoom limit P given
clock_room limit P (input.At moment) is = tt
clock_room limit P (input.Opened thread space) is = absurd (false≢true is)
clock_room limit P (input.Called n thread call) is = absurd (false≢true is)
clock_room limit P (input.Exreg thread target control) is = absurd (false≢true is)
clock_room limit P (input.Broke thread) is = absurd (false≢true is)
clock_room limit P (input.Moved n count) is = absurd (false≢true is)

-- a later moment is still later
later_still : (old new : KernelParts) (reading : ℕ) → now old.history ≤ old.moment → new.moment ≡ at_moment old reading
    → now old.history ≤ new.moment
later_still old new reading past is = omega (arith, is)

-- outputs make no call
made_written : (P : List Entry) (outputs : List Output) → calls_made (P ++ map Written outputs) ≡ calls_made P
made_written P [] = ap calls_made (append-nil P)
made_written P (output ∷ outputs) =
    ap calls_made (sym (append_assoc P (Written output ∷ []) (map Written outputs)))
    ∙ (made_written (P ++ Written output ∷ []) outputs ∙ calls_made_kept P (Written output) refl)

made_ahead : (k : KernelParts) → calls_made (ahead k) ≡ calls_made k.history
made_ahead k = go (nat_lt (now k.history) k.moment)
  where
    go : (b : Bool) → calls_made (k.history ++ (if b then Given (input.At k.moment) ∷ [] else [])) ≡ calls_made k.history
    go true = calls_made_kept k.history (Given (input.At k.moment)) refl
    go false = ap calls_made (append-nil k.history)

few_more : (old new : KernelParts) (given : Input) (limit : ℕ) → Takes old new given → number_in (Given given) ≡ None
    → calls_made old.history ≤ limit → calls_made new.history ≤ limit
few_more old new given limit takes none few =
    subst (λ n. n ≤ limit)
    (sym (ap calls_made takes.history.appended
    ∙ (made_written _ takes.history.outputs ∙ (calls_made_kept (ahead old) (Given given) none ∙ made_ahead old)))) few

made_one : (P : List Entry) (n thread : ℕ) (call : CallParts)
    → calls_made (P ++ Given (input.Called n thread call) ∷ []) ≡ calls_made P + 1
unfolding calls_made
made_one P n thread call = ap length (numbers_push_called P n thread call) ∙ length-append (numbers P) (n ∷ [])

made_call : (old new : KernelParts) (n thread : ℕ) (call : CallParts) → Takes old new (input.Called n thread call)
    → calls_made new.history ≡ calls_made old.history + 1
made_call old new n thread call takes =
    ap calls_made takes.history.appended
    ∙ (made_written _ takes.history.outputs ∙ (made_one (ahead old) n thread call ∙ ap (λ m. m + 1) (made_ahead old)))

-- what is true of a kernel between its commands
pub record Has (entries_limit calls_limit : ℕ) (k : KernelParts) : Type 0 where
  pub stage : Stage entries_limit calls_limit k
  pub moments : (P rest : List Entry) (moment : ℕ) → k.history ≡ P ++ Given (input.At moment) ∷ rest → IsBehindAt rest
  pub room : (P rest : List Entry) (moment : ℕ) (given : Input) → ends_at P ≡ false → k.history ≡ with_input P moment given ++ rest
      → FindsRoom entries_limit P given
  pub calls : calls_made k.history ≤ calls_limit

module _ (entries_limit calls_limit : ℕ) (old new : KernelParts) (has : Has entries_limit calls_limit old)
    (stage : Stage entries_limit calls_limit new) (few : calls_made new.history ≤ calls_limit) where
  -- the entries that a command wrote
  grown : (tail : List Entry) → new.history ≡ old.history ++ tail
      → ((q rest : List Entry) (moment : ℕ) → tail ≡ q ++ Given (input.At moment) ∷ rest → IsBehindAt rest)
      → ((P q rest : List Entry) (moment : ℕ) (given : Input) → ends_at P ≡ false → P ++ at_if_later P moment ≡ old.history ++ q
      → tail ≡ q ++ Given given ∷ rest → FindsRoom entries_limit P given)
      → Has entries_limit calls_limit new
  grown tail whole moments room = record {
    stage = stage;
    moments = λ P rest moment e. elim (split_place old.history tail P rest (Given (input.At moment)) (sym whole ∙ e)) [
      | inl t ↦ subst IsBehindAt (sym t.2) (behind_more t.0 tail (has.moments P t.0 moment t.1))
      | inr t ↦ moments t.0 rest moment t.2
    ];
    room = λ P rest moment given closed e.
        let bare = sym whole ∙ (e ∙ append_assoc (P ++ at_if_later P moment) (Given given ∷ []) rest) in
        elim (split_place old.history tail (P ++ at_if_later P moment) rest (Given given) bare) [
          | inl t ↦ has.room P t.0 moment given closed (t.1 ∙ sym (append_assoc (P ++ at_if_later P moment) (Given given ∷ []) t.0))
          | inr t ↦ room P t.0 rest moment given closed t.1 t.2
        ];
    calls = few;
  }

-- the At that comes with an input is no other entry, and none where the moment is the history's
clock_only : (H : List Entry) (moment : ℕ) → list_any (λ e. not (is_at e)) (at_if_later H moment) ≡ false
clock_only H moment = go (nat_lt (now H) moment)
  where
    go : (b : Bool) → list_any (λ e. not (is_at e)) (if b then Given (input.At moment) ∷ [] else []) ≡ false
    go true = refl
    go false = refl

same_front : (P K : List Entry) (m n : ℕ) → ends_at P ≡ false → ends_at K ≡ false → P ++ at_if_later P m ≡ K ++ at_if_later K n → P ≡ K
same_front P K m n closed shut h = go (nat_lt (now P) m) (nat_lt (now K) n) h
  where
    go : (a b : Bool) → P ++ (if a then Given (input.At m) ∷ [] else []) ≡ K ++ (if b then Given (input.At n) ∷ [] else []) → P ≡ K
    go true true e = push_same P K _ _ e
    go false false e = sym (append-nil P) ∙ (e ∙ append-nil K)
    go true false e = not_both (sym (ap ends_at (e ∙ append-nil K)) ∙ ends_push P (Given (input.At m))) shut
    go false true e = not_both (ap ends_at (sym (append-nil P) ∙ e) ∙ ends_push K (Given (input.At n))) closed

module _ (entries_limit calls_limit : ℕ) (old new : KernelParts) (has : Has entries_limit calls_limit old) (sound : IsSound new) where
  -- behind an input
  module _ (given : Input) (takes : Takes old new given) (no_clock : is_clock given ≡ false)
      (fits : FindsRoom entries_limit old.history given) (few : calls_made new.history ≤ calls_limit) where
    abbrev outputs : List Output
    outputs = takes.history.outputs

    abbrev later : List Entry
    later = at_if_later old.history old.moment

    whole : new.history ≡ old.history ++ (later ++ (Given given ∷ map Written outputs))
    whole = takes.history.appended
        ∙ (append_assoc (ahead old) (Given given ∷ []) (map Written outputs)
        ∙ append_assoc old.history later (Given given ∷ map Written outputs))

    stage : Stage entries_limit calls_limit new
    stage = record {
      sound = sound;
      entries_limit_is = takes.entries_limit ∙ has.stage.entries_limit_is;
      calls_limit_is = takes.calls_limit ∙ has.stage.calls_limit_is;
      past = let end =
          now_settled _ _ takes.history ∙ now_with_input old.history old.moment given no_clock has.stage.past in
          omega (arith, end, takes.moment);
      closed =
          ap ends_at takes.history.appended
          ∙ ends_written (ahead old ++ Given given ∷ []) outputs (ends_push (ahead old) (Given given) ∙ no_at given no_clock);
    }

    none : list_any is_at (Given given ∷ map Written outputs) ≡ false
    none = rw (no_at given no_clock, outputs_no_at outputs) refl

    moments : (q rest : List Entry) (moment : ℕ) → later ++ (Given given ∷ map Written outputs) ≡ q ++ Given (input.At moment) ∷ rest
        → IsBehindAt rest
    moments q rest moment = go (nat_lt (now old.history) old.moment) q
      where
        go : (b : Bool) (q : List Entry)
            → (if b then Given (input.At old.moment) ∷ [] else []) ++ (Given given ∷ map Written outputs) ≡ q ++ Given (input.At moment)
            ∷ rest → IsBehindAt rest
        go false q e = absurd (none_at is_at _ q rest (Given (input.At moment)) none refl e)
        go true [] e = let tail : Given given ∷ map Written outputs ≡ rest =
            cc in subst IsBehindAt tail (behind_input given (map Written outputs) no_clock)
        go true (x ∷ q) e = let tail : Given given ∷ map Written outputs ≡ q ++ Given (input.At moment) ∷ rest =
            cc in absurd (none_at is_at _ q rest (Given (input.At moment)) none refl tail)

    room : (P q rest : List Entry) (moment : ℕ) (g : Input) → ends_at P ≡ false → P ++ at_if_later P moment ≡ old.history ++ q
        → later ++ (Given given ∷ map Written outputs) ≡ q ++ Given g ∷ rest → FindsRoom entries_limit P g
    room P q rest moment g closed front e = elim (split_place later (Given given ∷ map Written outputs) q rest (Given g) e) [
      | inl t ↦ clock_room entries_limit P g (clock (is_at (Given g)) refl t.0 t.1)
      | inr t ↦ here t.0 t.1 t.2
    ]
      where
        clock : (b : Bool) → is_at (Given g) ≡ b → (r : List Entry) → later ≡ q ++ Given g ∷ r → is_at (Given g) ≡ true
        clock true is r w = is
        clock false is r w = absurd (none_at (λ e. not (is_at e)) later q r (Given g) (clock_only old.history old.moment) (rw is refl) w)

        here : (s : List Entry) → q ≡ later ++ s → Given given ∷ map Written outputs ≡ s ++ Given g ∷ rest → FindsRoom entries_limit P g
        here [] at w =
            let same : given ≡ g = cc in
            let fronts : P ≡ old.history =
            same_front P old.history moment old.moment closed has.stage.closed
            (front ∙ ap (λ l. old.history ++ l) (at ∙ append-nil later)) in
            subst (λ g. FindsRoom entries_limit P g) same (subst (λ P. FindsRoom entries_limit P given) (sym fronts) fits)
        here (x ∷ s) at w =
            let tail : map Written outputs ≡ s ++ Given g ∷ rest = cc in
            absurd (none_at is_given (map Written outputs) s rest (Given g) (outputs_not_given outputs) refl tail)

    pub takes_has : Has entries_limit calls_limit new
    takes_has = grown entries_limit calls_limit old new has stage few _ whole moments room

  -- where the history stays
  same_has : Stage entries_limit calls_limit new → new.history ≡ old.history → Has entries_limit calls_limit new
  same_has stage same = record {
    stage = stage;
    moments = λ P rest moment e. has.moments P rest moment (sym same ∙ e);
    room = λ P rest moment given closed e. has.room P rest moment given closed (sym same ∙ e);
    calls = subst (λ H. calls_made H ≤ calls_limit) (sym same) has.calls;
  }

  -- behind a clock reading
  ticks_has : (reading : ℕ) → Ticks old new reading → Has entries_limit calls_limit new
  ticks_has reading ticks = go (list_any (is_due_at old.history (at_moment old reading)) (numbers old.history)) refl ticks.history
    where
      undue : new.history ≡ old.history → Has entries_limit calls_limit new
      undue same = same_has (record {
        sound = sound;
        entries_limit_is = ticks.entries_limit ∙ has.stage.entries_limit_is;
        calls_limit_is = ticks.calls_limit ∙ has.stage.calls_limit_is;
        past = subst (λ H. now H ≤ new.moment) (sym same) (later_still old new reading has.stage.past ticks.moment);
        closed = ap ends_at same ∙ has.stage.closed;
      }) same

      due : (output : Output) (outputs : List Output)
          → new.history ≡ (old.history ++ Given (input.At (at_moment old reading)) ∷ []) ++ map Written (output ∷ outputs)
          → now new.history ≡ at_moment old reading → Has entries_limit calls_limit new
      due output outputs appended end = grown entries_limit calls_limit old new has (record {
        sound = sound;
        entries_limit_is = ticks.entries_limit ∙ has.stage.entries_limit_is;
        calls_limit_is = ticks.calls_limit ∙ has.stage.calls_limit_is;
        past = omega (arith, end, ticks.moment);
        closed = ap ends_at appended ∙ ends_outputs (old.history ++ Given (input.At (at_moment old reading)) ∷ []) output outputs;
      }) (subst (λ n. n ≤ calls_limit)
          (sym (ap calls_made appended
          ∙ (made_written _ (output ∷ outputs) ∙ calls_made_kept old.history (Given (input.At (at_moment old reading))) refl))) has.calls)
          (Given (input.At (at_moment old reading)) ∷ map Written (output ∷ outputs))
          (appended ∙ append_assoc old.history (Given (input.At (at_moment old reading)) ∷ []) (map Written (output ∷ outputs)))
          moments room
        where
          moments : (q rest : List Entry) (moment : ℕ)
              → Given (input.At (at_moment old reading)) ∷ map Written (output ∷ outputs) ≡ q ++ Given (input.At moment) ∷ rest
              → IsBehindAt rest
          moments [] rest moment e = let tail : map Written (output ∷ outputs) ≡ rest = cc in subst IsBehindAt tail tt
          moments (x ∷ q) rest moment e = let tail : map Written (output ∷ outputs) ≡ q ++ Given (input.At moment) ∷ rest =
              cc in absurd
              (none_at is_at (map Written (output ∷ outputs)) q rest (Given (input.At moment)) (outputs_no_at (output ∷ outputs)) refl
              tail)

          room : (P q rest : List Entry) (moment : ℕ) (g : Input) → ends_at P ≡ false → P ++ at_if_later P moment ≡ old.history ++ q
              → Given (input.At (at_moment old reading)) ∷ map Written (output ∷ outputs) ≡ q ++ Given g ∷ rest
              → FindsRoom entries_limit P g
          room P [] rest moment g closed front e = let same : input.At (at_moment old reading) ≡ g =
              cc in subst (λ g. FindsRoom entries_limit P g) same tt
          room P (x ∷ q) rest moment g closed front e = let tail : map Written (output ∷ outputs) ≡ q ++ Given g ∷ rest =
              cc in absurd
              (none_at is_given (map Written (output ∷ outputs)) q rest (Given g) (outputs_not_given (output ∷ outputs)) refl tail)

      go : (b : Bool) → list_any (is_due_at old.history (at_moment old reading)) (numbers old.history) ≡ b
          → MatchBool b (Settled (old.history ++ Given (input.At (at_moment old reading)) ∷ []) new.history) (new.history ≡ old.history)
          → Has entries_limit calls_limit new
      go false e same = undue same
      go true e settled = some settled.outputs settled.appended
        where
          end : now new.history ≡ at_moment old reading
          end = now_settled _ _ settled ∙ (changes old.history (Given (input.At (at_moment old reading)))).moment

          some : (outputs : List Output)
              → new.history ≡ (old.history ++ Given (input.At (at_moment old reading)) ∷ []) ++ map Written outputs
              → Has entries_limit calls_limit new
          some (output ∷ outputs) appended = due output outputs appended end
          some [] appended =
              let brings = clock_brings old.history (at_moment old reading) has.stage.sound.legal has.stage.sound.quiet e in
              absurd (none-some brings.0
              (sym (ap next_output (sym (append-nil (old.history ++ Given (input.At (at_moment old reading)) ∷ [])) ∙ sym appended)
              ∙ settled.quiet) ∙ brings.1))

-- why a command was not refused
chain : (a b c d : Bool) (x y z w : Refusal)
    → (if a then Some x else (if b then Some y else (if c then Some z else (if d then Some w else None)))) ≡ None
    → (c ≡ false) × (d ≡ false)
chain false false false false x y z w h = (refl, refl)
chain true b c d x y z w h = absurd (none-some x (sym h))
chain false true c d x y z w h = absurd (none-some y (sym h))
chain false false true d x y z w h = absurd (none-some z (sym h))
chain false false false true x y z w h = absurd (none-some w (sym h))

fits : (k : KernelParts) (need limit : ℕ) → k.entries_limit ≡ limit → is_full k need ≡ false
    → length k.history + pledged k.history + need ≤ limit
unfolding is_full
fits k need limit same room = let within =
    ltb-false k.entries_limit (length k.history + pledged k.history + need) room in omega (arith, within, same)

open_fits : (k : KernelParts) (number space : ℕ) → open_refusal k number space ≡ None → is_full k open_need ≡ false
unfolding open_refusal
open_fits k number space none =
    (chain (nat_lt number 1 || nat_lt max_thread_number number || nat_lt space 1 || nat_lt max_space space) (is_taken k.history number)
    (is_none (next_version k.history number)) (is_full k open_need) BadNumber NumberTaken NumberWorn HistoryFull none).1

enter_fits : (k : KernelParts) (thread : ℕ) (call : CallParts) → enter_refusal k thread call ≡ None
    → (nat_lt k.calls_limit (calls_made k.history + 1) ≡ false) × (is_full k (call_need call) ≡ false)
unfolding enter_refusal
enter_fits k thread call none =
    chain (not (is_live k.history thread)) (is_busy k thread) (nat_lt k.calls_limit (calls_made k.history + 1))
    (is_full k (call_need call))
    NoThread Busy CallsSpent HistoryFull none

exreg_fits : (k : KernelParts) (thread : ℕ) → exreg_refusal k thread ≡ None → is_full k exreg_need ≡ false
unfolding exreg_refusal
exreg_fits k thread none =
    (chain false (not (is_live k.history thread)) (is_busy k thread) (is_full k exreg_need) BadNumber NoThread Busy HistoryFull none).1

-- a command that wrote nothing
rests : (entries_limit calls_limit : ℕ) (old new : KernelParts) → Has entries_limit calls_limit old → IsSound new
    → new.history ≡ old.history → new.moment ≡ old.moment → new.entries_limit ≡ old.entries_limit → new.calls_limit ≡ old.calls_limit
    → Has entries_limit calls_limit new
rests entries_limit calls_limit old new has sound same moment entries calls =
    same_has entries_limit calls_limit old new has sound (record {
      sound = sound;
      entries_limit_is = entries ∙ has.stage.entries_limit_is;
      calls_limit_is = calls ∙ has.stage.calls_limit_is;
      past = let before : now new.history ≤ old.moment =
          subst (λ H. now H ≤ old.moment) (sym same) has.stage.past in omega (arith, before, moment);
      closed = ap ends_at same ∙ has.stage.closed;
    }) same

module _ (entries_limit calls_limit : ℕ) where
  -- one command
  does_has : (old new : KernelParts) (command : Command) (answer : Answer) → Has entries_limit calls_limit old → IsSound new
      → cause_of old command ≡ None → Does old command answer new → Has entries_limit calls_limit new
  unfolding Does cause_of
  does_has old new (Open number space) (Opened thread) has sound cause does =
      takes_has entries_limit calls_limit old new has sound (input.Opened thread space) does.takes refl
      (fits old _ entries_limit has.stage.entries_limit_is (open_fits old number space cause))
      (few_more old new (input.Opened thread space) calls_limit does.takes refl has.calls)
  does_has old new (Enter thread call) (Entered n) has sound cause does =
      let room = enter_fits old thread call cause in
      takes_has entries_limit calls_limit old new has sound (input.Called n thread call) does.takes refl
      (fits old _ entries_limit has.stage.entries_limit_is room.1)
      (let most = ltb-false old.calls_limit (calls_made old.history + 1) room.0 in
      let made = made_call old new n thread call does.takes in
      omega (arith, most, made, has.stage.calls_limit_is))
  does_has old new (Exreg thread target control) (Exchanged answer) has sound cause does =
      takes_has entries_limit calls_limit old new has sound (input.Exreg thread target (masked_of control)) does.takes refl
      (fits old _ entries_limit has.stage.entries_limit_is (exreg_fits old thread cause))
      (few_more old new (input.Exreg thread target (masked_of control)) calls_limit does.takes refl has.calls)
  does_has old new (Broke thread) Done has sound cause does =
      takes_has entries_limit calls_limit old new has sound (input.Broke thread) does.takes refl tt
      (few_more old new (input.Broke thread) calls_limit does.takes refl has.calls)
  does_has old new (At reading) Done has sound cause does = ticks_has entries_limit calls_limit old new has sound reading does
  does_has old new Advance (Advanced Moved) has sound cause does =
      takes_has entries_limit calls_limit old new has sound (input.Moved does.number (block_of old.history does.number)) does.takes refl
      tt (few_more old new (input.Moved does.number (block_of old.history does.number)) calls_limit does.takes refl has.calls)
  does_has old new Advance (Advanced Idle) has sound cause does =
      rests entries_limit calls_limit old new has sound (ap (λ (k : KernelParts). k.history) does.1)
      (ap (λ (k : KernelParts). k.moment) does.1) (ap (λ (k : KernelParts). k.entries_limit) does.1)
      (ap (λ (k : KernelParts). k.calls_limit) does.1)
  does_has old new (Take thread) (Taken outcome) has sound cause does =
      rests entries_limit calls_limit old new has sound (ap (λ (k : KernelParts). k.history) does.taken)
      (ap (λ (k : KernelParts). k.moment) does.taken) (ap (λ (k : KernelParts). k.entries_limit) does.taken)
      (ap (λ (k : KernelParts). k.calls_limit) does.taken)
  does_has old new command answer has sound cause does = absurd does

  obeys_has : (old new : KernelParts) (command : Command) (answer : Answer) → Has entries_limit calls_limit old
      → Obeys old command answer new → Has entries_limit calls_limit new
  unfolding Obeys
  obeys_has old new command answer has obeys = go (cause_of old command) refl obeys
    where
      go : (cause : Option Refusal) → cause_of old command ≡ cause → ObeysOr cause old command answer new
          → Has entries_limit calls_limit new
      go None is does = does_has old new command answer has (stays_sound old command answer new has.stage.sound (inl obeys)) is does
      go (Some refusal) is refused = subst (Has entries_limit calls_limit) (sym refused.1) has

  runs_has : (commands : List Command) (answers : List Answer) (old new : KernelParts) → Has entries_limit calls_limit old
      → Runs old commands answers new → Has entries_limit calls_limit new
  unfolding Runs
  runs_has [] [] old new has runs = subst (Has entries_limit calls_limit) (sym runs) has
  runs_has (command ∷ commands) (answer ∷ answers) old new has runs =
      runs_has commands answers runs.0 new (obeys_has old runs.0 command answer has runs.1) runs.2
  runs_has [] (answer ∷ answers) old new has runs = absurd runs
  runs_has (command ∷ commands) [] old new has runs = absurd runs

  nothing_at : {X : Type 0} (P rest : List X) (e : X) → [] ≡ P ++ e ∷ rest → ⊥
  nothing_at [] rest e h = cc
  nothing_at (x ∷ P) rest e h = cc

  empty_has : Has entries_limit calls_limit (empty_kernel entries_limit calls_limit)
  unfolding calls_made numbers
  empty_has = record {
    stage = empty_stage entries_limit calls_limit;
    moments = λ P rest moment e. absurd (nothing_at P rest _ e);
    room = λ P rest moment given closed e. absurd
        (nothing_at (P ++ at_if_later P moment) rest _ (e ∙ append_assoc (P ++ at_if_later P moment) (Given given ∷ []) rest));
    calls = omega arith;
  }

pub kernels_may_be : KernelsMayBe
kernels_may_be entries_limit calls_limit commands answers kernel runs =
    let has = runs_has entries_limit calls_limit commands answers _ kernel (empty_has entries_limit calls_limit) runs in
    record { legal = has.stage.sound.legal; quiet = has.stage.sound.quiet; moments = has.moments; room = has.room; calls = has.calls }

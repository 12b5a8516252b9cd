-- Which thread numbers may have an outcome to take.
use Rattle.std.proofs.Common.{◌≡◌, ◌≢◌, ℕ, suc, ◌<◌, ◌≤◌, ◌==◌, eqb-true, eq-eqb, ◌||◌, Bool, true, false, List, [], ◌∷◌, ◌+◌, length, refl, sym, ap, subst, ◌∙◌, arith, Option, Some, None}
use Rattle.std.specs.Prelude.{slice_index_or, slice_set}
use Rattle.std.proofs.lemmas.Bool.{false≢true, false_from_ne_true, eqb-false}
use Rattle.std.proofs.lemmas.List.{get_or-set_other, length-set}
use Rattle.ipc_words.specs.Limits.{table_slots}
use Rattle.ipc_words.specs.ThreadId.{number_of}
use Rattle.ipc_history.specs.HistoryParts.{HeldParts}
use Rattle.ipc_history.specs.Outcomes.{OutcomeParts}
use Rattle.ipc_history.specs.Threads.{is_live, was_opened, has_broken}
use Rattle.ipc_laws.proofs.OneLive.{one_live}
use Rattle.ipc_laws.proofs.Tests.{not_both}
use Rattle.ipc_core.specs.Again.{MakesRoom}
use Rattle.ipc_exchange.specs.Serving.{first_kernel}
use Rattle.ipc_core.specs.KernelParts.{KernelParts}
use Rattle.ipc_core.specs.Laws.{IsSound, is_call_of, is_take_of}
use Rattle.ipc_core.specs.Obeying.{MayObey}
use Rattle.ipc_core.specs.Outcomes.{is_among, is_finished, outcome_to_take}
use Rattle.ipc_core.specs.Steps.{taken_after}
use Rattle.ipc_core.specs.declared.command.Answer.{Answer}
use Rattle.ipc_core.specs.declared.command.Command.{Command}
use Rattle.ipc_core.specs.declared.command.Command.TheVariants.{Take}
use Rattle.ipc_core.proofs.AgainLaws.{let_go, made_room, room_sound}
use Rattle.ipc_core.proofs.IdleLaws.{idle_has_nothing}
use Rattle.ipc_core.proofs.UnfinishedLaws.{unfinished_keeps}
use Rattle.ipc_core.proofs.BusyLaws.{taken_is_idle}
use Rattle.ipc_exchange.specs.Due.{AreDue, is_marked}

-- a thread that is not live has nothing to take
dead_has_nothing : (kernel : KernelParts) (thread : ℕ) → is_live kernel.history thread ≡ false → outcome_to_take kernel thread ≡ None
unfolding outcome_to_take
dead_has_nothing kernel thread dead = rw dead refl

pub nothing_yet : (entries calls : ℕ) (thread : ℕ) → outcome_to_take (first_kernel entries calls) thread ≡ None
unfolding outcome_to_take is_live was_opened has_broken
nothing_yet entries calls thread = refl

-- room that is made changes nothing of it
stays_due : (old new : KernelParts) (due : List Bool) → IsSound new → ((thread : ℕ) → outcome_to_take new thread ≡ outcome_to_take old thread) → AreDue old due → AreDue new due
stays_due old new due sound same are = record { sound = sound; long = are.long; rest = λ n within free t number. same t ∙ are.rest n within free t number }

same_taking : (old : KernelParts) (limit room : ℕ) (held : HeldParts) (thread : ℕ) → outcome_to_take (let_go old limit held room) thread ≡ outcome_to_take old thread
unfolding outcome_to_take
same_taking old limit room held thread = refl

pub room_due : (upto : ℕ) (old roomy : KernelParts) (command : Command) (due : List Bool) → MakesRoom upto old command roomy → AreDue old due → AreDue roomy due
room_due upto old roomy command due makes are =
    stays_due old roomy due (room_sound upto old roomy command makes are.sound)
    (λ t. made_room (λ (k : KernelParts). outcome_to_take k t ≡ outcome_to_take old t) upto old roomy command (λ limit room held e. same_taking old limit room held t) makes refl) are

-- the numbers that are marked after a command
module _ (old : KernelParts) (command : Command) (answer : Answer) (new : KernelParts) (before after : List Bool)
    (due : AreDue old before) (sound : IsSound new) (obeys : MayObey old command answer new) (long : length after ≡ table_slots)
    (finished : (t : ℕ) → is_finished new t ≡ true → number_of t < table_slots → is_marked after (number_of t) ≡ true)
    (own : (t : ℕ) → is_call_of t command ≡ true → number_of t < table_slots → is_marked after (number_of t) ≡ true)
    (kept : (n : ℕ) → is_marked before n ≡ true → is_marked after n ≡ true)
  where
    was_free : (n : ℕ) → is_marked after n ≡ false → is_marked before n ≡ false
    was_free n free = go (is_marked before n) refl
      where
        go : (b : Bool) → is_marked before n ≡ b → is_marked before n ≡ false
        go true e = not_both (kept n e) free
        go false e = e

    -- a thread whose number is not marked, by a command that is no take of it
    pub free_nothing : (t : ℕ) → number_of t < table_slots → is_marked after (number_of t) ≡ false → is_take_of t command ≡ false → outcome_to_take new t ≡ None
    free_nothing t within free no_take = go (is_live new.history t) (is_finished new t) (is_call_of t command) refl refl refl
      where
        go : (a b c : Bool) → is_live new.history t ≡ a → is_finished new t ≡ b → is_call_of t command ≡ c → outcome_to_take new t ≡ None
        go false b c dead e f = dead_has_nothing new t dead
        go true true c live e f = not_both (finished t e within) free
        go true false true live e f = not_both (own t f within) free
        go true false false live e f = unfinished_keeps old command answer new due.sound sound obeys t f no_take live e ∙ due.rest (number_of t) within (was_free (number_of t) free) t refl

    pub obeyed_due : ((t : ℕ) → is_take_of t command ≡ true → number_of t < table_slots → is_marked after (number_of t) ≡ true) → AreDue new after
    obeyed_due takes = record { sound = sound; long = long; rest = λ n within free t same. go t (rw same within) (rw same free) (is_take_of t command) refl }
      where
        go : (t : ℕ) → number_of t < table_slots → is_marked after (number_of t) ≡ false → (b : Bool) → is_take_of t command ≡ b → outcome_to_take new t ≡ None
        go t within free true e = not_both (takes t e within) free
        go t within free false e = free_nothing t within free e

-- a thread whose outcome was taken has no other
pub taken_nothing : (old new : KernelParts) (thread since : ℕ) (taken : Option OutcomeParts) → IsSound new → taken ≡ outcome_to_take old thread → new ≡ record old { taken = taken_after taken old.taken; since = since } → outcome_to_take new thread ≡ None
unfolding outcome_to_take
taken_nothing old new thread since None sound told is = ap (λ k. outcome_to_take k thread) is ∙ sym told
taken_nothing old new thread since (Some outcome) sound told is = idle_has_nothing new thread (taken_is_idle old new thread since outcome sound (sym told) is)

module _ (old : KernelParts) (thread : ℕ) (answer : Answer) (new : KernelParts) (taken : Option OutcomeParts) (before after : List Bool)
    (due : AreDue old before) (sound : IsSound new) (obeys : MayObey old (Take thread) answer new) (long : length after ≡ table_slots)
    (finished : (t : ℕ) → is_finished new t ≡ true → number_of t < table_slots → is_marked after (number_of t) ≡ true)
    (kept : (n : ℕ) → is_marked before n ≡ true → is_marked after n ≡ true)
    (told : taken ≡ outcome_to_take old thread) (is : new ≡ record old { taken = taken_after taken old.taken; since = length old.history })
  where
    nothing_more : outcome_to_take new thread ≡ None
    nothing_more = taken_nothing old new thread (length old.history) taken sound told is

    others_nothing : (t : ℕ) → t ≢ thread → number_of t < table_slots → is_marked after (number_of t) ≡ false → outcome_to_take new t ≡ None
    others_nothing t other within free = free_nothing old (Take thread) answer new before after due sound obeys long finished (λ q none less. absurd (false≢true none)) kept t within free (false_from_ne_true (thread == t) (λ same. other (sym (eqb-true thread t same))))

    pub took_due : AreDue new after
    took_due = record { sound = sound; long = long; rest = λ n within free t same. go t (rw same within) (rw same free) (t == thread) refl }
      where
        go : (t : ℕ) → number_of t < table_slots → is_marked after (number_of t) ≡ false → (b : Bool) → (t == thread) ≡ b → outcome_to_take new t ≡ None
        go t within free true e = ap (outcome_to_take new) (eqb-true t thread e) ∙ nothing_more
        go t within free false e = others_nothing t (λ same. not_both (eq-eqb t thread same) e) within free

    -- and so its number needs no mark, where it is live
    pub cleared_due : is_live new.history thread ≡ true → number_of thread < length after → AreDue new (slice_set after (number_of thread) false)
    cleared_due live less = record {
      sound = sound;
      long = length-set after (number_of thread) false ∙ long;
      rest = λ n within free t same. go t (rw same within) (rw same free) (number_of t == number_of thread) refl;
    }
      where
        go : (t : ℕ) → number_of t < table_slots → is_marked (slice_set after (number_of thread) false) (number_of t) ≡ false → (b : Bool) → (number_of t == number_of thread) ≡ b → outcome_to_take new t ≡ None
        go t within free true e = at (is_live new.history t) refl
          where
            at : (b : Bool) → is_live new.history t ≡ b → outcome_to_take new t ≡ None
            at false dead = dead_has_nothing new t dead
            at true lives = ap (outcome_to_take new) (one_live new.history sound.legal t thread lives live (eqb-true (number_of t) (number_of thread) e)) ∙ nothing_more
        go t within free false e =
            let apart : number_of t ≢ number_of thread = λ same. not_both (eq-eqb (number_of t) (number_of thread) same) e in
            others_nothing t (λ same. apart (ap number_of same)) within (sym (get_or-set_other after (number_of thread) (number_of t) false false apart) ∙ free)

-- at first no number is marked
pub new_due : (entries calls : ℕ) (kernel : KernelParts) (due : List Bool) → kernel ≡ first_kernel entries calls → IsSound kernel → length due ≡ table_slots → AreDue kernel due
new_due entries calls kernel due is sound items = record {
  sound = sound;
  long = items;
  rest = λ n within free t same. ap (λ k. outcome_to_take k t) is ∙ nothing_yet entries calls t;
}

-- one more thread is marked
module _ (threads : List ℕ) (index thread : ℕ) (start before after : List Bool) (there : thread ≡ slice_index_or threads index 0) (long : length before ≡ length start)
    (so_far : (k : ℕ) → k < index → number_of (slice_index_or threads k 0) < length start → is_marked before (number_of (slice_index_or threads k 0)) ≡ true)
    (now : number_of thread < length before → is_marked after (number_of thread) ≡ true) (kept : (n : ℕ) → is_marked before n ≡ true → is_marked after n ≡ true)
  where
    pub one_marked : (k : ℕ) → k < index + 1 → number_of (slice_index_or threads k 0) < length start → is_marked after (number_of (slice_index_or threads k 0)) ≡ true
    one_marked k less within = go (k == index) refl
      where
        go : (b : Bool) → (k == index) ≡ b → is_marked after (number_of (slice_index_or threads k 0)) ≡ true
        go true e =
            let same : thread ≡ slice_index_or threads k 0 = there ∙ ap (λ j. slice_index_or threads j 0) (sym (eqb-true k index e)) in
            ap (λ t. is_marked after (number_of t)) (sym same) ∙ now (subst (λ t. number_of t < length before) (sym same) (rw long within))
        go false e = kept _ (so_far k (let apart = eqb-false k index e in omega (arith, less, apart)) within)

among_index : (xs : List ℕ) (t : ℕ) → is_among t xs ≡ true → (k : ℕ) × (k < length xs) × (slice_index_or xs k 0 ≡ t)
among_index [] t among = absurd (false≢true among)
among_index (x ∷ xs) t among = go (x == t) refl (λ later. among_index xs t later) among
  where
    go : (b : Bool) → (x == t) ≡ b → (is_among t xs ≡ true → (k : ℕ) × (k < length xs) × (slice_index_or xs k 0 ≡ t)) → (b || is_among t xs) ≡ true → (k : ℕ) × (k < length (x ∷ xs)) × (slice_index_or (x ∷ xs) k 0 ≡ t)
    go true e later h = (0, omega arith, eqb-true x t e)
    go false e later h = let (k, within, same) = later h in (suc k, omega (arith, within), same)

pub all_marked : (threads : List ℕ) (index : ℕ) (start after : List Bool) → length threads ≤ index
    → ((k : ℕ) → k < index → number_of (slice_index_or threads k 0) < length start → is_marked after (number_of (slice_index_or threads k 0)) ≡ true)
    → (t : ℕ) → is_among t threads ≡ true → number_of t < length start → is_marked after (number_of t) ≡ true
all_marked threads index start after all marked t among within =
    let (k, there, same) = among_index threads t among in
    subst (λ q. is_marked after (number_of q) ≡ true) same (marked k (omega (arith, there, all)) (rw same within))

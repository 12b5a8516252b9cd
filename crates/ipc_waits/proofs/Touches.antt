-- What an entry touches is named by it, or waits in a queue.
use Rattle.std.proofs.lemmas.Bool.{false≢true}
use Rattle.std.proofs.lemmas.Option.{none-some, same_Some}
use Rattle.std.proofs.Common.{◌≡◌, sym, subst, ℕ, ◌||◌, eqb-true, Bool, true, false, refl, List, [], Some, None, map, arith}
use Rattle.ipc_words.specs.ThreadId.{number_of}
use Rattle.ipc_history.specs.Calls.{caller_of, numbers}
use Rattle.ipc_history.specs.Entries.{breaks, moment_in, names}
use Rattle.ipc_history.specs.Legal.{Follows, Legal, Quiet, is_admissible}
use Rattle.ipc_history.specs.NextOutput.{next_output}
use Rattle.ipc_history.specs.Phases.{is_over}
use Rattle.ipc_history.specs.Timing.{is_due_at}
use Rattle.ipc_history.specs.declared.entry.Entry.{Entry}
use Rattle.ipc_history.specs.declared.entry.Entry.TheVariants.{Given}
use Rattle.ipc_history.specs.declared.entry.Input.{Input}
use Rattle.ipc_history.specs.declared.entry.Input.TheVariants.{At, Broke}
use Rattle.ipc_laws.proofs.Tests.{not_both}
use Rattle.ipc_waits.specs.Finding.{CoversAt, is_among, touched, watches}
use Rattle.ipc_waits.proofs.AtPlaces.{IsTouched as Touching, touched_is}
use Rattle.ipc_waits.proofs.AtPlaces.IsTouched.{Due, Named, Watching}
use Rattle.ipc_waits.proofs.Kept.{due_at_open}
use Rattle.ipc_threads.specs.Slots.{Stands, live_of, slot_of}
use Rattle.ipc_threads.specs.Steps.{standing_in}
use Rattle.ipc_threads.specs.declared.kept.KeptSlots.{KeptSlots}
use Rattle.ipc_waits.specs.Keys.{AreWaits}
use Rattle.ipc_waits.specs.Touching.{waits_touched}
use Rattle.ipc_waits.specs.Waiting.{IsTouched}
use Rattle.ipc_waits.specs.declared.queues.Waits.{Waits}
use Rattle.ipc_waits.proofs.WaitFacts.{due_wait_until, watchers_wait}
use Rattle.ipc_waits.proofs.WaitKeys.{watches_open}

module _ (P : List Entry) (slots : KeptSlots) (waits : Waits) (legal : Legal P) (stands : Stands P slots) (are : AreWaits slots.table waits) (n : ℕ) where
  -- the place of the call is that of a wait which the entry touches
  abbrev Waits_there : Entry → Type 0
  Waits_there e = (is_over P n ≡ false) × (is_among (map (λ w. w.place) (waits_touched e waits)) (number_of (caller_of P n)) ≡ true)

  watching : (e : Entry) → Follows P e → (thread : ℕ) → breaks thread e ≡ true → watches P thread n ≡ true → Waits_there e
  unfolding Follows is_admissible
  watching (Given (Broke t)) follows thread b w =
      let own : watches P t n ≡ true = subst (λ t. watches P t n ≡ true) (sym (eqb-true t thread b)) w in
      (watches_open P t n own, watchers_wait P slots legal stands waits.watchers are.watchers t n follows.1 own)
  watching _ follows thread b w = absurd (false≢true b)

  due : (e : Entry) → (moment : ℕ) → moment_in e ≡ Some moment → is_due_at P moment n ≡ true → Waits_there e
  due (Given (At m)) moment c d =
      let own : is_due_at P m n ≡ true = subst (λ t. is_due_at P t n ≡ true) (sym (same_Some m moment c)) d in
      (due_at_open P m n own, due_wait_until P slots legal stands waits.deadlines are.deadlines m n own)
  due _ moment c d = absurd (none-some moment c)

  pub touched_waits : (e : Entry) → Follows P e → is_among (touched P e) n ≡ true → names n e ≡ false → Waits_there e
  touched_waits e follows among unnamed = go (touched_is P e n among)
    where
      go : Touching P e n → Waits_there e
      go (Named named) = not_both named unnamed
      go (Watching thread b w) = watching e follows thread b w
      go (Due moment c d) = due e moment c d

-- so before an entry its places are found: an input comes where nothing was asked for any more, an
-- output leaves what was asked for
module _ (P : List Entry) (slots : KeptSlots) (waits : Waits) (legal : Legal P) (stands : Stands P slots) (are : AreWaits slots.table waits) (e : Entry) (follows : Follows P e) (base places : List ℕ) (covers : CoversAt P base) (added : (k : ℕ) → is_among places k ≡ (is_among base k || is_among (map (λ w. w.place) (waits_touched e waits)) k)) where
  among_left : (a b c : Bool) → c ≡ (a || b) → a ≡ true → c ≡ true
  among_left a b c e h = grind arith

  among_right : (a b c : Bool) → c ≡ (a || b) → b ≡ true → c ≡ true
  among_right a b c e h = grind arith

  pub is_touched : IsTouched P e places
  is_touched = record {
    base = base;
    covers = covers;
    kept = λ k among. among_left _ _ _ (added k) among;
    unnamed = λ n among unnamed. (let there = touched_waits P slots waits legal stands are n e follows among unnamed in (there.0, among_right _ _ _ (added (number_of (caller_of P n))) there.1));
  }

pub quiet_before : (P : List Entry) (e : Entry) (input : Input) → Follows P e → e ≡ Given input → Quiet P
unfolding Follows
quiet_before P e input follows is = (rw is at follows).0

-- The empty history

pub nothing_quiet : Quiet []
unfolding next_output numbers
nothing_quiet = refl

pub nothing_held : (k : ℕ) → standing_in (slot_of [] k) ≡ None
unfolding slot_of live_of
nothing_held k = refl

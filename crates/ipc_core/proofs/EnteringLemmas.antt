-- Which calls are refused, and which are admissible.
use Rattle.std.proofs.lemmas.Bool.{false≢true, lt-ltb, false_from_ne_true, ltb-true, ltb-false}
use Rattle.std.proofs.Common.{◌≡◌, refl, sym, ap, subst, ◌∙◌, ℕ, ◌+◌, ◌<◌, ◌≤◌, eq-eqb, Bool, true, false, List, length, IsTrue, Option, Some, None, is_none, is_some, arith}
use Rattle.std.specs.Prelude.{nat_lt, ◌↔◌}
use Rattle.ipc_history.specs.CallParts.{CallParts, is_normal}
use Rattle.ipc_history.specs.Calls.{calls_made}
use Rattle.ipc_history.specs.Threads.{is_live}
use Rattle.ipc_history.specs.Phases.{open_call}
use Rattle.ipc_history.specs.Legal.{Legal, is_admissible, is_free}
use Rattle.ipc_history.specs.declared.entry.Entry.{Entry}
use Rattle.ipc_history.specs.declared.entry.Input.TheVariants.{Called}
use Rattle.ipc_laws.proofs.Tests.{both, neither_left}
use Rattle.ipc_core.specs.KernelParts.{KernelParts}
use Rattle.ipc_core.specs.Refusals.{enter_refusal}
use Rattle.ipc_core.specs.Room.{is_full, call_need}
use Rattle.ipc_history.specs.Settled.{Settled}
use Rattle.ipc_laws.specs.Counting.{pledged, room_owed}
use Rattle.ipc_laws.proofs.Pledge.{pledge_covers}
use Rattle.ipc_core.specs.Outcomes.{is_busy}
use Rattle.ipc_core.specs.Steps.{Enters, with_input}
use Rattle.ipc_core.specs.declared.refusal.Refusal.TheVariants.{NoThread, Busy, CallsSpent, HistoryFull}

-- what a program says of a list holds of the same list under another name
pub test_moved : {A B : Type 0} (f : A → B) (E H G : A) (b v : B) → E ≡ H → H ≡ G → b ≡ f E → b ≡ v → f G ≡ v
test_moved f E H G b v p q r s = sym (ap f (p ∙ q)) ∙ (sym r ∙ s)

module _ (kernel : KernelParts) (thread : ℕ) (call : CallParts) where
  pub no_thread : is_live kernel.history thread ≡ false → enter_refusal kernel thread call ≡ Some NoThread
  unfolding enter_refusal
  no_thread live = rw live refl

  pub busy : is_live kernel.history thread ≡ true → is_busy kernel thread ≡ true → enter_refusal kernel thread call ≡ Some Busy
  unfolding enter_refusal
  busy live held = rw (live, held) refl

  pub spent : is_live kernel.history thread ≡ true → is_busy kernel thread ≡ false → kernel.calls_limit ≤ calls_made kernel.history → enter_refusal kernel thread call ≡ Some CallsSpent
  unfolding enter_refusal
  spent live free most = rw (live, free, lt-ltb kernel.calls_limit (calls_made kernel.history + 1) (omega arith)) refl

  left : calls_made kernel.history < kernel.calls_limit → nat_lt kernel.calls_limit (calls_made kernel.history + 1) ≡ false
  left below = false_from_ne_true _ (λ past. absurd (let over = ltb-true kernel.calls_limit (calls_made kernel.history + 1) past in omega arith))

  pub full : is_live kernel.history thread ≡ true → is_busy kernel thread ≡ false → calls_made kernel.history < kernel.calls_limit → is_full kernel (call_need call) ≡ true → enter_refusal kernel thread call ≡ Some HistoryFull
  unfolding enter_refusal
  full live free below none = rw (live, free, left below, none) refl

  pub entered : is_live kernel.history thread ≡ true → is_busy kernel thread ≡ false → calls_made kernel.history < kernel.calls_limit → is_full kernel (call_need call) ≡ false → enter_refusal kernel thread call ≡ None
  unfolding enter_refusal
  entered live free below room = rw (live, free, left below, room) refl

-- who is not busy has no open call
none_if : {X : Type 0} (o : Option X) → is_some o ≡ false → is_none o ≡ true
none_if o h = grind arith

pub may_call : (kernel : KernelParts) (thread number : ℕ) (call : CallParts) → is_live kernel.history thread ≡ true → is_busy kernel thread ≡ false → number ≡ calls_made kernel.history + 1 → IsTrue (is_normal call) → IsTrue (is_admissible kernel.history (Called number thread call))
unfolding is_admissible is_free is_busy
may_call kernel thread number call live free next normal = both _ _ (both _ _ (both _ _ live (none_if (open_call kernel.history thread) (neither_left _ _ free))) (eq-eqb number (calls_made kernel.history + 1) next)) normal

-- what is not full is within the limit, and what is owed fits where what is pledged does
within_not_full : (kernel : KernelParts) (need : ℕ) → is_full kernel need ≡ false → length kernel.history + pledged kernel.history + need ≤ kernel.entries_limit
unfolding is_full
within_not_full kernel need left = ltb-false _ _ left

owed_fits : (H : List Entry) (need limit : ℕ) → Legal H → length H + pledged H + need ≤ limit → length H + room_owed H + need ≤ limit
owed_fits H need limit legal within = let covers = pledge_covers H legal in omega arith

-- a call that is not refused but for memory
pub record Passes (kernel : KernelParts) (thread : ℕ) (call : CallParts) (made : ℕ) : Type 0 where
  pub live : is_live kernel.history thread ≡ true
  pub free : is_busy kernel thread ≡ false
  pub made_is : made ≡ calls_made kernel.history
  pub below : calls_made kernel.history < kernel.calls_limit
  pub room : is_full kernel (call_need call) ≡ false

pub passes : (kernel : KernelParts) (thread : ℕ) (call : CallParts) (E H : List Entry) (limit made need : ℕ) (live busy : Bool) → E ≡ H → H ≡ kernel.history → limit ≡ kernel.calls_limit → live ≡ is_live E thread → live ≡ true → busy ≡ is_busy kernel thread → busy ≡ false → made ≡ calls_made E → made < limit → need ≡ call_need call → ((true ≡ false) ↔ IsTrue (is_full kernel need)) → Passes kernel thread call made
passes kernel thread call E H limit made need live busy p q same_limit lives is_true holds is_free counted below needed full =
    let count : made ≡ calls_made kernel.history = counted ∙ ap calls_made (p ∙ q) in
    record {
      live = test_moved (λ l. is_live l thread) E H kernel.history live true p q lives is_true;
      free = sym holds ∙ is_free;
      made_is = count;
      below = omega (arith, count, same_limit, below);
      room = false_from_ne_true _ (λ past. false≢true (sym (full.1 (ap (is_full kernel) needed ∙ past))));
    }

pub passes_entered : (kernel : KernelParts) (thread made : ℕ) (call : CallParts) → Passes kernel thread call made → enter_refusal kernel thread call ≡ None
passes_entered kernel thread made call pass = entered kernel thread call pass.live pass.free pass.below pass.room

pub passes_may_call : (kernel : KernelParts) (thread made : ℕ) (call : CallParts) (H : List Entry) → Passes kernel thread call made → H ≡ kernel.history → IsTrue (is_normal call) → IsTrue (is_admissible H (Called (made + 1) thread call))
passes_may_call kernel thread made call H pass same normal = subst (λ l. IsTrue (is_admissible l (Called (made + 1) thread call))) (sym same) (may_call kernel thread (made + 1) call pass.live pass.free (ap (λ n. n + 1) pass.made_is) normal)

-- the room that was made is enough
pub called_room : (Q : List Entry) (need wanted places : ℕ) → Legal Q → need ≡ wanted → length Q + (pledged Q + need) ≤ places → length Q + room_owed Q + wanted ≤ places
called_room Q need wanted places legal needed fits = let covers = pledge_covers Q legal in omega arith

-- and the limit is kept
pub called_within : (kernel : KernelParts) (thread made limit : ℕ) (call : CallParts) (Q : List Entry) → Passes kernel thread call made → Q ≡ kernel.history → limit ≡ kernel.entries_limit → Legal Q → length Q + room_owed Q + call_need call ≤ limit
called_within kernel thread made limit call Q pass same same_limit legal =
    let within = within_not_full kernel (call_need call) pass.room in
    let moved : length Q + pledged Q + call_need call ≤ limit = rw (same, same_limit) within in
    owed_fits Q (call_need call) limit legal moved

pub enters : (inside kernel new : KernelParts) (thread number : ℕ) (call : CallParts) → inside ≡ kernel → number ≡ calls_made kernel.history + 1 → Settled (with_input inside.history inside.moment (Called number thread call)) new.history → Legal new.history → new.since ≡ length inside.history → new.moment ≡ inside.moment → new.entries_limit ≡ inside.entries_limit → new.calls_limit ≡ inside.calls_limit → new.held ≡ inside.held → inside.room ≤ new.room → new.taken ≡ inside.taken → Enters kernel new number thread call
enters inside kernel new thread number call same next settled legal since moment entries_limit calls_limit held room taken = subst (λ old. Enters old new number thread call) same (record {
  number_is = next ∙ ap (λ k. calls_made k.history + 1) (sym same);
  takes = record { history = settled; legal = λ was. legal; since = since; moment = moment; entries_limit = entries_limit; calls_limit = calls_limit; held = held; room = room };
  taken = taken;
})

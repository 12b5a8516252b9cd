-- Which calls a command enters: of a Called its own, of every other command none.
use Rattle.std.proofs.lemmas.Bool.{false≢true, or_cases}
use Rattle.std.proofs.Common.{◌≡◌, refl, sym, ap, ap₂, ◌∙◌, ℕ, Bool, true, false, ◌||◌, ◌==◌, if◌then◌else◌, List, [], ◌∷◌, ◌++◌, append_assoc, map, eq-eqb, eqb-true, subst, Option, Some, None, is_some, inl, inr}
use Rattle.std.specs.Prelude.{nat_lt}
use Rattle.std.specs.Option.{option_or}
use Rattle.ipc_history.specs.CallParts.{CallParts}
use Rattle.ipc_history.specs.Entries.{call_in, calls}
use Rattle.ipc_history.specs.Calls.{call_at, caller_of, is_called}
use Rattle.ipc_history.specs.Threads.{now}
use Rattle.ipc_history.specs.Settled.{Settled}
use Rattle.ipc_history.specs.declared.entry.Entry.{Entry}
use Rattle.ipc_history.specs.declared.entry.Entry.TheVariants.{Given, Written}
use Rattle.ipc_history.specs.declared.entry.Input.{Input}
use Rattle.ipc_history.specs.declared.entry.Input.TheVariants.{At, Opened, Called, Exreg, Broke, Moved}
use Rattle.ipc_history.specs.declared.entry.Output.{Output}
use Rattle.ipc_laws.proofs.Growth.{call_at_kept}
use Rattle.ipc_laws.proofs.Tests.{not_both}
use Rattle.ipc_laws.proofs.WordLemmas.{first_some_append, first_some_push}
use Rattle.ipc_desks.specs.CallsOf.{last_call, number_by}
use Rattle.ipc_desks.proofs.LastCalls.{last_push}
use Rattle.ipc_core.specs.Steps.{at_if_later, with_input}
use Rattle.ipc_core.proofs.BusyLaws.{clock_call, no_call, outputs_call}

either_some : {X : Type 0} (a b : Option X) → is_some (option_or a b) ≡ (is_some a || is_some b)
either_some None b = refl
either_some (Some x) b = refl

called_append : (P Q : List Entry) (n : ℕ) → is_called (P ++ Q) n ≡ (is_called P n || is_called Q n)
unfolding is_called call_at
called_append P Q n = ap is_some (first_some_append (call_in n) P Q) ∙ either_some _ _

called_written : (outputs : List Output) (n : ℕ) → is_called (map Written outputs) n ≡ false
unfolding is_called call_at
called_written [] n = refl
called_written (output ∷ outputs) n = called_written outputs n

called_clock : (H : List Entry) (moment n : ℕ) → is_called (at_if_later H moment) n ≡ false
unfolding is_called call_at
called_clock H moment n = go (nat_lt (now H) moment)
  where
    go : (b : Bool) → is_some (call_at (if b then Given (At moment) ∷ [] else []) n) ≡ false
    go true = refl
    go false = refl

some_is_called : (P : List Entry) (n : ℕ) (c : ℕ × CallParts) → call_at P n ≡ Some c → is_called P n ≡ true
unfolding is_called
some_is_called P n c h = ap is_some h

-- one entry
called_call : (k n : ℕ) (c : ℕ × CallParts) → is_some (option_or (if k == n then Some c else None) None) ≡ (k == n)
called_call k n c = go (k == n)
  where
    go : (b : Bool) → is_some (option_or (if b then Some c else None) None) ≡ b
    go true = refl
    go false = refl

called_given : (input : Input) (n : ℕ) → is_called (Given input ∷ []) n ≡ calls n (Given input)
unfolding is_called call_at
called_given (Called k thread call) n = called_call k n (thread, call)
called_given (At moment) n = refl
called_given (Opened thread space) n = refl
called_given (Exreg thread target control) n = refl
called_given (Broke thread) n = refl
called_given (Moved k count) n = refl

-- the calls after a command are those before it, and its own
pub no_more : (b : Bool) → (b || false) ≡ b
no_more true = refl
no_more false = refl

pub called_settled : (P K : List Entry) → Settled P K → (n : ℕ) → is_called K n ≡ is_called P n
called_settled P K settled n = ap (λ l. is_called l n) settled.appended ∙ (called_append P (map Written settled.outputs) n ∙ (ap (λ b. is_called P n || b) (called_written settled.outputs n) ∙ no_more (is_called P n)))

pub called_with : (H : List Entry) (moment : ℕ) (input : Input) (n : ℕ) → is_called (with_input H moment input) n ≡ (is_called H n || calls n (Given input))
called_with H moment input n =
    let clock = called_append H (at_if_later H moment) n ∙ (ap (λ b. is_called H n || b) (called_clock H moment n) ∙ no_more (is_called H n)) in
    called_append (H ++ at_if_later H moment) (Given input ∷ []) n ∙ ap₂ (λ a b. a || b) clock (called_given input n)

-- what a Called entered, where its number is new
new_call_at : (P : List Entry) (n thread : ℕ) (call : CallParts) → is_called P n ≡ false → call_at (P ++ Given (Called n thread call) ∷ []) n ≡ Some (thread, call)
unfolding is_called call_at
new_call_at P n thread call absent = first_some_push _ P (Given (Called n thread call)) ∙ absent_first _ _ absent (rw (eq-eqb n n refl) refl)
  where
    absent_first : {X : Type 0} (a b : Option X) {x : X} → is_some a ≡ false → b ≡ Some x → option_or a b ≡ Some x
    absent_first None b absent e = e
    absent_first (Some y) b absent e = not_both refl absent

-- so a call that was entered is there
pub call_entered : (H K : List Entry) (moment n thread : ℕ) (call : CallParts) → Settled (with_input H moment (Called n thread call)) K → is_called H n ≡ false → call_at K n ≡ Some (thread, call)
call_entered H K moment n thread call settled absent =
    let before : is_called (H ++ at_if_later H moment) n ≡ false = called_append H (at_if_later H moment) n ∙ (ap (λ b. is_called H n || b) (called_clock H moment n) ∙ (no_more (is_called H n) ∙ absent)) in
    let there = new_call_at (H ++ at_if_later H moment) n thread call before in
    ap (λ l. call_at l n) settled.appended ∙ (call_at_kept (with_input H moment (Called n thread call)) (map Written settled.outputs) n (some_is_called _ n (thread, call) there) ∙ there)

-- a history that goes on by more entries, of which some may be a call's
pub record Grows (H K : List Entry) (input : Input) : Type 0 where
  pub more : List Entry
  pub whole : K ≡ H ++ more
  pub called : (n : ℕ) → is_called K n ≡ (is_called H n || calls n (Given input))
  pub last : (t : ℕ) → last_call K t ≡ option_or (number_by t (Given input)) (last_call H t)
  pub entered : (n : ℕ) → is_called H n ≡ false → calls n (Given input) ≡ true → last_call K (caller_of K n) ≡ Some n

-- the last calls after a command
settled_last : (P K : List Entry) → Settled P K → (t : ℕ) → last_call K t ≡ last_call P t
settled_last P K settled t = ap (λ l. last_call l t) settled.appended ∙ no_call P (map Written settled.outputs) t (outputs_call settled.outputs t)

with_last : (H : List Entry) (moment : ℕ) (input : Input) (t : ℕ) → last_call (with_input H moment input) t ≡ option_or (number_by t (Given input)) (last_call H t)
with_last H moment input t = last_push (H ++ at_if_later H moment) (Given input) t ∙ ap (option_or (number_by t (Given input))) (no_call H (at_if_later H moment) t (clock_call H moment t))

-- a call that was entered is the last one of its thread
is_last : (H K : List Entry) (moment : ℕ) (input : Input) → Settled (with_input H moment input) K → (n : ℕ) → is_called H n ≡ false → calls n (Given input) ≡ true → last_call K (caller_of K n) ≡ Some n
unfolding caller_of
is_last H K moment (Called k thread call) settled n absent here =
    let same : k ≡ n = eqb-true k n here in
    let at : call_at K n ≡ Some (thread, call) = call_entered H K moment n thread call (subst (λ j. Settled (with_input H moment (Called j thread call)) K) same settled) absent in
    let last : last_call K thread ≡ Some n = settled_last (with_input H moment (Called k thread call)) K settled thread ∙ (with_last H moment (Called k thread call) thread ∙ rw (eq-eqb thread thread refl) (ap Some same)) in
    rw at last
is_last H K moment (At reading) settled n absent here = absurd (false≢true here)
is_last H K moment (Opened thread space) settled n absent here = absurd (false≢true here)
is_last H K moment (Exreg thread target control) settled n absent here = absurd (false≢true here)
is_last H K moment (Broke thread) settled n absent here = absurd (false≢true here)
is_last H K moment (Moved k count) settled n absent here = absurd (false≢true here)

pub takes_grows : (H K : List Entry) (moment : ℕ) (input : Input) → Settled (with_input H moment input) K → Grows H K input
takes_grows H K moment input settled = record {
  more = at_if_later H moment ++ (Given input ∷ map Written settled.outputs);
  whole = settled.appended ∙ (append_assoc (H ++ at_if_later H moment) (Given input ∷ []) (map Written settled.outputs) ∙ append_assoc H (at_if_later H moment) (Given input ∷ map Written settled.outputs));
  called = λ n. called_settled (with_input H moment input) K settled n ∙ called_with H moment input n;
  last = λ t. settled_last (with_input H moment input) K settled t ∙ with_last H moment input t;
  entered = is_last H K moment input settled;
}

pub ticks_grows : (H K : List Entry) (moment : ℕ) → Settled (H ++ Given (At moment) ∷ []) K → Grows H K (At moment)
ticks_grows H K moment settled = record {
  more = Given (At moment) ∷ map Written settled.outputs;
  whole = settled.appended ∙ append_assoc H (Given (At moment) ∷ []) (map Written settled.outputs);
  called = λ n. called_settled (H ++ Given (At moment) ∷ []) K settled n ∙ (called_append H (Given (At moment) ∷ []) n ∙ ap (λ b. is_called H n || b) (called_given (At moment) n));
  last = λ t. settled_last (H ++ Given (At moment) ∷ []) K settled t ∙ last_push H (Given (At moment)) t;
  entered = λ n absent here. absurd (false≢true here);
}

-- the input is a call
abbrev pub is_call : Input → Bool
is_call (Called n thread call) = true
is_call _ = false

-- of which every call was there, where the input is none
no_call_calls : (input : Input) → is_call input ≡ false → (n : ℕ) → calls n (Given input) ≡ false
no_call_calls (Called k thread call) none n = absurd (false≢true (sym none))
no_call_calls (At moment) none n = refl
no_call_calls (Opened thread space) none n = refl
no_call_calls (Exreg thread target control) none n = refl
no_call_calls (Broke thread) none n = refl
no_call_calls (Moved k count) none n = refl

pub no_new_call : (H K : List Entry) (input : Input) → Grows H K input → is_call input ≡ false → (n : ℕ) → is_called K n ≡ true → is_called H n ≡ true
no_new_call H K input grows none n called = elim (or_cases (is_called H n) (calls n (Given input)) (sym (grows.called n) ∙ called)) [ inl a ↦ a | inr b ↦ absurd (false≢true (sym (no_call_calls input none n) ∙ b)) ]

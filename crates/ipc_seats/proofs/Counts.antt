-- What each command does to the counts of the books: calls, outcomes taken, threads opened.
use Rattle.std.proofs.Common.{◌≡◌, ℕ, ◌+◌, ◌≤◌, List, [], ◌∷◌, ◌++◌, Bool, true, false, Option}
use Rattle.std.proofs.Common.{Result, Ok, Err, IfOk, OnOk, OnErr, map, length, filter}
use Rattle.std.proofs.Common.{count_by, filter_map, refl, ap, ◌∙◌, ◌==◌, eq-eqb, nat_lt, subst}
use Rattle.std.proofs.Common.{MatchBool, arith}
use Rattle.std.specs.Prelude.{if◌then◌else◌}
use Rattle.std.proofs.lemmas.List.{length-append}
use Rattle.std.proofs.lemmas.List.Elements.{filter-append, filter_map-append}
use Rattle.std.proofs.lemmas.List.Sums.{count_by-le-length, length-filter}
use Rattle.ipc_history.specs.Calls.{numbers, calls_made}
use Rattle.ipc_history.specs.Entries.{number_in}
use Rattle.ipc_history.specs.CallParts.{CallParts}
use Rattle.ipc_history.specs.Settled.{Settled}
use Rattle.ipc_history.specs.Threads.{now}
use Rattle.ipc_history.specs.declared.entry.Entry.{Entry}
use Rattle.ipc_history.specs.declared.entry.Entry.TheVariants.{Given, Written}
use Rattle.ipc_history.specs.declared.entry.Input.{Input}
use Rattle.ipc_history.specs.declared.entry.Input.TheVariants.{At, Opened, Called, Moved, Broke, Exreg}
use Rattle.ipc_history.specs.declared.entry.Output.{Output}
use Rattle.ipc_core.specs.KernelParts.{KernelParts}
use Rattle.ipc_core.specs.Steps.{Advances, Enters, MayRefuse, Opens, Takes, at_if_later, at_moment, with_input}
use Rattle.ipc_core.specs.Outcomes.{made_by, taken_by}
use Rattle.ipc_desks.specs.CallsOf as calls
use Rattle.ipc_core.specs.declared.answers.Advance.{Advance}
use Rattle.ipc_core.specs.declared.answers.Advance.TheVariants as advance
use Rattle.ipc_core.specs.declared.answers.ExregAnswer.{ExregAnswer}
use Rattle.ipc_core.specs.declared.refusal.Refusal.{Refusal}
use Rattle.ipc_core.specs.declared.refusal.Refusal.TheVariants.{NoThread}
use Rattle.ipc_words.specs.Control.{masked_of}
use Rattle.ipc_history.specs.Threads.{is_live}
use Rattle.ipc_history.specs.Calls.{caller_of}
use Rattle.ipc_seats.specs.Seats.{SeatRefuses}
use Rattle.ipc_core.specs.Effects.{Breaks, Exchanges, Ticks}
use Rattle.ipc_core.specs.Obeying.{rested}
use Rattle.ipc_seats.specs.Opens.{opens, opens_a_thread}

opens_append : (P Q : List Entry) → opens (P ++ Q) ≡ opens P + opens Q
unfolding opens
opens_append P Q = ap length (filter-append opens_a_thread P Q) ∙ length-append (filter opens_a_thread P) (filter opens_a_thread Q)

calls_append : (P Q : List Entry) → calls_made (P ++ Q) ≡ calls_made P + calls_made Q
unfolding calls_made numbers
calls_append P Q = ap length (filter_map-append number_in P Q) ∙ length-append (filter_map number_in P) (filter_map number_in Q)

-- outputs open nothing and are no calls
opens_written : (outputs : List Output) → opens (map Written outputs) ≡ 0
unfolding opens
opens_written [] = refl
opens_written (o ∷ os) = opens_written os

calls_written : (outputs : List Output) → calls_made (map Written outputs) ≡ 0
unfolding calls_made numbers
calls_written [] = refl
calls_written (o ∷ os) = calls_written os

pub opens_settled : (P Q : List Entry) → Settled P Q → opens Q ≡ opens P
opens_settled P Q s = ap opens s.appended ∙ (opens_append P (map Written s.outputs) ∙ omega (arith, opens_written s.outputs))

pub calls_settled : (P Q : List Entry) → Settled P Q → calls_made Q ≡ calls_made P
calls_settled P Q s = ap calls_made s.appended ∙ (calls_append P (map Written s.outputs) ∙ omega (arith, calls_written s.outputs))

none_opened : (moment : ℕ) → opens (Given (At moment) ∷ []) ≡ 0
unfolding opens
none_opened moment = refl

pub no_entry : opens [] ≡ 0
unfolding opens
no_entry = refl

none_called : (moment : ℕ) → calls_made (Given (At moment) ∷ []) ≡ 0
unfolding calls_made numbers
none_called moment = refl

pub no_call : calls_made [] ≡ 0
unfolding calls_made numbers
no_call = refl

opens_at : (H : List Entry) (moment : ℕ) → opens (at_if_later H moment) ≡ 0
opens_at H moment = go (nat_lt (now H) moment)
  where
    go : (later : Bool) → opens (if later then Given (At moment) ∷ [] else []) ≡ 0
    go true = none_opened moment
    go false = no_entry

calls_at : (H : List Entry) (moment : ℕ) → calls_made (at_if_later H moment) ≡ 0
calls_at H moment = go (nat_lt (now H) moment)
  where
    go : (later : Bool) → calls_made (if later then Given (At moment) ∷ [] else []) ≡ 0
    go true = none_called moment
    go false = no_call

-- an input after the At of its moment
pub opens_input : (H : List Entry) (moment : ℕ) (input : Input) → opens (with_input H moment input)
    ≡ opens H + opens (Given input ∷ [])
opens_input H moment input =
    opens_append (H ++ at_if_later H moment) (Given input ∷ [])
    ∙ omega (arith, opens_append H (at_if_later H moment), opens_at H moment)

pub calls_input : (H : List Entry) (moment : ℕ) (input : Input)
    → calls_made (with_input H moment input) ≡ calls_made H + calls_made (Given input ∷ [])
calls_input H moment input =
    calls_append (H ++ at_if_later H moment) (Given input ∷ [])
    ∙ omega (arith, calls_append H (at_if_later H moment), calls_at H moment)

pub opens_taken_in : (old new : KernelParts) (input : Input) → Takes old new input
    → opens new.history ≡ opens old.history + opens (Given input ∷ [])
opens_taken_in old new input takes = opens_settled _ _ takes.history ∙ opens_input old.history old.moment input

pub calls_taken_in : (old new : KernelParts) (input : Input) → Takes old new input
    → calls_made new.history ≡ calls_made old.history + calls_made (Given input ∷ [])
calls_taken_in old new input takes = calls_settled _ _ takes.history ∙ calls_input old.history old.moment input

pub few_opens : (H : List Entry) → opens H ≤ length H
unfolding opens
few_opens H = rw (length-filter opens_a_thread H) (count_by-le-length opens_a_thread H)

opened_is_no_call : (thread space : ℕ) → calls_made (Given (Opened thread space) ∷ []) ≡ 0
unfolding calls_made numbers
opened_is_no_call thread space = refl

one_opened : (thread space : ℕ) → opens (Given (Opened thread space) ∷ []) ≡ 1
unfolding opens
one_opened thread space = refl

pub calls_opened : (old new : KernelParts) (number space thread : ℕ) → Opens old new number space
    thread → calls_made new.history ≡ calls_made old.history
calls_opened old new number space thread opened = calls_taken_in old new (Opened thread space)
    opened.takes ∙ omega (arith, opened_is_no_call thread space)

pub opens_opened : (old new : KernelParts) (number space thread : ℕ) → Opens old new number space
    thread → opens new.history ≡ opens old.history + 1
opens_opened old new number space thread opened = opens_taken_in old new (Opened thread space)
    opened.takes ∙ ap (λ k. opens old.history + k) (one_opened thread space)

called_is_one : (n thread : ℕ) (call : CallParts) → calls_made (Given (Called n thread call) ∷ []) ≡ 1
unfolding calls_made numbers
called_is_one n thread call = refl

called_opens_none : (n thread : ℕ) (call : CallParts) → opens (Given (Called n thread call) ∷ []) ≡ 0
unfolding opens
called_opens_none n thread call = refl

pub calls_entered : (old new : KernelParts) (number thread : ℕ) (call : CallParts)
    → Enters old new number thread call → calls_made new.history ≡ calls_made old.history + 1
calls_entered old new number thread call entered = calls_taken_in old new
    (Called number thread call) entered.takes ∙ ap (λ k. calls_made old.history + k)
    (called_is_one number thread call)

pub opens_entered : (old new : KernelParts) (number thread : ℕ) (call : CallParts)
    → Enters old new number thread call → opens new.history ≡ opens old.history
opens_entered old new number thread call entered = opens_taken_in old new
    (Called number thread call) entered.takes ∙ omega (arith, called_opens_none number thread call)

-- calls, outcomes taken and threads opened are as many as before
pub record SameCounts (old new : KernelParts) : Type 0 where
  pub calls : calls_made new.history ≡ calls_made old.history
  pub opens : opens new.history ≡ opens old.history
  pub taken : length new.taken ≡ length old.taken

broke_calls : (thread : ℕ) → calls_made (Given (Broke thread) ∷ []) ≡ 0
unfolding calls_made numbers
broke_calls thread = refl

broke_opens : (thread : ℕ) → opens (Given (Broke thread) ∷ []) ≡ 0
unfolding opens
broke_opens thread = refl

exreg_calls : (thread target control : ℕ) → calls_made (Given (Exreg thread target control) ∷ []) ≡ 0
unfolding calls_made numbers
exreg_calls thread target control = refl

exreg_opens : (thread target control : ℕ) → opens (Given (Exreg thread target control) ∷ []) ≡ 0
unfolding opens
exreg_opens thread target control = refl

moved_calls : (n bytes : ℕ) → calls_made (Given (Moved n bytes) ∷ []) ≡ 0
unfolding calls_made numbers
moved_calls n bytes = refl

moved_opens : (n bytes : ℕ) → opens (Given (Moved n bytes) ∷ []) ≡ 0
unfolding opens
moved_opens n bytes = refl

pub breaks_same : (old new : KernelParts) (thread : ℕ) → Breaks old new thread → SameCounts old new
breaks_same old new thread b = record {
  calls = calls_taken_in old new (Broke thread) b.takes ∙ omega (arith, broke_calls thread);
  opens = opens_taken_in old new (Broke thread) b.takes ∙ omega (arith, broke_opens thread);
  taken = ap (λ (l : List ℕ). length l) b.taken;
}

pub exchanges_same : (old new : KernelParts) (thread target control : ℕ) (answer : ExregAnswer)
    → Exchanges old new thread target control answer → SameCounts old new
exchanges_same old new thread target control answer e = record {
  calls = calls_taken_in old new (Exreg thread target (masked_of control)) e.takes
      ∙ omega (arith, exreg_calls thread target (masked_of control));
  opens = opens_taken_in old new (Exreg thread target (masked_of control)) e.takes
      ∙ omega (arith, exreg_opens thread target (masked_of control));
  taken = ap (λ (l : List ℕ). length l) e.taken;
}

takes_same : (old new : KernelParts) (input : Input) → Takes old new input
    → calls_made (Given input ∷ []) ≡ 0 → opens (Given input ∷ []) ≡ 0 → new.taken ≡ old.taken
    → SameCounts old new
takes_same old new input takes no_calls no_opens same = record {
  calls = calls_taken_in old new input takes ∙ omega (arith, no_calls);
  opens = opens_taken_in old new input takes ∙ omega (arith, no_opens);
  taken = ap (λ (l : List ℕ). length l) same;
}

pub advances_same : (old new : KernelParts) → Advances old new → SameCounts old new
advances_same old new a = takes_same old new _ a.takes (moved_calls _ _) (moved_opens _ _) a.taken

pub rests_same : (old new : KernelParts) → new ≡ rested old → SameCounts old new
rests_same old new is = record {
  calls = ap (λ (k : KernelParts). calls_made k.history) is;
  opens = ap (λ (k : KernelParts). opens k.history) is;
  taken = ap (λ (k : KernelParts). length k.taken) is;
}

at_calls : (H : List Entry) (moment : ℕ) → calls_made (H ++ Given (At moment) ∷ []) ≡ calls_made H
at_calls H moment = calls_append H (Given (At moment) ∷ []) ∙ omega (arith, none_called moment)

at_opens : (H : List Entry) (moment : ℕ) → opens (H ++ Given (At moment) ∷ []) ≡ opens H
at_opens H moment = opens_append H (Given (At moment) ∷ []) ∙ omega (arith, none_opened moment)

pub ticks_same : (old new : KernelParts) (reading : ℕ) → Ticks old new reading → SameCounts old new
ticks_same old new reading t = go _ t.history
  where
    go : (due : Bool) → MatchBool due (Settled (old.history ++ Given (At (at_moment old reading)) ∷
        []) new.history) (new.history ≡ old.history) → SameCounts old new
    go true s = record {
      calls = calls_settled _ _ s ∙ at_calls old.history (at_moment old reading);
      opens = opens_settled _ _ s ∙ at_opens old.history (at_moment old reading);
      taken = ap (λ (l : List ℕ). length l) t.taken;
    }
    go false e = record {
      calls = ap calls_made e;
      opens = ap opens e;
      taken = ap (λ (l : List ℕ). length l) t.taken;
    }

-- a thread's share of the counts
pub made_few : (H : List Entry) (thread : ℕ) → made_by H thread ≤ length H
unfolding made_by calls.made_by
made_few H thread = go (is_live H thread)
  where
    go : (live : Bool) → (if live then count_by (calls.calls_by thread) H else 0) ≤ length H
    go true = count_by-le-length (calls.calls_by thread) H
    go false = omega arith

pub taken_few : (kernel : KernelParts) (thread : ℕ) → taken_by kernel thread ≤ length kernel.taken
unfolding taken_by calls.taken_by
taken_few kernel thread = go (is_live kernel.history thread)
  where
    go : (live : Bool) → (if live then count_by (λ n. caller_of kernel.history n == thread)
        kernel.taken else 0) ≤ length kernel.taken
    go true = count_by-le-length (λ n. caller_of kernel.history n == thread) kernel.taken
    go false = omega arith

-- an amount that is the kernel's count
pub seat_refuses : (amount count : ℕ) (cause : Option Refusal) (refusal : Refusal) → amount ≡ count
    → MayRefuse cause refusal → SeatRefuses amount count cause refusal
seat_refuses amount count cause refusal same refused = subst
    (λ n. MatchBool (amount == n) (MayRefuse cause refusal) (refusal ≡ NoThread)) same
    (rw (eq-eqb amount amount refl) refused)

same_as_before : (old new : KernelParts) → new ≡ old → SameCounts old new
same_as_before old new is = record {
  calls = ap (λ (k : KernelParts). calls_made k.history) is;
  opens = ap (λ (k : KernelParts). opens k.history) is;
  taken = ap (λ (k : KernelParts). length k.taken) is;
}

-- whether a command was accepted or refused
pub exreg_same : (old new : KernelParts) (thread target control : ℕ) (X : Type 0)
    (result : Result ExregAnswer Refusal)
    → IfOk result (λ answer. X × Exchanges old new thread target control answer)
    → OnErr result (new ≡ old) → SameCounts old new
exreg_same old new thread target control X (Ok answer) ok err = exchanges_same old new thread target control answer ok.1
exreg_same old new thread target control X (Err refusal) ok err = same_as_before old new err

pub broke_same : {A E : Type 0} (old new : KernelParts) (thread : ℕ) (X : Type 0)
    (result : Result A E) → OnOk result (X × Breaks old new thread) → OnErr result (new ≡ old)
    → SameCounts old new
broke_same old new thread X (Ok done) ok err = breaks_same old new thread ok.1
broke_same old new thread X (Err gone) ok err = same_as_before old new err

pub advance_same : (old new : KernelParts) (X : Type 0) (result : Advance)
    → (result ≡ advance.Moved → Advances old new)
    → (result ≡ advance.Idle → X × (new ≡ rested old)) → SameCounts old new
advance_same old new X advance.Moved moved idle = advances_same old new (moved refl)
advance_same old new X advance.Idle moved idle = rests_same old new (idle refl).1

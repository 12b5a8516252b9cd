-- The changes of an entry name the places of the calls that it names.
use Rattle.std.proofs.lemmas.Bool.{or_cases, or_left, or_right}
use Rattle.std.proofs.Common.{◌≡◌, ap, ◌∙◌, subst, ℕ, ◌==◌, eq-eqb, eqb-true, true, false, List, [], ◌∷◌, ◌++◌, Some, None, ◌⊎◌, inl, inr}
use Rattle.ipc_words.specs.ThreadId.{number_of}
use Rattle.ipc_history.specs.CallParts.{CallParts}
use Rattle.ipc_history.specs.Calls.{caller_of}
use Rattle.ipc_history.specs.Entries.{names}
use Rattle.ipc_history.specs.Legal.{Follows, Legal}
use Rattle.ipc_history.specs.Phases.{is_over}
use Rattle.ipc_history.specs.declared.entry.Entry.{Entry}
use Rattle.ipc_history.specs.declared.entry.Entry.TheVariants.{Given, Written}
use Rattle.ipc_history.specs.declared.entry.Input.TheVariants.{Called, Moved}
use Rattle.ipc_history.specs.declared.entry.Output.{Output}
use Rattle.ipc_history.specs.declared.entry.Output.TheVariants.{Began, Turned, Ended, Overflowed, Aborted, Failed}
use Rattle.ipc_laws.proofs.Growth.{caller_of_kept, open_is_called}
use Rattle.ipc_threads.specs.Changes.{HasNamed, change_at, changes_at}
use Rattle.ipc_threads.specs.Steps.{Names}
use Rattle.ipc_threads.specs.declared.changes.Changes.{Changes}
use Rattle.ipc_threads.specs.Slot.{Slot}
use Rattle.ipc_threads.proofs.CallSteps.{new_caller}
use Rattle.ipc_threads.proofs.OutputCalls.{both_open}

-- a change at this place, as the only one, as the first and as the second
pub only_at : (table : List Slot) (place k : ℕ) → place ≡ k → changes_at (record { first = Some (change_at table place); second = None }) k ≡ true
only_at table place k is = or_left (place == k) _ (eq-eqb place k is)

pub first_at : (table : List Slot) (place other k : ℕ) → place ≡ k → changes_at (record { first = Some (change_at table place); second = Some (change_at table other) }) k ≡ true
first_at table place other k is = or_left (place == k) _ (eq-eqb place k is)

pub second_at : (table : List Slot) (other place k : ℕ) → place ≡ k → changes_at (record { first = Some (change_at table other); second = Some (change_at table place) }) k ≡ true
second_at table other place k is = or_right (other == k) _ (eq-eqb place k is)

-- an output names one of its two calls
named_either : (output : Output) (a b n : ℕ) → Names output a b → names n (Written output) ≡ true → (a ≡ n) ⊎ (b ≡ n)
named_either (Began k j) a b n is named = elim (or_cases (k == n) (j == n) named) [ inl x ↦ inl (is.0 ∙ eqb-true k n x) | inr y ↦ inr (is.1 ∙ eqb-true j n y) ]
named_either (Turned k thread) a b n is named = inl (is.0 ∙ eqb-true k n named)
named_either (Ended k j) a b n is named = elim (or_cases (k == n) (j == n) named) [ inl x ↦ inl (is.0 ∙ eqb-true k n x) | inr y ↦ inr (is.1 ∙ eqb-true j n y) ]
named_either (Overflowed k j offset) a b n is named = elim (or_cases (k == n) (j == n) named) [ inl x ↦ inl (is.0 ∙ eqb-true k n x) | inr y ↦ inr (is.1 ∙ eqb-true j n y) ]
named_either (Aborted k j count) a b n is named = elim (or_cases (k == n) (j == n) named) [ inl x ↦ inl (is.0 ∙ eqb-true k n x) | inr y ↦ inr (is.1 ∙ eqb-true j n y) ]
named_either (Failed k code) a b n is named = inl (is.0 ∙ eqb-true k n named)

-- so it is enough that the places of the two are among the changes
module _ (P : List Entry) (e : Entry) (changes : Changes) where
  there : (n : ℕ) → is_over P n ≡ false → changes_at changes (number_of (caller_of P n)) ≡ true → changes_at changes (number_of (caller_of (P ++ e ∷ []) n)) ≡ true
  there n opened at = ap (λ t. changes_at changes (number_of t)) (caller_of_kept P (e ∷ []) n (open_is_called P n opened)) ∙ at

pub output_named : (P : List Entry) (output : Output) (a b : ℕ) (changes : Changes) → Follows P (Written output) → Names output a b → changes_at changes (number_of (caller_of P a)) ≡ true → changes_at changes (number_of (caller_of P b)) ≡ true → HasNamed P (Written output) changes
output_named P output a b changes follows is first second n named =
    let opened = both_open P output follows a b is in
    elim (named_either output a b n is named) [
      | inl x ↦ there P (Written output) changes n (subst (λ n. is_over P n ≡ false) x opened.0) (subst (λ n. changes_at changes (number_of (caller_of P n)) ≡ true) x first)
      | inr y ↦ there P (Written output) changes n (subst (λ n. is_over P n ≡ false) y opened.1) (subst (λ n. changes_at changes (number_of (caller_of P n)) ≡ true) y second)
    ]

pub moved_named : (P : List Entry) (k count : ℕ) (changes : Changes) → is_over P k ≡ false → changes_at changes (number_of (caller_of P k)) ≡ true → HasNamed P (Given (Moved k count)) changes
moved_named P k count changes opened at n named = there P (Given (Moved k count)) changes n (subst (λ n. is_over P n ≡ false) (eqb-true k n named) opened) (subst (λ n. changes_at changes (number_of (caller_of P n)) ≡ true) (eqb-true k n named) at)

-- and of a call its caller's place
pub called_named : (P : List Entry) (k t : ℕ) (call : CallParts) (changes : Changes) → Legal P → Follows P (Given (Called k t call)) → changes_at changes (number_of t) ≡ true → HasNamed P (Given (Called k t call)) changes
called_named P k t call changes legal follows at n named = subst (λ n. changes_at changes (number_of (caller_of (P ++ Given (Called k t call) ∷ []) n)) ≡ true) (eqb-true k n named) (ap (λ t. changes_at changes (number_of t)) (new_caller P k t call legal follows) ∙ at)

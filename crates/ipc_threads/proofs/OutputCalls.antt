-- The calls that an output names.
use Rattle.std.proofs.lemmas.Bool.{false≢true, or_cases}
use Rattle.std.proofs.lemmas.Option.{none-some, cond_some}
use Rattle.std.proofs.Common.{◌≡◌, refl, sym, ap, ◌∙◌, ℕ, ◌==◌, ◌||◌, eqb-true, eq-eqb, Bool, true, false, List, ◌⊎◌, inl, inr}
use Rattle.ipc_history.specs.Entries.{names}
use Rattle.ipc_history.specs.Calls.{caller_of}
use Rattle.ipc_history.specs.Phases.{is_over, moved_bytes}
use Rattle.ipc_history.specs.Legal.{Legal, Follows}
use Rattle.ipc_history.specs.declared.entry.Entry.{Entry}
use Rattle.ipc_history.specs.declared.entry.Entry.TheVariants.{Written}
use Rattle.ipc_history.specs.declared.entry.Output.{Output}
use Rattle.ipc_history.specs.declared.entry.Output.TheVariants.{Began, Turned, Ended, Overflowed, Aborted, Failed}
use Rattle.ipc_laws.proofs.Histories.{named_open}
use Rattle.ipc_threads.specs.Slots.{slot_of}
use Rattle.ipc_threads.specs.Steps.{Names, names_two, holds, held_sender}
use Rattle.ipc_threads.proofs.Holders.{sender_is}
use Rattle.ipc_threads.proofs.StandingSteps.{IsSender}

either : (i j n m k : ℕ) → (n ≡ i) × (m ≡ j) → ((i == k) || (j == k)) ≡ true → (k ≡ n) ⊎ (k ≡ m)
either i j n m k is h = elim (or_cases (i == k) (j == k) h) [ inl e ↦ inl (sym (eqb-true i k e) ∙ sym is.0) | inr e ↦ inr (sym (eqb-true j k e) ∙ sym is.1) ]

-- it names no other
pub named_only : (output : Output) (n m : ℕ) → Names output n m → (k : ℕ) → names k (Written output) ≡ true → (k ≡ n) ⊎ (k ≡ m)
named_only (Began i j) n m is k h = either i j n m k is h
named_only (Turned i thread) n m is k h = inl (sym (eqb-true i k h) ∙ sym is.0)
named_only (Ended i j) n m is k h = either i j n m k is h
named_only (Overflowed i j offset) n m is k h = either i j n m k is h
named_only (Aborted i j count) n m is k h = either i j n m k is h
named_only (Failed i code) n m is k h = inl (sym (eqb-true i k h) ∙ sym is.0)

first_named : (i j : ℕ) → ((i == i) || (j == i)) ≡ true
first_named i j = rw (eq-eqb i i refl) refl

second_named : (i j : ℕ) → ((i == j) || (j == j)) ≡ true
second_named i j = rw (eq-eqb j j refl) (last (i == j))
  where
    last : (b : Bool) → (b || true) ≡ true
    last true = refl
    last false = refl

-- the two are open
pub both_open : (P : List Entry) (output : Output) → Follows P (Written output) → (n m : ℕ) → Names output n m → (is_over P n ≡ false) × (is_over P m ≡ false)
both_open P (Began i j) f n m is = rw (is.0, is.1) (named_open P (Written (Began i j)) f i (first_named i j) refl, named_open P (Written (Began i j)) f j (second_named i j) refl)
both_open P (Turned i thread) f n m is = rw (is.0, is.1) (named_open P (Written (Turned i thread)) f i (eq-eqb i i refl) refl, named_open P (Written (Turned i thread)) f i (eq-eqb i i refl) refl)
both_open P (Ended i j) f n m is = rw (is.0, is.1) (named_open P (Written (Ended i j)) f i (first_named i j) refl, named_open P (Written (Ended i j)) f j (second_named i j) refl)
both_open P (Overflowed i j offset) f n m is = rw (is.0, is.1) (named_open P (Written (Overflowed i j offset)) f i (first_named i j) refl, named_open P (Written (Overflowed i j offset)) f j (second_named i j) refl)
both_open P (Aborted i j count) f n m is = rw (is.0, is.1) (named_open P (Written (Aborted i j count)) f i (first_named i j) refl, named_open P (Written (Aborted i j count)) f j (second_named i j) refl)
both_open P (Failed i code) f n m is = rw (is.0, is.1) (named_open P (Written (Failed i code)) f i (eq-eqb i i refl) refl, named_open P (Written (Failed i code)) f i (eq-eqb i i refl) refl)

-- the sending call of a Began is held where the first one is
pub sender_told : (P : List Entry) (output : Output) (legal : Legal P) (follows : Follows P (Written output)) (n m i : ℕ) → Names output n m → holds (slot_of P i) n ≡ true → IsSender P (Written output) legal follows (held_sender (slot_of P i)).caller (held_sender (slot_of P i)).moved
sender_told P (Began k j) legal f n m i is h x y e =
    let c = cond_some (j == x) k y e in
    let same : n ≡ y = is.0 ∙ c.1 in
    let told = sender_is P i n h in
    (ap (λ s. s.caller) told ∙ ap (caller_of P) same, ap (λ s. s.moved) told ∙ ap (moved_bytes P) same)
sender_told P _ legal f n m i is h x y e = absurd (none-some y e)

-- an output that begins nothing has none
pub no_sender_told : (P : List Entry) (output : Output) (legal : Legal P) (follows : Follows P (Written output)) → names_two output ≡ false → (caller moved : ℕ) → IsSender P (Written output) legal follows caller moved
no_sender_told P (Began k j) legal f none caller moved x y e = absurd (false≢true (sym none))
no_sender_told P _ legal f none caller moved x y e = absurd (none-some y e)

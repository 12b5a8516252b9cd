-- The slots of a table.
use Rattle.std.proofs.Common.{◌≡◌, refl, ap, ℕ, zero, suc, ◌<◌, ◌≤◌, ◌==◌, eqb-true, eq-eqb, true, false, List, [], ◌∷◌, length, Option, Some, None, option_map, option_and_then, inl, inr, arith}
use Rattle.std.specs.Prelude.{replicate}
use Rattle.std.specs.Option.{option_map_or}
use Rattle.std.proofs.lemmas.Bool.{false≢true, cases_order}
use Rattle.ipc_threads.specs.Slots.{slot_at, blank}
use Rattle.ipc_threads.specs.Steps.{with_call, live_with, standing_in, holds}
use Rattle.ipc_threads.specs.declared.slot.Standing.{Standing}
use Rattle.ipc_threads.specs.declared.slot.Live.{Live}
use Rattle.ipc_threads.specs.Slot.{Slot}

-- an empty table
pub slot_at-replicate : (n k : ℕ) → slot_at (replicate n blank) k ≡ blank
slot_at-replicate zero k = refl
slot_at-replicate (suc n) zero = refl
slot_at-replicate (suc n) (suc k) = slot_at-replicate n k

-- nothing stands past the end
pub slot_at-past : (table : List Slot) (k : ℕ) → length table ≤ k → slot_at table k ≡ blank
slot_at-past [] k h = refl
slot_at-past (x ∷ xs) zero h = absurd (omega arith)
slot_at-past (x ∷ xs) (suc k) h = slot_at-past xs k (omega arith)

pub none_past : (table : List Slot) (k n : ℕ) → length table ≤ k → holds (slot_at table k) n ≡ false
none_past table k n h = rw (slot_at-past table k h) refl

-- a change that leaves the call of a slot leaves the slot
pub change_none : (change : Standing → Option Standing) (slot : Slot) → ((s : Standing) → standing_in slot ≡ Some s → change s ≡ Some s) → with_call change slot ≡ slot
change_none change slot h = ap (λ l. record slot { live = l }) (go slot.live h)
  where
    call : (l : Live) (o : Option Standing) → ((s : Standing) → o ≡ Some s → change s ≡ Some s) → option_and_then change o ≡ o
    call l None h = refl
    call l (Some s) h = h s refl

    go : (o : Option Live) → ((s : Standing) → option_and_then (λ l. l.call) o ≡ Some s → change s ≡ Some s) → option_map (live_with change) o ≡ o
    go None h = refl
    go (Some l) h = ap (λ c. Some (record l { call = c })) (call l l.call h)

-- what holds a call
pub held : (slot : Slot) (n : ℕ) → holds slot n ≡ true → (s : Standing) × (standing_in slot ≡ Some s) × (s.number ≡ n)
held slot n h = go (standing_in slot) refl h
  where
    go : (o : Option Standing) → standing_in slot ≡ o → option_map_or (λ s. s.number == n) o false ≡ true → (s : Standing) × (standing_in slot ≡ Some s) × (s.number ≡ n)
    go None e h = absurd (false≢true h)
    go (Some s) e h = (s, e, eqb-true s.number n h)

pub holds_it : (slot : Slot) (s : Standing) → standing_in slot ≡ Some s → holds slot s.number ≡ true
holds_it slot s e = rw e (eq-eqb s.number s.number refl)

pub none_anywhere : (table : List Slot) (n i : ℕ) → length table ≤ i → ((k : ℕ) → k < i → holds (slot_at table k) n ≡ false) → (k : ℕ) → holds (slot_at table k) n ≡ false
none_anywhere table n i past below k = elim (cases_order k i) [ inl e ↦ none_past table k n (omega arith) | inr (inl less) ↦ below k less | inr (inr more) ↦ none_past table k n (omega arith) ]

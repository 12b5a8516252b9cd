-- The best of the calls at some places.
use Rattle.std.proofs.lemmas.Bool.{false≢true, or_cases}
use Rattle.std.proofs.Common.{◌≡◌, refl, sym, ap, ◌∙◌, subst, ℕ, zero, suc, ◌+◌, ◌<◌, ◌==◌, eqb-true, true, false, List, [], ◌∷◌, length, get_or, Option, Some, None, option_map, inl, inr, arith}
use Rattle.ipc_words.specs.ThreadId.{number_of}
use Rattle.ipc_history.specs.Words.{first_some}
use Rattle.ipc_history.specs.Calls.{numbers, caller_of}
use Rattle.ipc_history.specs.Phases.{is_over}
use Rattle.ipc_history.specs.Legal.{Legal}
use Rattle.ipc_history.specs.declared.entry.Entry.{Entry}
use Rattle.ipc_history.specs.declared.entry.Output.{Output}
use Rattle.ipc_waits.specs.Finding.{is_among}
use Rattle.ipc_waits.specs.FindingLaws.{AsksOnly}
use Rattle.ipc_waits.specs.Least.{IsFound, IsLeast, better_of}
use Rattle.ipc_waits.specs.Rules.{rule_of}
use Rattle.ipc_threads.specs.Slots.{Stands, slot_at}
use Rattle.ipc_threads.specs.Standings.{standing_of}
use Rattle.ipc_threads.specs.Steps.{standing_in}
use Rattle.ipc_waits.specs.declared.rules.Rule.{Rule}
use Rattle.ipc_threads.specs.Slot.{Slot}
use Rattle.ipc_threads.specs.declared.kept.KeptSlots.{KeptSlots}
use Rattle.ipc_waits.proofs.Betters.{least_better}
use Rattle.ipc_threads.proofs.Holders.{slot_of_call, standing_number}
use Rattle.ipc_waits.proofs.LeastLemmas.{first_found, rule_over}
use Rattle.ipc_waits.specs.Next.{IsBest, slots_at}

-- the slot of the i-th place
pub slot_there : (table : List Slot) (places : List ℕ) (i d : ℕ) → i < length places → slot_at (slots_at table places) i ≡ slot_at table (get_or places i d)
slot_there table [] i d within = absurd (omega arith)
slot_there table (k ∷ ks) zero d within = refl
slot_there table (k ∷ ks) (suc i) d within = slot_there table ks i d (omega arith)

-- a place is the i-th for some i
pub index_of : (places : List ℕ) (k d : ℕ) → is_among places k ≡ true → (i : ℕ) × (i < length places) × (get_or places i d ≡ k)
index_of [] k d among = absurd (false≢true among)
index_of (x ∷ xs) k d among = elim (or_cases (x == k) (is_among xs k) among) [
  | inl same ↦ (0, omega arith, eqb-true x k same)
  | inr later ↦ (let i = index_of xs k d later in (suc i.0, (let within = i.1 in omega arith), i.2))
]

-- one more place
pub best_more : (f : ℕ → Option Output) (table : List Slot) (places : List ℕ) (i place d : ℕ) (best : Option (ℕ × Output)) → i < length places → place ≡ get_or places i d → IsLeast f (slots_at table places) i best → IsLeast f (slots_at table places) (i + 1) (better_of f (standing_in (slot_at table place)) best)
best_more f table places i place d best within is least =
    let there : slot_at (slots_at table places) i ≡ slot_at table place = slot_there table places i d within ∙ ap (slot_at table) (sym is) in
    subst (λ slot. IsLeast f (slots_at table places) (i + 1) (better_of f (standing_in slot) best)) there (least_better f (slots_at table places) i best least)

-- an open call whose place is among them is seen
pub seen_there : (P : List Entry) (slots : KeptSlots) → Legal P → Stands P slots → (places : List ℕ) (n : ℕ) → is_over P n ≡ false → is_among places (number_of (caller_of P n)) ≡ true → (i : ℕ) × (i < length places) × (standing_in (slot_at (slots_at slots.table places) i) ≡ Some (standing_of P n))
seen_there P slots legal stands places n opened placed =
    let k = number_of (caller_of P n) in
    let i = index_of places k 0 placed in
    let at : standing_in (slot_at slots.table k) ≡ Some (standing_of P n) = ap standing_in (stands.table k) ∙ slot_of_call P legal n opened in
    (i.0, i.1, ap standing_in (slot_there slots.table places i.0 0 i.1 ∙ ap (slot_at slots.table) i.2) ∙ at)

-- so the best of the places is the first in call order
pub best_is : (P : List Entry) (slots : KeptSlots) (rule : Rule) (places : List ℕ) (best : Option (ℕ × Output)) → Legal P → Stands P slots → AsksOnly P places (rule_of rule P) → IsBest (rule_of rule P) slots.table places best → first_some (rule_of rule P) (numbers P) ≡ option_map (λ b. b.1) best
best_is P slots rule places best legal stands asks is = first_found P legal (rule_of rule P) (rule_over rule P) best is.is found
  where
    found : (n : ℕ) (y : Output) → rule_of rule P n ≡ Some y → ((k : ℕ) → k < n → rule_of rule P k ≡ None) → IsFound best n
    found n y gives none =
        let at = asks n y gives in
        let i = seen_there P slots legal stands places n at.opened at.placed in
        let low = is.seen i.0 i.1 (standing_of P n) i.2 y (ap (rule_of rule P) (standing_number P n) ∙ gives) in
        subst (IsFound best) (standing_number P n) low

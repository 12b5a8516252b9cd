-- The live threads by their numbers.
use Rattle.std.proofs.Common.{◌≡◌, ◌≢◌, refl, ◌∙◌, ℕ, ◌+◌, ◌<◌, List, length, get_or, Some, None, arith, below_more}
use Rattle.std.proofs.Math.ListN.{set}
use Rattle.std.proofs.lemmas.List.{get_or-set_same, get_or-set_other}
use Rattle.ipc_history.specs.Threads.{space_of}
use Rattle.ipc_history.specs.declared.entry.Entry.{Entry}
use Rattle.ipc_threads.specs.Slots.{Stands, live_at, live_of, slot_of, slot_at}
use Rattle.ipc_threads.specs.Steps.{standing_in}
use Rattle.ipc_threads.specs.declared.kept.KeptSlots.{KeptSlots}

-- no thread of the number is live
pub live_none : (P : List Entry) (k : ℕ) → None ≡ live_of P k → None ≡ (slot_of P k).live
unfolding slot_of
live_none P k none = rw (← none) refl

-- the live thread of the number
pub live_some : (P : List Entry) (slots : KeptSlots) (k t space : ℕ) → Stands P slots → Some t ≡ live_of P k
    → space ≡ space_of P t → Some (record { thread = t; space = space; call = standing_in (slot_at slots.table k) }) ≡ (slot_of P k).live
unfolding slot_of live_at
live_some P slots k t space stands some is = rw (stands.table k, ← some, is) refl

-- one place more
pub set_more : {X : Type 0} (xs : List X) (place : ℕ) (x d : X) (f : ℕ → X) → place < length xs → ((k : ℕ) → k < place → get_or xs k d ≡ f k)
    → x ≡ f place → (k : ℕ) → k < place + 1 → get_or (set xs place x) k d ≡ f k
set_more xs place x d f within before is =
    below_more (λ k. get_or (set xs place x) k d ≡ f k) place
    (λ k below. let other : k ≢ place = omega arith in get_or-set_other xs place k x d other ∙ before k below)
    (get_or-set_same xs place x d within ∙ is)

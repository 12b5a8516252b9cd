-- An open call as the slots have it.
use Rattle.std.proofs.Common.{◌≡◌, sym, ap, ◌∙◌, ℕ, ◌<◌, List, Option, Some, None, true, false}
use Rattle.ipc_words.specs.Limits.{table_slots}
use Rattle.ipc_words.specs.ThreadId.{number_of}
use Rattle.ipc_history.specs.Calls.{caller_of}
use Rattle.ipc_history.specs.Legal.{Legal}
use Rattle.ipc_history.specs.Phases.{is_over}
use Rattle.ipc_history.specs.declared.entry.Entry.{Entry}
use Rattle.ipc_threads.specs.Slots.{Stands, slot_at}
use Rattle.ipc_threads.specs.Standings.{standing_of}
use Rattle.ipc_threads.specs.Steps.{holds, standing_in}
use Rattle.ipc_threads.specs.declared.kept.KeptSlots.{KeptSlots}
use Rattle.ipc_threads.specs.declared.slot.Standing.{Standing}
use Rattle.ipc_threads.proofs.Holders.{held_somewhere, none_held, slot_call, slot_full}

-- the slot that holds a call has what is said of it
pub call_there : (P : List Entry) (slots : KeptSlots) → Stands P slots → (n place : ℕ) → holds (slot_at slots.table place) n ≡ true
    → (found : Option Standing) → found ≡ standing_in (slot_at slots.table place) → found ≡ Some (standing_of P n)
call_there P slots stands n place there None is = absurd (slot_full P slots place n there (sym is))
call_there P slots stands n place there (Some s) is =
    let call = slot_call P slots stands place n there s (sym is) in
    ap Some (call.0.is ∙ ap (standing_of P) call.1)

-- where no slot holds it, it is not open
pub none_there : (P : List Entry) (slots : KeptSlots) → Legal P → Stands P slots → (n : ℕ)
    → ((k : ℕ) → k < table_slots → holds (slot_at slots.table k) n ≡ false) → is_over P n ≡ false → ⊥
none_there P slots legal stands n none unfinished =
    none_held P slots stands n table_slots stands.top none (number_of (caller_of P n))
    (held_somewhere P legal slots.table stands.table n unfinished)
